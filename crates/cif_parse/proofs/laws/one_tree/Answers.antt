use Rattle.cif_parse.proofs.Whole.{reads_one}
use Rattle.cif_parse.proofs.laws.one_tree.Goals as goal

pub returns : goal.returns
returns c = reads_one
