use Rattle.cif_inst_laws.proofs.SmallLaws.{small-parts}
use Rattle.cif_inst_laws.proofs.small.counted_trees_have_small_parts.Goals as goal

pub returns : goal.returns
returns c = small-parts
