use Rattle.cif_alg_unfold.specs.Tables.{by_table}
use Rattle.cif_alg_unfold.proofs.EachLaws.{each-replaced}
use Rattle.cif_alg_unfold.proofs.replacing.Replacing.values.Goals as goal

pub returns : goal.returns
returns c = each-replaced (by_table c.args.self.now.by.now) c.in_ok-made.made c.args.all.now c.in_ok-made.ensures
