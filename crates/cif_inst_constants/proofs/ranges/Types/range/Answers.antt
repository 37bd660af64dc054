use Rattle.cif_source.specs.Source.{type_tree}
use Rattle.cif_inst_constants.proofs.RangeLaws.{ranged}
use Rattle.cif_inst_constants.proofs.ranges.Types.range.Goals as goal

pub returns : goal.returns
returns c = λ t d h listed own m. ranged t c.args.self.now c.args.turns c.args.body d (type_tree c.args.ty.now) c.walk.result h listed own m c.walk.ensures
