use Rattle.cif_source.specs.Source.{type_tree}
use Rattle.cif_inst_types.proofs.LeafLaws.{type-told}
use Rattle.cif_inst_types.proofs.types.type_of.Goals as goal

pub returns : goal.returns
returns c = λ t d h listed own m. type-told t c.args.types.now c.args.turns h c.args.body d (type_tree c.args.ty.now) c.net_ty.result c.leaf_of.result (listed, own) m c.leaf_of.ensures c.net_ty.ensures
