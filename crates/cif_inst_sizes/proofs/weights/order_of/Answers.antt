use Rattle.cif_inst_sizes.proofs.GrowLaws.{inside}
use Rattle.cif_inst_sizes.proofs.weights.order_of.Goals as goal

pub order-requires-clause-inside : goal.order-requires-clause-inside
order-requires-clause-inside c = inside c.args.needs.now c.requires
