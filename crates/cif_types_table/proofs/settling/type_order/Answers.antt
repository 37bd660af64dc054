use Rattle.std.proofs.Common.{Err, ap, ◌∙◌}
use Rattle.cif_types_table.proofs.settling.type_order.Goals as goal

pub unreachable-requires : goal.unreachable-requires
unreachable-requires c = c.requires.acyclic c.in-Err-Cycle.field-0-0 (c.order.ensures.cycle c.in-Err-Cycle.field-0-0 (c.in-Err-Cycle.is ∙ ap Err c.in-Err-Cycle.field-0-is))
