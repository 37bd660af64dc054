use Rattle.std.proofs.Common.{◌≡◌, ◌++◌, map, drop}
use Rattle.cif_ast.specs.View.{view_items}
use Rattle.cif_source.specs.Source.{source_items}
use Rattle.cif_inst.specs.Events.{items_events}
use Rattle.cif_inst.specs.Views.{event_datum}
use Rattle.cif_inst.proofs.events.add_items.Given as goal

abbrev pub invariant-loop-item : goal.invariant-loop-item
invariant-loop-item l = map event_datum l.all.items ++ items_events l.component l.prefix (source_items (view_items (drop l.item-index l.items))) ≡ map event_datum l.fn.all.items ++ items_events l.component l.prefix (source_items (view_items l.items))
