use Rattle.std.proofs.Common.{◌≡◌, ◌++◌, map, flat_map, drop}
use Rattle.cif_source.specs.Source.{use_tree}
use Rattle.cif_source.specs.Uses.{event_uses}
use Rattle.cif_scope_uses.specs.Views.{use_of}
use Rattle.cif_scope_uses.proofs.edges.add_events.Given as goal

abbrev pub invariant-loop-event : goal.invariant-loop-event
invariant-loop-event l = map use_of l.found.items ++ flat_map event_uses (map use_tree (drop l.event-index l.all)) ≡ map use_of l.fn.found.items ++ flat_map event_uses (map use_tree l.all)
