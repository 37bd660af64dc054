use Rattle.std.proofs.Common.{◌≡◌, ◌++◌, map, drop}
use Rattle.cif_inst.specs.Events.{rows_events}
use Rattle.cif_inst_paths.specs.Views.{row_tree}
use Rattle.cif_inst.specs.Views.{event_datum}
use Rattle.cif_inst.proofs.events.all_events.Given as goal

abbrev pub invariant-loop-place : goal.invariant-loop-place
invariant-loop-place l = map event_datum l.found.items ++ rows_events l.place (map row_tree (drop l.place l.rows)) ≡ rows_events 0 (map row_tree l.rows)
