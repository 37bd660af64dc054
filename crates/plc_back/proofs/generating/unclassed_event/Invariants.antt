use Rattle.std.proofs.Common.{◌≡◌, map, drop}
use Rattle.cif_net.specs.View.{event_tree}
use Rattle.plc_back.specs.Written.{first_unclassed}
use Rattle.plc_back.proofs.generating.unclassed_event.Given as goal

abbrev pub invariant-loop-number : goal.invariant-loop-number
invariant-loop-number l = first_unclassed l.number (map event_tree (drop l.number l.events)) ≡ first_unclassed 0 (map event_tree l.events)
