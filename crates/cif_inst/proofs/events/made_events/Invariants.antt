use Rattle.std.proofs.Common.{◌≡◌, ◌++◌, map, drop}
use Rattle.cif_net.specs.View.{event_tree}
use Rattle.cif_inst.specs.Events.{made_event}
use Rattle.cif_inst.specs.Typing.{typed_source}
use Rattle.cif_inst.specs.Views.{event_datum}
use Rattle.cif_inst.proofs.events.made_events.Given as goal

abbrev pub invariant-loop-one : goal.invariant-loop-one
invariant-loop-one l = map event_tree l.all ++ map (made_event (typed_source l.typing)) (map event_datum (drop l.one-index l.found)) ≡ map (made_event (typed_source l.typing)) (map event_datum l.found)
