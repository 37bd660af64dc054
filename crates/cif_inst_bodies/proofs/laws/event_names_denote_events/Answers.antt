use Rattle.cif_inst_bodies.proofs.DenotedLaws.{event-names}
use Rattle.cif_inst_bodies.proofs.laws.event_names_denote_events.Goals as goal

pub returns : goal.returns
returns c = event-names
