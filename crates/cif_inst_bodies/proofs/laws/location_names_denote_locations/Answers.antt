use Rattle.cif_inst_bodies.proofs.DenotedLaws.{location-names}
use Rattle.cif_inst_bodies.proofs.laws.location_names_denote_locations.Goals as goal

pub returns : goal.returns
returns c = location-names
