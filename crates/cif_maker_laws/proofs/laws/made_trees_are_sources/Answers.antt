use Rattle.cif_maker_laws.proofs.Sources.{made_spec_seen}
use Rattle.cif_maker_laws.proofs.laws.made_trees_are_sources.Goals as goal

pub returns : goal.returns
returns c = made_spec_seen
