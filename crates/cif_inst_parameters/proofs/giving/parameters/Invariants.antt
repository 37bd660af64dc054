use Rattle.std.proofs.Common.{◌≡◌, map, length}
use Rattle.cif_source.specs.Source.{source_of}
use Rattle.cif_inst_parameters.specs.Given.{given_items}
use Rattle.cif_inst_parameters.specs.Following.{AreKnown}
use Rattle.cif_inst_parameters.proofs.giving.parameters.Given as goal

abbrev pub invariant-loop-component : goal.invariant-loop-component
invariant-loop-component l = AreKnown (source_of l.spec) (map given_items l.given.items) × (length l.given.items ≡ l.component)
