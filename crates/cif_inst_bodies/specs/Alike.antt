-- Components that are written as one body, and places that are the same in such components.
use Rattle.std.specs.Prelude.{◌≡◌}
use Rattle.cif_source.specs.Components.{Component, as_written}
use Rattle.cif_source.specs.Lookup.{Reached, reached, missing, blocked}

-- they are written as one body: a definition, its instances, and instances of one definition
abbrev pub AreWrittenAlike : Component → Component → Type 0
AreWrittenAlike c d = as_written c ≡ as_written d

-- one entry of one body as written, or nothing for one reason
abbrev pub AreAlike : Reached → Reached → Type 0
AreAlike (reached x) (reached y) = AreWrittenAlike x.0 y.0 × (x.1 ≡ y.1)
AreAlike missing missing = Unit {0}
AreAlike blocked blocked = Unit {0}
AreAlike _ _ = ⊥
