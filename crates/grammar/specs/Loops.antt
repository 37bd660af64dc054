-- Helper of the code: a list that a loop has read the front of.
use Rattle.std.specs.Prelude.{ℕ, max, List, ◌++◌, Some, None}
use Rattle.grammar.specs.Lang.{flat}
use Rattle.grammar.specs.Reader.{Read}

abbrev pub after : {T A : Type 0} → List A → Read T (List A) → Read T (List A)
after front None = None
after front (Some p) = Some (front ++ p.0, p.1)

abbrev pub deep_after : {T A : Type 0} → List A → ℕ → Read T (List A × ℕ) → Read T (List A × ℕ)
deep_after front d None = None
deep_after front d (Some p) = Some ((front ++ p.0.0, max d p.0.1), p.1)

-- lists that are read one after the other, as one list
abbrev pub flat_after : {T A : Type 0} → List A → Read T (List (List A)) → Read T (List A)
flat_after front None = None
flat_after front (Some p) = Some (front ++ flat p.0, p.1)
