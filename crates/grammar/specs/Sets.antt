-- Helper of the code: sets of kinds of token, as lists of their numbers.
use Rattle.std.specs.Prelude.{ℕ, Bool, true, not, ◌&&◌, List, [], ◌∷◌}
use Rattle.grammar.specs.Lang.{has}

abbrev pub apart : List ℕ → List ℕ → Bool
apart [] js = true
apart (k ∷ ks) js = not (has js k) && apart ks js

-- the second is a part of the first
abbrev pub covers : List ℕ → List ℕ → Bool
covers js [] = true
covers js (k ∷ ks) = has js k && covers js ks
