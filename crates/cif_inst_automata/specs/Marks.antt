-- Helper of the code: marks of events: each has that of the last automaton in which it stood somewhere.
use Rattle.std.specs.Prelude.{◌≡◌, ℕ, Bool, true, not, nat_eq, nat_le, List, [], ◌∷◌, length, slice_get, slice_set, unwrap_or}
use Rattle.std.specs.List.{list_all}

-- each event of the list has the mark
abbrev pub marked : (mark : ℕ) → (events marks : List ℕ) → List ℕ
marked own [] ms = ms
marked own (e ∷ es) ms = marked own es (slice_set ms e own)

abbrev pub mark_of : List ℕ → ℕ → ℕ
mark_of ms e = unwrap_or (slice_get ms e) 0

abbrev pub is_marked : (mark : ℕ) → (marks : List ℕ) → ℕ → Bool
is_marked own ms e = nat_eq (mark_of ms e) own

abbrev pub is_unmarked : (mark : ℕ) → (marks : List ℕ) → ℕ → Bool
is_unmarked own ms e = not (is_marked own ms e)

-- a mark for each of `count` events, and none above k
pub record AreMarks (count k : ℕ) (marks : List ℕ) : Type 0 where
  pub every : length marks ≡ count
  pub small : list_all (λ m. nat_le m k) marks ≡ true
