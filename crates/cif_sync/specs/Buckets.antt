-- A list of automata for each event, filled automaton by automaton.
use Rattle.std.specs.Prelude.{ℕ, zero, suc, ◌+◌, Bool, false, nat_eq, List, [], ◌∷◌, ◌++◌, if◌then◌else◌}

-- k is the last of the numbers
abbrev pub ends_in : ℕ → List ℕ → Bool
ends_in k [] = false
ends_in k (x ∷ []) = nat_eq x k
ends_in k (x ∷ y ∷ xs) = ends_in k (y ∷ xs)

-- with k at the end, unless it stands there
abbrev pub with_last : ℕ → List ℕ → List ℕ
with_last k xs = if ends_in k xs then xs else xs ++ k ∷ []

-- automaton k is noted for event e, where there is such an event
abbrev pub noted : (k e : ℕ) → List (List ℕ) → List (List ℕ)
noted k e [] = []
noted k zero (b ∷ bs) = with_last k b ∷ bs
noted k (suc e) (b ∷ bs) = b ∷ noted k e bs

-- it is noted for each of the events
abbrev pub all_noted : (k : ℕ) → (events : List ℕ) → List (List ℕ) → List (List ℕ)
all_noted k [] bs = bs
all_noted k (e ∷ es) bs = all_noted k es (noted k e bs)

-- automata from number k on are noted, each for its events
abbrev pub each_noted : (k : ℕ) → (events : List (List ℕ)) → List (List ℕ) → List (List ℕ)
each_noted k [] bs = bs
each_noted k (es ∷ ess) bs = each_noted (k + 1) ess (all_noted k es bs)
