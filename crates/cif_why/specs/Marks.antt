-- Marks of the values of edges: for each automaton and each of its edges a list by the numbers of values.
use Rattle.std.specs.Prelude.{ℕ, zero, suc, Bool, false, true, List, [], ◌∷◌, length, map, replicate}
use Rattle.cif_net_model.specs.Net.{NetAuto, NetEdge}

-- the element at a place is changed, if there is one
abbrev pub at_place : {A : Type 0} → (A → A) → ℕ → List A → List A
at_place f k [] = []
at_place f zero (x ∷ xs) = f x ∷ xs
at_place f (suc k) (x ∷ xs) = x ∷ at_place f k xs

-- the marks of these numbers are set
abbrev pub marked_row : List ℕ → List Bool → List Bool
marked_row [] row = row
marked_row (l ∷ ls) row = marked_row ls (at_place (λ b. true) l row)

abbrev pub marked_edge : (k j : ℕ) → List ℕ → List (List (List Bool)) → List (List (List Bool))
marked_edge k j ls marks = at_place (at_place (marked_row ls) j) k marks

-- a mark for each value of each edge, none of which is set
abbrev pub unmarked_rows : List NetEdge → List (List Bool)
unmarked_rows ys = map (λ (y : NetEdge). replicate (length y.places) false) ys

abbrev pub unmarked : List NetAuto → List (List (List Bool))
unmarked autos = map (λ (a : NetAuto). unmarked_rows a.edges) autos
