-- Reasons of marks, in the order of automata, edges and values.
use Rattle.std.specs.Prelude.{◌<◌, ◌^◌, ℕ, ◌+◌, Bool, List, [], ◌∷◌, ◌++◌, length}
use Rattle.std.specs.List.{AllByRecursion}
use Rattle.cif_why_model.specs.Reasons.{Reason, leaves}
use Rattle.cif_why.specs.Lists.{each_from}

abbrev pub row_told : (k j : ℕ) → List Bool → List Reason
row_told k j row = each_from (leaves k j) (λ l b. b) 0 row

-- where the first edge has the number j
abbrev pub rows_told : (k j : ℕ) → List (List Bool) → List Reason
rows_told k j [] = []
rows_told k j (row ∷ rows) = row_told k j row ++ rows_told k (j + 1) rows

-- where the first automaton has the number k
abbrev pub marks_told : (k : ℕ) → List (List (List Bool)) → List Reason
marks_told k [] = []
marks_told k (rows ∷ marks) = rows_told k 0 rows ++ marks_told (k + 1) marks

-- there are fewer than 2 ^ 32 rows, and values of each
pub record AreFewRows (rows : List (List Bool)) : Type 0 where
  pub edges : length rows < 2 ^ 32
  pub values : AllByRecursion (λ (row : List Bool). length row < 2 ^ 32) rows
