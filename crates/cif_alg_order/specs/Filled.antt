-- Helper of the code: a table that is filled along an order of definitions: what `f` tells of each, given the table so far.
use Rattle.std.specs.Prelude.{ℕ, List, [], ◌∷◌, length, replicate, Some, None, slice_get, slice_set}
use Rattle.cif_net_model.specs.Unfolding.{at_or}

-- what is told of definition k stands at k
abbrev pub put : {D A : Type 0} → A → ((ℕ → A) → D → A) → List D → List A → ℕ → List A
put d f ds table k = elim (slice_get ds k) [ None ↦ table | Some x ↦ slice_set table k (f (at_or d table) x) ]

abbrev pub filled_from : {D A : Type 0} → A → ((ℕ → A) → D → A) → List D → List ℕ → List A → List A
filled_from d f ds [] table = table
filled_from d f ds (k ∷ order) table = filled_from d f ds order (put d f ds table k)

-- from a table that has d of each
abbrev pub filled : {D A : Type 0} → A → ((ℕ → A) → D → A) → List D → List ℕ → List A
filled d f ds order = filled_from d f ds order (replicate (length ds) d)
