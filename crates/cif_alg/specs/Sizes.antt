-- Counts with the sizes of algebraic variables.
use Rattle.std.specs.Prelude.{ℕ, ◌+◌, List, [], ◌∷◌}
use Rattle.cif_alg_measure.specs.declared.measures.Measure.{Measure}
use Rattle.cif_alg.specs.Weighed.{cut}

-- one after the other, after what was counted
abbrev pub sizes_added : ℕ → List Measure → ℕ
sizes_added k [] = k
sizes_added k (m ∷ ms) = sizes_added (cut (k + m.size)) ms
