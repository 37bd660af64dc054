-- Helper of the code: the measure of an algebraic variable, given those that its definitions name, where counts stop on the way.
use Rattle.std.specs.Prelude.{ℕ, List, [], ◌∷◌}
use Rattle.cif_net_expr.specs.Tree.{NetExpr}
use Rattle.cif_net_model.specs.Net.{NetAlg}
use Rattle.cif_net_model.specs.Counts.{measure_by, alg_measure}
use Rattle.cif_net_model.specs.Counts as counts
use Rattle.cif_alg_measure.specs.declared.measures.Measure.{Measure}
use Rattle.cif_alg_measure.specs.Meanings.{as_measure, stopped_measure}
use Rattle.cif_alg_measure.specs.Counted.{beside_stopped}

abbrev pub unmeasured : Measure
unmeasured = record { size = 0; depth = 0 }

-- where an algebraic variable that is named counts as alg tells
abbrev pub alg_measured : (alg : ℕ → Measure) → NetAlg → Measure
alg_measured alg a = stopped_measure (alg_measure (λ k. as_measure (alg k)) a)

-- one expression after the other, from the measure so far
abbrev pub exprs_measured : (ℕ → counts.Measure) → Measure → List NetExpr → Measure
exprs_measured alg m [] = m
exprs_measured alg m (e ∷ es) = exprs_measured alg (beside_stopped m (stopped_measure (measure_by alg e))) es
