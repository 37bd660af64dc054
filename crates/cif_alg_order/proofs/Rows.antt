-- Worked examples, each by computing: algebraic variables that name one another, and an order that is none.
use Rattle.std.proofs.Common.{◌≡◌, ℕ, pos, List, [], ◌∷◌, map, refl}
use Rattle.cif_base.specs.Bounds.{between}
use Rattle.cif_net_expr.specs.Tree.{n_alg, times, net_factors, no_net_factors, n_product}
use Rattle.cif_net_model.specs.Net.{by_loc, Net}
use Rattle.cif_net_model.specs.Counts.{alg_measures}
use Rattle.cif_net_model.proofs.Examples.{here, num, plus, alg, algs_alone}
use Rattle.cif_alg_measure.specs.Meanings.{as_measure}
use Rattle.cif_alg_measure.specs.declared.measures.Measure.{Measure}
use Rattle.cif_net_model.specs.Interval.{point, truths, Ranges}
use Rattle.cif_alg_order.specs.Names.{algs_of}
use Rattle.cif_alg_order.specs.Filled.{filled}
use Rattle.cif_alg_order.specs.Measured.{unmeasured, alg_measured}
use Rattle.cif_alg_order.specs.Ranged.{zero_bounds, alg_bounds}

-- a sum of 1 with itself, 2 or 5 by location, and 1 times 0
abbrev three : Net
three = algs_alone [] (
    alg (plus (here (n_alg 1)) (here (n_alg 1)))
    ∷ record (alg (num 0)) { value = by_loc 0 (num 2 ∷ num 5 ∷ []) }
    ∷ alg (here (n_product (here (n_alg 1)) (net_factors times (here (n_alg 0)) no_net_factors)))
    ∷ [])

three_named : map algs_of three.algs ≡ (1 ∷ 1 ∷ []) ∷ [] ∷ (1 ∷ 0 ∷ []) ∷ []
three_named = refl

abbrev told : ℕ → ℕ → Measure
told size depth = record { size = size; depth = depth }

-- two definitions by location are an `if` with one test: 2 and 5, the `if` and the test
three_measured : filled unmeasured alg_measured three.algs (1 ∷ 0 ∷ 2 ∷ []) ≡ told 9 2 ∷ told 4 1 ∷ told 14 3 ∷ []
three_measured = refl

three_meant : alg_measures three ≡ map as_measure (told 9 2 ∷ told 4 1 ∷ told 14 3 ∷ [])
three_meant = refl

abbrev nothing_stored : Ranges
nothing_stored = record { vars = λ k. point (pos 0); inputs = λ k. point (pos 0); algs = λ k. point (pos 0); received = truths }

three_ranged : filled zero_bounds (alg_bounds nothing_stored) three.algs (1 ∷ 0 ∷ 2 ∷ []) ≡ between (pos 4) (pos 10) ∷ between (pos 2) (pos 5) ∷ between (pos 8) (pos 50) ∷ []
three_ranged = refl

-- where one stands before what it names, nothing is known of that yet
other_way_round : filled unmeasured alg_measured three.algs (2 ∷ 0 ∷ 1 ∷ []) ≡ told 1 1 ∷ told 4 1 ∷ told 1 1 ∷ []
other_way_round = refl
