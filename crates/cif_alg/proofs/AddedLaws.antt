-- The sizes of algebraic variables that are counted one after the other count as their sum, where the measures stop alike.
use Rattle.std.proofs.Common.{◌≡◌, ℕ, ◌+◌, List, [], ◌∷◌, map, refl, ◌∙◌, ap, arith}
use Rattle.std.proofs.lemmas.List.Sums.{sum_by-cons}
use Rattle.cif_net_model.specs.Counts.{sizes, stopped, most_nodes}
use Rattle.cif_net_model.specs.Counts as counts
use Rattle.cif_alg_measure.specs.declared.measures.Measure.{Measure}
use Rattle.cif_alg_measure.specs.Meanings.{as_measure, stopped_measure}
use Rattle.cif_alg.specs.Weighed.{cut}
use Rattle.cif_alg.specs.Sizes.{sizes_added}

cut-right : (a b : ℕ) → cut (a + b) ≡ cut (a + cut b)
cut-right a b = omega arith

cut-both : (a b : ℕ) → cut (cut a + cut b) ≡ cut (a + b)
cut-both a b = omega arith

added-stopped : (k : ℕ) (ms : List Measure) → sizes_added k ms ≡ sizes_added k (map stopped_measure (map as_measure ms))
added-stopped k [] = refl
added-stopped k (m ∷ ms) = ap (λ j. sizes_added j ms) (cut-right k m.size) ∙ added-stopped (cut (k + cut m.size)) ms

added-sizes : (k : ℕ) (xs : List counts.Measure) → sizes_added (cut k) (map stopped_measure xs) ≡ cut (k + sizes xs)
added-sizes k [] = omega arith
added-sizes k (x ∷ xs) =
    ap (λ j. sizes_added j (map stopped_measure xs)) (cut-both k x.size)
    ∙ added-sizes (k + x.size) xs
    ∙ omega (arith, sum_by-cons (λ (m : counts.Measure). m.size) x xs)

pub all-added : (k : ℕ) (ms : List Measure) (xs : List counts.Measure) → map stopped_measure (map as_measure ms) ≡ map stopped_measure xs → sizes_added (cut k) ms ≡ cut (k + sizes xs)
all-added k ms xs h = added-stopped (cut k) ms ∙ ap (sizes_added (cut k)) h ∙ added-sizes k xs
