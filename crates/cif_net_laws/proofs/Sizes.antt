-- A net in which algebraic variables are replaced by their definitions is as large and as deep as the net.
use Rattle.std.proofs.Common.{◌≡◌, ℕ, ◌+◌, ◌<◌, max, Bool, true, false, ◌||◌, cond, List, [], ◌∷◌, map, length, sum_by, refl, sym, ◌∙◌, ap, arith}
use Rattle.std.specs.Prelude.{nat_lt, nat_eq, flat_map, filter}
use Rattle.std.proofs.Math.Path.{fun_ext}
use Rattle.std.proofs.lemmas.List.Sums.{sum_by-cons}
use Rattle.cif_system.specs.Choices.{choices, event_numbers}
use Rattle.cif_system.specs.Step.{Choice}
use Rattle.cif_system.specs.System.{System}
use Rattle.cif_system.specs.Words.{Member}
use Rattle.cif_system.proofs.Lists.{map-length}
use Rattle.cif_net_expr.specs.Tree.{NetExpr}
use Rattle.cif_net_model.specs.Net.{NetAlg, NetExclusion, Net}
use Rattle.cif_net_model.specs.Counts.{Measure, no_form, all_beside, by_location, measure_by, alg_measure, alg_measures, measure, sizes, size_of, exclusions_of, invariant_exprs, choice_nodes, event_nodes, nodes, depth, is_too_large, most_nodes, most_depth}
use Rattle.cif_net_model.specs.Exprs.{edge_exprs, all_exprs}
use Rattle.cif_net_model.specs.Facts.{alg_stands, is_net}
use Rattle.cif_net_model.specs.Inline.{replaced, alg_replaced, net_replaced, defined_by, by_places}
use Rattle.cif_net_model.specs.Listing.{moves_of, edges_taken}
use Rattle.cif_net_model.proofs.MeasureLaws.{replaced-measure, by_places-measure}
use Rattle.cif_net_model.proofs.Passing.{and-left, and-right, all-member}
use Rattle.cif_net_model.proofs.ValueLaws.{ap-two}
use Rattle.cif_net_laws.proofs.Lists.{map-map, map-after}
use Rattle.cif_net_laws.proofs.Means.{system-same}
use Rattle.cif_net_laws.proofs.Naming.{some-place, algs-stand}
use Rattle.cif_net_laws.proofs.Settled.{Settled}
use Rattle.cif_net_laws.proofs.Solved as solved
use Rattle.cif_net_laws.proofs.Solved.{alg-cases}
use Rattle.cif_net_laws.proofs.Written.{all-written, invariants-written, taken-replaced, moves-same}

-- ---- lists

sum_by-after : {A B : Type 0} (h : A → B) (f : B → ℕ) (g : A → ℕ) → ((x : A) → f (h x) ≡ g x) → (xs : List A) → sum_by f (map h xs) ≡ sum_by g xs
sum_by-after h f g e [] = refl
sum_by-after h f g e (x ∷ xs) = omega (arith, sum_by-cons f (h x) (map h xs), sum_by-cons g x xs, e x, sum_by-after h f g e xs)

filter-after : {A B : Type 0} (h : A → B) (p : B → Bool) (q : A → Bool) → ((x : A) → p (h x) ≡ q x) → (xs : List A) → filter p (map h xs) ≡ map h (filter q xs)
filter-after h p q e [] = refl
filter-after h p q e (x ∷ xs) = ap (λ b. cond b (h x ∷ filter p (map h xs)) (filter p (map h xs))) (e x) ∙ by (q x) (filter-after h p q e xs)
  where
    by : (b : Bool) → filter p (map h xs) ≡ map h (filter q xs) → cond b (h x ∷ filter p (map h xs)) (filter p (map h xs)) ≡ map h (cond b (x ∷ filter q xs) (filter q xs))
    by true r = ap (λ ys. h x ∷ ys) r
    by false r = r

-- ---- measures of definitions

def-after : (by : ℕ → NetExpr) (g : ℕ → Measure) (a : NetAlg) → alg_measure g (alg_replaced by a) ≡ alg_measure (λ k. measure_by g (by k)) a
def-after by g =
    alg-cases (λ a. alg_measure g (alg_replaced by a) ≡ alg_measure (λ k. measure_by g (by k)) a) (λ a e. replaced-measure by g e)
    (λ a k es. ap-two by_location (map-length (replaced by) es) (ap all_beside (map-after (replaced by) (measure_by g) (measure_by (λ j. measure_by g (by j))) es (λ e m. replaced-measure by g e))))

def-measure : (n : Net) → is_net n ≡ true → (by : ℕ → NetExpr) (g : ℕ → Measure) (a : NetAlg) → alg_stands n a ≡ true → alg_measure g (alg_replaced by a) ≡ measure_by g (defined_by (alg_replaced by a))
def-measure n net by g =
    alg-cases (λ a. alg_stands n a ≡ true → alg_measure g (alg_replaced by a) ≡ measure_by g (defined_by (alg_replaced by a))) (λ a e h. refl)
    (λ a k es h. let t = and-left _ _ (and-right _ _ h) in many k es (some-place n net k (length es) (and-left _ _ t) (and-right _ _ t)))
  where
    many : (k : ℕ) (es : List NetExpr) → 0 < length es → by_location (length (map (replaced by) es)) (all_beside (map (measure_by g) (map (replaced by) es))) ≡ measure_by g (by_places k (map (replaced by) es))
    many k [] l = absurd (omega (arith, l))
    many k (e ∷ es) l = sym (by_places-measure g k (replaced by e) (map (replaced by) es))

module _ (n p : Net) (net : is_net n ≡ true) (s : Settled n p) where
  abbrev q : Net
  q = net_replaced s.by n

  defined : (g : ℕ → Measure) (a : NetAlg) → Member a n.algs → alg_measure g (alg_replaced s.by a) ≡ measure_by g (defined_by (alg_replaced s.by a))
  defined g a m = def-measure n net s.by g a (all-member (alg_stands n) n.algs a (algs-stand n net) m)

  pub measure-same : (e : NetExpr) → measure q (replaced s.by e) ≡ measure n e
  measure-same = solved.others-same no_form measure_by alg_measure (λ g h. refl) (λ g k. refl) def-after n p s defined (λ by g e. replaced-measure by g e)

  tables-same : alg_measures q ≡ alg_measures n
  tables-same = solved.unfolded-same no_form measure_by alg_measure (λ g h. refl) (λ g k. refl) def-after n p s defined

  -- ---- nodes

  size-same : (es : List NetExpr) → size_of q (map (replaced s.by) es) ≡ size_of n es
  size-same es = sum_by-after (replaced s.by) (λ e. (measure q e).size) (λ e. (measure n e).size) (λ e. ap (λ (m : Measure). m.size) (measure-same e)) es

  exclusions-same : (e : ℕ) → exclusions_of q e ≡ map (replaced s.by) (exclusions_of n e)
  exclusions-same e =
      ap (map (λ (x : NetExclusion). x.pred)) (filter-after (λ (x : NetExclusion). record x { pred = replaced s.by x.pred }) (λ (x : NetExclusion). nat_eq x.event e) (λ (x : NetExclusion). nat_eq x.event e) (λ x. refl) n.exclusions)
      ∙ map-map (λ (x : NetExclusion). record x { pred = replaced s.by x.pred }) (λ (x : NetExclusion). x.pred) (filter (λ (x : NetExclusion). nat_eq x.event e) n.exclusions)
      ∙ sym (map-map (λ (x : NetExclusion). x.pred) (replaced s.by) (filter (λ (x : NetExclusion). nat_eq x.event e) n.exclusions))

  choice-same : (e : ℕ) (ch : Choice) → choice_nodes q e ch ≡ choice_nodes n e ch
  choice-same e ch =
      let a : length (moves_of q e ch) ≡ length (moves_of n e ch) = ap length (moves-same s.by n e ch) in
      let b : size_of q (flat_map edge_exprs (edges_taken q ch)) ≡ size_of n (flat_map edge_exprs (edges_taken n ch)) = ap (size_of q) (taken-replaced s.by n ch) ∙ size-same (flat_map edge_exprs (edges_taken n ch)) in
      let c : size_of q (exclusions_of q e) ≡ size_of n (exclusions_of n e) = ap (size_of q) (exclusions-same e) ∙ size-same (exclusions_of n e) in
      let d : size_of q (invariant_exprs q) ≡ size_of n (invariant_exprs n) = ap (size_of q) (invariants-written s.by n) ∙ size-same (invariant_exprs n) in
      ap-two (λ x y. x + y) (ap-two (λ x y. x + y) (ap-two (λ x y. 1 + x + y) a b) c) d

  event-same : (e : ℕ) → event_nodes q e ≡ event_nodes n e
  event-same e = ap-two (λ f (m : System). sum_by f (choices m e)) (fun_ext (choice-same e)) (system-same n p s)

  nodes-same : nodes q ≡ nodes n
  nodes-same = ap-two (λ x y. x + y) (ap-two (λ f (m : System). sum_by f (event_numbers m)) (fun_ext event-same) (system-same n p s)) (ap sizes tables-same)

  -- ---- depth

  depth-same : depth q ≡ depth n
  depth-same =
      ap-two (λ x y. max x y)
      (ap (λ es. (all_beside (map (measure q) es)).depth) (all-written s.by n) ∙ ap (λ ms. (all_beside ms).depth) (map-after (replaced s.by) (measure q) (measure n) (all_exprs n) (λ e m. measure-same e)))
      (ap (λ ms. (all_beside ms).depth) tables-same)

  pub too_large-same : is_too_large q ≡ is_too_large n
  too_large-same = ap-two (λ a b. nat_lt most_nodes a || nat_lt most_depth b) nodes-same depth-same
