-- The definition of an algebraic variable of a plain net, as one expression: its kind, its names, its depth, and its value.
use Rattle.std.proofs.Common.{◌≡◌, ℕ, zero, suc, ◌+◌, ◌<◌, ◌≤◌, ℤ, pos, max, Bool, true, false, not, ◌&&◌, ◌||◌, inl, inr, List, [], ◌∷◌, ◌++◌, map, flat_map, length, None, refl, sym, subst, ◌∙◌, arith}
use Rattle.std.specs.Prelude.{nat_eq, nat_lt, pred, slice_get, slice_index_or}
use Rattle.std.specs.List.{AllByRecursion, list_all}
use Rattle.std.proofs.lemmas.Bool.Decides.{nat_tests}
use Rattle.cif_system.specs.System.{IsState, State}
use Rattle.cif_system.specs.Words.{Member}
use Rattle.cif_system.proofs.Picks.{and-left, and-right, append-right, flat_map-member, map-member}
use Rattle.cif_net_expr.specs.Tree.{NetExpr, NetBranches}
use Rattle.cif_net_model.specs.Net.{AlgValue, one_value, by_loc, NetAlg, NetAuto, NetExclusion, NetInvariant, Net}
use Rattle.cif_net_model.specs.Counts.{all_beside, alg_measures, branches_measure, depth, measure, most_depth, most_nodes, no_form, nodes}
use Rattle.cif_net_model.specs.Exprs.{alg_exprs, all_edges, all_exprs, edge_exprs, other_exprs}
use Rattle.cif_net_model.specs.Facts.{alg_stands, auto_stands, is_net}
use Rattle.cif_net_model.specs.Inline.{by_places, defined_by, last_of, place_branches}
use Rattle.cif_net_model.specs.Interval.{truths}
use Rattle.cif_net_model.specs.Kinds.{Kind, branches_fit, fits, kind_of, places_of}
use Rattle.cif_net_model.specs.Meaning.{alg_values, at_or_last, system_of_net}
use Rattle.cif_net_model.specs.Reads.{alg_passes, branch_names, names_in, names_no_alg}
use Rattle.cif_net_model.specs.Rules.{Evaluated, edge_evaluated, evaluated, is_plain}
use Rattle.cif_net_model.specs.Unfolding.{at_or}
use Rattle.cif_net_model.specs.Value.{net_value, of_bool}
use Rattle.cif_net_model.proofs.InlineLaws.{by_places-value}
use Rattle.cif_net_model.proofs.Passing.{all-member}
use Rattle.cif_net_model.proofs.PlainLaws.{plain-expr}
use Rattle.cif_net_model.proofs.ValueLaws.{value-alone}
use Rattle.plc_frame.proofs.Facts.{Standing, first-inside, standing}
use Rattle.cif_net_model.specs.Safe.{AreSafeBranches, IsSafe, IsTruth}
use Rattle.cif_net_model.proofs.Plain.{plain-safe}
use Rattle.plc_event_model.specs.Asked.{setting_of}
use Rattle.plc_event_model.specs.Definitions.{IsDefinition}

-- ---- lists and tests

all-joined : {A : Type 0} (f : A → Bool) (xs ys : List A) → list_all f xs ≡ true → list_all f ys ≡ true → list_all f (xs ++ ys) ≡ true
all-joined f [] ys h g = g
all-joined f (x ∷ xs) ys h g = both (f x) (list_all f (xs ++ ys)) (and-left _ _ h) (all-joined f xs ys (and-right _ _ h) g)
  where
    both : (a b : Bool) → a ≡ true → b ≡ true → (a && b) ≡ true
    both a b x y = rw x y

both-true : (a b : Bool) → a ≡ true → b ≡ true → (a && b) ≡ true
both-true a b x y = rw x y

neither-right : (a b : Bool) → not (a || b) ≡ true → b ≡ false
neither-right a false h = refl
neither-right true true h = absurd cc
neither-right false true h = absurd cc

below-most : (d : ℕ) → nat_lt 100 d ≡ false → d ≤ 100
below-most d h = grind (arith, nat_tests)

test-below : (j k : ℕ) → j < k → nat_lt j k ≡ true
test-below j k h = grind (arith, nat_tests)

below-tested : (j k : ℕ) → nat_lt j k ≡ true → j < k
below-tested j k h = grind (arith, nat_tests)

same-tested : (j k : ℕ) → nat_eq j k ≡ true → j ≡ k
same-tested j k h = grind (arith, nat_tests)

is-truth : (b : Bool) → IsTruth (of_bool b)
is-truth true = refl
is-truth false = refl

-- ---- values by location

last-alike : (f g : NetExpr → ℤ) (es : List NetExpr) (j : ℕ) → ((e : NetExpr) → Member e es → f e ≡ g e) → at_or_last es j f ≡ at_or_last es j g
last-alike f g [] j h = refl
last-alike f g (e ∷ []) j h = h e (inl refl)
last-alike f g (e ∷ d ∷ es) zero h = h e (inl refl)
last-alike f g (e ∷ d ∷ es) (suc j) h = last-alike f g (d ∷ es) j (λ c m. h c (inr m))

-- each automaton has a place
has-place : (n : Net) (xs : List NetAuto) (k : ℕ) → list_all (auto_stands n) xs ≡ true → k < length xs → 0 < places_of (slice_get xs k)
has-place n [] k h below = absurd (omega (arith, below))
has-place n (a ∷ xs) zero h below =
    let inside = first-inside n a (and-left _ _ h) in
    let here : places_of (slice_get (a ∷ xs) 0) ≡ length a.locs = refl in
    omega (arith, inside, here)
has-place n (a ∷ xs) (suc k) h below = has-place n xs k (and-right _ _ h) (omega (arith, below))

-- no expression is deeper than all of them
one-low : (n : Net) (es : List NetExpr) (e : NetExpr) (d : ℕ) → (all_beside (map (measure n) es)).depth ≤ d → Member e es → (measure n e).depth ≤ d
one-low n [] e d top m = absurd m
one-low n (c ∷ es) e d top (inl same) =
    let all : max (measure n c).depth (all_beside (map (measure n) es)).depth ≤ d = top in
    subst (λ q. (measure n q).depth ≤ d) (sym same) (omega (arith, all))
one-low n (c ∷ es) e d top (inr m) =
    let all : max (measure n c).depth (all_beside (map (measure n) es)).depth ≤ d = top in
    one-low n es e d (omega (arith, all)) m

-- ---- one net

module _ (n : Net) (plain : is_plain n ≡ true) where
  net : is_net n ≡ true
  net = and-left _ _ (and-left _ _ (and-left _ _ plain))

  facts : Standing n
  facts = standing n net

  abbrev at_truths : NetExpr → Evaluated
  at_truths e = record { value = e; received = truths }

  -- an expression of this kind that names no algebraic variable, is low, and safe in each state
  record Good (kind : Kind) (e : NetExpr) : Type 0 where
    fit : fits n None kind e ≡ true
    names : names_no_alg e ≡ true
    low : (measure n e).depth ≤ 100
    safe : (s : State) → IsState (system_of_net n) s → IsSafe (setting_of n s (pos 0)) e

  record GoodBranches (kind : Kind) (bs : NetBranches) : Type 0 where
    fit : branches_fit n None kind bs ≡ true
    names : list_all (alg_passes (λ k. false)) (branch_names bs) ≡ true
    low : (branches_measure (at_or no_form (alg_measures n)) bs).depth ≤ 100
    safe : (s : State) → IsState (system_of_net n) s → AreSafeBranches (setting_of n s (pos 0)) bs

  -- ---- expressions of definitions

  all-low : (all_beside (map (measure n) (all_exprs n))).depth ≤ 100
  all-low =
      let few : nat_lt 100 (depth n) ≡ false = neither-right (nat_lt most_nodes (nodes n)) (nat_lt most_depth (depth n)) (and-right _ _ plain) in
      let top : max (all_beside (map (measure n) (all_exprs n))).depth (all_beside (alg_measures n)).depth ≤ 100 = below-most (depth n) few in
      omega (arith, top)

  is-other : (a : NetAlg) → Member a n.algs → (e : NetExpr) → Member e (alg_exprs a) → Member e (other_exprs n)
  is-other a m e inside =
      append-right e (map (λ (x : NetExclusion). x.pred) n.exclusions) (map (λ (i : NetInvariant). i.pred) n.invariants ++ flat_map alg_exprs n.algs)
      (append-right e (map (λ (i : NetInvariant). i.pred) n.invariants) (flat_map alg_exprs n.algs) (flat_map-member alg_exprs a n.algs e m inside))

  is-evaluated : (e : NetExpr) → Member e (other_exprs n) → Member (at_truths e) (evaluated n)
  is-evaluated e m = append-right (at_truths e) (flat_map (edge_evaluated n) (all_edges n)) (map at_truths (other_exprs n)) (map-member at_truths e (other_exprs n) m)

  passes : (e : NetExpr) → Member e (other_exprs n) → names_no_alg e ≡ true
  passes e m = and-left _ _ (and-left _ _ (plain-expr n (at_truths e) plain (is-evaluated e m)))

  good : (kind : Kind) (e : NetExpr) → Member e (other_exprs n) → fits n None kind e ≡ true → Good kind e
  good kind e m fit = record {
    fit = fit;
    names = passes e m;
    low = one-low n (all_exprs n) e 100 all-low (append-right e (flat_map edge_exprs (all_edges n)) (other_exprs n) m);
    safe = λ s is_state. plain-safe n s (at_truths e) (pos 0) None kind plain is_state (is-evaluated e m) refl (λ t h. absurd cc) fit;
  }

  all-good : (kind : Kind) (es : List NetExpr) → ((e : NetExpr) → Member e es → Member e (other_exprs n)) → list_all (fits n None kind) es ≡ true → AllByRecursion (Good kind) es
  all-good kind [] inside fit = tt
  all-good kind (e ∷ es) inside fit = (good kind e (inside e (inl refl)) (and-left _ _ fit), all-good kind es (λ c m. inside c (inr m)) (and-right _ _ fit))

  -- ---- by location

  module _ (kind : Kind) (k : ℕ) where
    -- the branches from place j on, and the last value
    places-good : (j : ℕ) (e : NetExpr) (es : List NetExpr) → j + length es < places_of (slice_get n.autos k) → Good kind e → AllByRecursion (Good kind) es → GoodBranches kind (place_branches k j e es) × Good kind (last_of e es)
    places-good j e [] few h all = (record { fit = refl; names = refl; low = omega arith; safe = λ s is_state. tt }, h)
    places-good j e (f ∷ fs) few h all =
        let rest = places-good (suc j) f fs (omega (arith, few)) all.0 all.1 in
        let here : nat_lt j (places_of (slice_get n.autos k)) ≡ true = test-below j (places_of (slice_get n.autos k)) (omega (arith, few)) in
        let one = h.low in
        let later = rest.0.low in (
          record {
            fit = both-true (nat_lt j (places_of (slice_get n.autos k)) && fits n None kind e) (branches_fit n None kind (place_branches k (suc j) f fs)) (both-true (nat_lt j (places_of (slice_get n.autos k))) (fits n None kind e) here h.fit) rest.0.fit;
            names = all-joined (alg_passes (λ i. false)) (names_in e) (branch_names (place_branches k (suc j) f fs)) h.names rest.0.names;
            low = omega (arith, one, later);
            safe = λ s is_state. (tt, is-truth (nat_eq (slice_index_or s.locs k 0) j), h.safe s is_state, rest.0.safe s is_state);
          },
          rest.1,
        )

  -- ---- definitions

  module _ (a : NetAlg) (member : Member a n.algs) where
    abbrev kind : Kind
    kind = kind_of a.type_of a.literals

    -- what is told but the value
    record Told (e : NetExpr) : Type 0 where
      fit : fits n None (kind_of a.type_of a.literals) e ≡ true
      names : names_no_alg e ≡ true
      low : (measure n e).depth ≤ 103
      safe : (s : State) → IsState (system_of_net n) s → IsSafe (setting_of n s (pos 0)) e

    told : (e : NetExpr) → Good (kind_of a.type_of a.literals) e → Told e
    told e h = let low = h.low in record { fit = h.fit; names = h.names; low = omega (arith, low); safe = h.safe }

    located : (k : ℕ) (es : List NetExpr) → k < length n.autos → length es ≡ places_of (slice_get n.autos k) → AllByRecursion (Good (kind_of a.type_of a.literals)) es → Told (by_places k es)
    located k [] below long all = let some = has-place n n.autos k facts.autos below in let none : 0 ≡ places_of (slice_get n.autos k) = long in absurd (omega (arith, some, none))
    located k (e ∷ []) below long all = told e all.0
    located k (e ∷ f ∷ fs) below long all =
        let whole = places-good kind k 0 e (f ∷ fs) (omega (arith, long)) all.0 all.1 in
        let one = whole.0.low in
        let later = whole.1.low in
        record {
          fit = both-true (branches_fit n None kind (place_branches k 0 e (f ∷ fs))) (fits n None kind (last_of e (f ∷ fs))) whole.0.fit whole.1.fit;
          names = all-joined (alg_passes (λ i. false)) (branch_names (place_branches k 0 e (f ∷ fs))) (names_in (last_of e (f ∷ fs))) whole.0.names whole.1.names;
          low = omega (arith, one, later);
          safe = λ s is_state. (whole.0.safe s is_state, whole.1.safe s is_state);
        }

    abbrev exprs_in : AlgValue → List NetExpr
    exprs_in v = elim v [ one_value e ↦ e ∷ [] | by_loc k es ↦ es ]

    abbrev whole_of : AlgValue → NetExpr
    whole_of v = elim v [ one_value e ↦ e | by_loc k es ↦ by_places k es ]

    value-told : (v : AlgValue) → ((e : NetExpr) → Member e (exprs_in v) → Member e (other_exprs n))
        → (elim v [ one_value e ↦ fits n None (kind_of a.type_of a.literals) e | by_loc k es ↦ nat_lt k (length n.autos) && nat_eq (length es) (places_of (slice_get n.autos k)) && list_all (fits n None (kind_of a.type_of a.literals)) es ]) ≡ true
        → Told (whole_of v)
    value-told (one_value e) inside h = told e (good kind e (inside e (inl refl)) h)
    value-told (by_loc k es) inside h =
        located k es (below-tested k (length n.autos) (and-left _ _ (and-left _ _ h))) (same-tested (length es) (places_of (slice_get n.autos k)) (and-right _ _ (and-left _ _ h))) (all-good kind es inside (and-right _ _ h))

    value-same : (A B : ℕ → ℤ) (s : State) (v : AlgValue) → ((e : NetExpr) → Member e (exprs_in v) → Member e (other_exprs n))
        → net_value A s (pos 0) (whole_of v) ≡ (elim v [ one_value e ↦ net_value B s (pos 0) e | by_loc k es ↦ at_or_last es (slice_index_or s.locs k 0) (net_value B s (pos 0)) ])
    value-same A B s (one_value e) inside = value-alone A B s (pos 0) e (passes e (inside e (inl refl)))
    value-same A B s (by_loc k es) inside =
        by_places-value A s (pos 0) k es
        ∙ last-alike (net_value A s (pos 0)) (net_value B s (pos 0)) es (slice_index_or s.locs k 0) (λ e m. value-alone A B s (pos 0) e (passes e (inside e m)))

    defined : IsDefinition n a
    defined =
        let inside : (e : NetExpr) → Member e (alg_exprs a) → Member e (other_exprs n) = λ e m. is-other a member e m in
        let stands : alg_stands n a ≡ true = all-member (alg_stands n) n.algs a facts.algs member in
        let t : Told (defined_by a) = value-told a.value inside (and-right _ _ stands) in
        record {
          fit = t.fit;
          names = t.names;
          low = t.low;
          safe = t.safe;
          value = λ s. value-same (at_or (pos 0) (alg_values n s (pos 0) (length n.algs))) (at_or (pos 0) (alg_values n s (pos 0) (pred (length n.algs)))) s a.value inside;
        }

  each-defined : (as' : List NetAlg) → ((a : NetAlg) → Member a as' → Member a n.algs) → AllByRecursion (IsDefinition n) as'
  each-defined [] inside = tt
  each-defined (a ∷ as') inside = (defined a (inside a (inl refl)), each-defined as' (λ b m. inside b (inr m)))

pub all-defined : (n : Net) → is_plain n ≡ true → AllByRecursion (IsDefinition n) n.algs
all-defined n plain = each-defined n plain n.algs (λ a m. m)
