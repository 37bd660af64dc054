-- The test of a listed choice of a plain net is a boolean expression that names no algebraic variable, divides by no 0,
-- stays in 64 bits, and is little deeper than the guards of the net.
use Rattle.std.proofs.Common.{◌≡◌, ℕ, suc, ◌+◌, ◌≤◌, max, Bool, true, false, not, ◌||◌, inl, inr, List, [], ◌∷◌, ◌++◌, length, map, filter, flat_map, zip, Option, Some, None, refl, sym, ◌∙◌, ap, subst, arith}
use Rattle.std.specs.Prelude.{slice_get, nat_eq, nat_lt, if◌then◌else◌}
use Rattle.std.specs.List.{list_all, enumerate_from, AllByRecursion}
use Rattle.std.proofs.lemmas.List.Folds.{list_all-append}
use Rattle.std.proofs.lemmas.Bool.{eqb-true}
use Rattle.std.proofs.lemmas.Bool.Decides.{nat_tests}
use Rattle.cif_system.specs.Words.{Member}
use Rattle.cif_system.specs.System.{Range, syncing}
use Rattle.cif_system.specs.Step.{Choice}
use Rattle.cif_system.proofs.Picks.{append-left, append-right, at-member, flat_map-member, map-member}
use Rattle.cif_net_expr.specs.Tree.{NetExpr, net_expr, n_loc, NetExprs, no_net_exprs, net_exprs}
use Rattle.cif_net_model.specs.Net.{NetAuto, NetEdge, NetExclusion, NetInvariant, Net}
use Rattle.cif_net_model.specs.Exprs.{all_edges, all_exprs, alg_exprs, edge_exprs, other_exprs}
use Rattle.cif_net_model.specs.Kinds.{bool_kind, all_fit, fits, places_of}
use Rattle.cif_net_model.specs.Facts.{auto_stands, channel_of, edge_stands, exclusion_stands, is_net}
use Rattle.cif_net_model.specs.Interval.{declared_ranges, range_of, truths}
use Rattle.cif_net_model.specs.Unfolding.{at_or}
use Rattle.cif_net_model.specs.Shown.{channel_range}
use Rattle.cif_net_model.specs.Reads.{alg_passes, names_in, list_names}
use Rattle.cif_net_model.specs.Parts.{parts, list_parts, part_divides, is_narrow}
use Rattle.cif_net_model.specs.Counts.{alg_measures, all_beside, depth, list_measure, measure, no_form, most_depth, most_nodes, nodes}
use Rattle.cif_net_model.specs.Rules.{edge_evaluated, is_plain, is_plain_expr}
use Rattle.cif_net_model.specs.Listing.{syncs_on, is_edge_for, exprs_of, all_hold, fails, opens, move_test, choice_test, exclusion_test, event_test}
use Rattle.cif_net_model.proofs.Passing.{and-left, and-right, all-member, each-member}
use Rattle.cif_net_model.proofs.PartLaws.{all-append}
use Rattle.cif_net_model.proofs.PlainLaws.{plain-expr}
use Rattle.cif_net_laws.proofs.Parties.{Part, Parts}
use Rattle.cif_net_laws.proofs.Picked.{autos-stand}
use Rattle.cif_net_laws.proofs.Received.{and-true}
use Rattle.cif_net_laws.proofs.RangingChoices.{plain-any}

-- ---- depths

module _ (n : Net) where
  abbrev pub Deep : ℕ → NetExpr → Type 0
  Deep d e = (measure n e).depth ≤ d

  pub deep-each : (d : ℕ) (es : List NetExpr) → (all_beside (map (measure n) es)).depth ≤ d → AllByRecursion (Deep d) es
  deep-each d [] h = tt
  deep-each d (e ∷ es) h = (omega (arith, h), deep-each d es (omega (arith, h)))

  pub deep-all : (d : ℕ) (es : List NetExpr) → AllByRecursion (Deep d) es → (all_beside (map (measure n) es)).depth ≤ d
  deep-all d [] h = omega arith
  deep-all d (e ∷ es) h = let r = deep-all d es h.1 in let q = h.0 in omega (arith, q, r)

  pub net-of : is_plain n ≡ true → is_net n ≡ true
  net-of h = and-left _ _ (and-left _ _ (and-left _ _ h))

  left-below : (a b d : ℕ) → max a b ≤ d → a ≤ d
  left-below a b d h = omega (arith, h)

  few : (a b : ℕ) → not (nat_lt most_nodes a || nat_lt most_depth b) ≡ true → b ≤ most_depth
  few a b h = grind (arith, nat_tests)

  -- the expressions of a plain net are not deep
  pub deep : is_plain n ≡ true → (e : NetExpr) → Member e (all_exprs n) → Deep most_depth e
  deep h e m =
      each-member (Deep most_depth) (all_exprs n) e (deep-each most_depth (all_exprs n) (left-below _ _ most_depth (few (nodes n) (depth n) (and-right _ _ h)))) m

-- ---- the expressions of edges and exclusions

-- what the expressions of an edge keep
pub record Kept (n : Net) (a : NetAuto) (x : NetEdge) : Type 0 where
  pub stands : edge_stands n a x ≡ true
  pub plain : (f : NetExpr) → Member f (edge_exprs x) → is_plain_expr n (record { value = f; received = channel_range (channel_of n x.event) }) ≡ true
  pub deep : (f : NetExpr) → Member f (edge_exprs x) → Deep n most_depth f

module _ (n : Net) (h : is_plain n ≡ true) where
  pub kept : (k : ℕ) (a : NetAuto) (y : ℕ) (x : NetEdge) → slice_get n.autos k ≡ Some a → slice_get a.edges y ≡ Some x → Kept n a x
  kept k a y x p q =
      let edge : Member x (all_edges n) = flat_map-member (λ (b : NetAuto). b.edges) a n.autos x (at-member n.autos k a p) (at-member a.edges y x q) in
      record {
        stands = all-member (edge_stands n a) a.edges x (and-right _ _ (all-member (auto_stands n) n.autos a (autos-stand n (net-of n h)) (at-member n.autos k a p))) (at-member a.edges y x q);
        plain = λ f m.
            plain-expr n (record { value = f; received = channel_range (channel_of n x.event) }) h
            (append-left _ (flat_map (edge_evaluated n) (all_edges n)) _
            (flat_map-member (edge_evaluated n) x (all_edges n) _ edge (map-member (λ (g : NetExpr). record { value = g; received = channel_range (channel_of n x.event) }) f (edge_exprs x) m)));
        deep = λ f m. deep n h f (append-left f (flat_map edge_exprs (all_edges n)) (other_exprs n) (flat_map-member edge_exprs x (all_edges n) f edge m));
      }

-- ---- tests

-- a boolean expression that may stand in a test
pub record Sound (n : Net) (r : Range) (d : ℕ) (e : NetExpr) : Type 0 where
  pub kind : fits n None bool_kind e ≡ true
  pub plain : is_plain_expr n (record { value = e; received = r }) ≡ true
  pub deep : Deep n d e

module _ (n : Net) (r : Range) where
  abbrev pub AllSound : ℕ → List NetExpr → Type 0
  AllSound d es = AllByRecursion (Sound n r d) es

  pub deeper : (d f : ℕ) (e : NetExpr) → d ≤ f → Sound n r d e → Sound n r f e
  deeper d f e l s = record { kind = s.kind; plain = s.plain; deep = let q = s.deep in omega (arith, q, l) }

  sound-fails : (d : ℕ) (e : NetExpr) → Sound n r d e → Sound n r (d + 1) (fails e)
  sound-fails d e s = record { kind = s.kind; plain = s.plain; deep = let q = s.deep in omega (arith, q) }

  -- a test passes on the parts of each member, and so on those of all
  all-parts-pass : {A : Type 0} (p : A → Bool) (f : NetExpr → List A) (g : NetExprs → List A) → ((e : NetExpr) (rest : NetExprs) → g (net_exprs e rest) ≡ f e ++ g rest) → g no_net_exprs ≡ []
      → (es : List NetExpr) → AllByRecursion (λ e. list_all p (f e) ≡ true) es → list_all p (g (exprs_of es)) ≡ true
  all-parts-pass p f g step none [] h = ap (list_all p) none
  all-parts-pass p f g step none (e ∷ es) h =
      ap (list_all p) (step e (exprs_of es)) ∙ list_all-append p (f e) (g (exprs_of es)) ∙ and-true h.0 (all-parts-pass p f g step none es h.1)

  each-of : (P Q : NetExpr → Type 0) → ((e : NetExpr) → P e → Q e) → (es : List NetExpr) → AllByRecursion P es → AllByRecursion Q es
  each-of P Q f [] h = tt
  each-of P Q f (e ∷ es) h = (f e h.0, each-of P Q f es h.1)

  all-kind : (d : ℕ) (es : List NetExpr) → AllSound d es → all_fit n None (exprs_of es) ≡ true
  all-kind d [] h = refl
  all-kind d (e ∷ es) h = and-true h.0.kind (all-kind d es h.1)

  all-deep : (d : ℕ) (es : List NetExpr) → AllSound d es → (list_measure (at_or no_form (alg_measures n)) (exprs_of es)).depth ≤ d
  all-deep d [] h = omega arith
  all-deep d (e ∷ es) h = let q = h.0.deep in let t = all-deep d es h.1 in omega (arith, q, t)

  pub sound-all : (d : ℕ) (es : List NetExpr) → AllSound d es → Sound n r (d + 1) (all_hold es)
  sound-all d es h = record {
    kind = all-kind d es h;
    plain =
        let g = declared_ranges n r in
        and-true
        (and-true
        (all-parts-pass (alg_passes (λ k. false)) names_in list_names (λ e rest. refl) refl es (each-of (Sound n r d) (λ e. list_all (alg_passes (λ k. false)) (names_in e) ≡ true) (λ e t. and-left _ _ (and-left _ _ t.plain)) es h))
        (all-parts-pass (part_divides g) parts list_parts (λ e rest. refl) refl es (each-of (Sound n r d) (λ e. list_all (part_divides g) (parts e) ≡ true) (λ e t. and-right _ _ (and-left _ _ t.plain)) es h)))
        (all-parts-pass (λ p. is_narrow (range_of g p)) parts list_parts (λ e rest. refl) refl es (each-of (Sound n r d) (λ e. list_all (λ p. is_narrow (range_of g p)) (parts e) ≡ true) (λ e t. and-right _ _ t.plain) es h));
    deep = let q = all-deep d es h in omega (arith, q);
  }

  sound-place : (d k : ℕ) (a : NetAuto) (place : ℕ) → slice_get n.autos k ≡ Some a → nat_lt place (length a.locs) ≡ true → Sound n r d (net_expr (n_loc k place) 0)
  sound-place d k a place g l = record {
    kind = ap (λ o. nat_lt place (places_of o)) g ∙ l;
    plain = refl;
    deep = omega arith;
  }

  -- ---- the tests of edges

  module _ (e : ℕ) (here : r ≡ channel_range (channel_of n e)) (h : is_plain n ≡ true) where
    opens-sound : (k y : ℕ) (a : NetAuto) (x : NetEdge) → slice_get n.autos k ≡ Some a → slice_get a.edges y ≡ Some x → nat_eq x.event e ≡ true → AllSound most_depth (opens k x)
    opens-sound k y a x p q v =
        let t = kept n h k a y x p q in
        let same : channel_range (channel_of n x.event) ≡ r = ap (λ z. channel_range (channel_of n z)) (eqb-true x.event e v) ∙ sym here in (
          sound-place most_depth k a x.from p (and-right _ _ (and-left _ _ (and-left _ _ (and-left _ _ (and-left _ _ (and-left _ _ (and-left _ _ (and-left _ _ t.stands)))))))),
          (
            record {
              kind = and-right _ _ (and-left _ _ (and-left _ _ (and-left _ _ (and-left _ _ (and-left _ _ t.stands)))));
              plain = subst (λ z. is_plain_expr n (record { value = x.guard; received = z }) ≡ true) same (t.plain x.guard (inl refl));
              deep = t.deep x.guard (inl refl);
            },
            tt,
          ),
        )

    -- two conjunctions and a negation round a guard
    closed-sound : (k : ℕ) (a : NetAuto) → slice_get n.autos k ≡ Some a → (j : ℕ) (xs : List NetEdge) → ((i : ℕ) (x : NetEdge) → slice_get xs i ≡ Some x → slice_get a.edges (j + i) ≡ Some x)
        → AllSound (most_depth + 1 + 1) (map (λ x. fails (all_hold (opens k x))) (filter (is_edge_for syncing e) xs))
    closed-sound k a p j [] w = tt
    closed-sound k a p j (x ∷ xs) w = by (is_edge_for syncing e x) refl (closed-sound k a p (j + 1) xs (λ i z g. subst (λ m. slice_get a.edges m ≡ Some z) (omega arith) (w (suc i) z g)))
      where
        by : (b : Bool) → is_edge_for syncing e x ≡ b → AllSound (most_depth + 1 + 1) (map (λ y. fails (all_hold (opens k y))) (filter (is_edge_for syncing e) xs))
            → AllSound (most_depth + 1 + 1) (map (λ y. fails (all_hold (opens k y))) (if b then x ∷ filter (is_edge_for syncing e) xs else filter (is_edge_for syncing e) xs))
        by true v rest = (
          sound-fails (most_depth + 1) (all_hold (opens k x)) (sound-all most_depth (opens k x) (opens-sound k (j + 0) a x p (w 0 x refl) (and-right _ _ v))),
          rest,
        )
        by false v rest = rest

    all-deeper : (d f : ℕ) → d ≤ f → (es : List NetExpr) → AllSound d es → AllSound f es
    all-deeper d f l es a = each-of (Sound n r d) (Sound n r f) (λ x s. deeper d f x l s) es a

    module _ (i j : ℕ) where
      move-sound : (k : ℕ) (a : NetAuto) (o : Option ℕ) → slice_get n.autos k ≡ Some a → Part e i j k a o → AllSound (most_depth + 1 + 1) (move_test e ((k, a), o))
      move-sound k a None p t = by (syncs_on e a)
        where
          by : (b : Bool) → AllSound (most_depth + 1 + 1) (if b then map (λ x. fails (all_hold (opens k x))) (filter (is_edge_for syncing e) a.edges) else [])
          by true = closed-sound k a p 0 a.edges (λ m z g. subst (λ q. slice_get a.edges q ≡ Some z) (omega arith) g)
          by false = tt
      move-sound k a (Some y) p (x, q, v, t) =
          subst (λ o. AllSound (most_depth + 1 + 1) (elim o [ None ↦ [] | Some z ↦ opens k z ])) (sym q) (all-deeper most_depth (most_depth + 1 + 1) (omega arith) (opens k x) (opens-sound k y a x p q v))

      moves-sound : (k : ℕ) (ds : List NetAuto) (ch : Choice) → ((m : ℕ) (a : NetAuto) → slice_get ds m ≡ Some a → slice_get n.autos (k + m) ≡ Some a) → Parts e i j k ds ch
          → AllSound (most_depth + 1 + 1) (flat_map (move_test e) (zip (enumerate_from k ds) ch))
      moves-sound k [] ch at p = tt
      moves-sound k (a ∷ ds) [] at p = tt
      moves-sound k (a ∷ ds) (o ∷ ch) at p =
          all-append (Sound n r (most_depth + 1 + 1)) (move_test e ((k, a), o)) (flat_map (move_test e) (zip (enumerate_from (k + 1) ds) ch))
          (move-sound k a o (subst (λ q. slice_get n.autos q ≡ Some a) (omega arith) (at 0 a refl)) p.0)
          (moves-sound (k + 1) ds ch (λ m z g. subst (λ q. slice_get n.autos q ≡ Some z) (omega arith) (at (suc m) z g)) p.1)

      pub choice-sound : (ch : Choice) → Parts e i j 0 n.autos ch → AllSound (most_depth + 1 + 1) (choice_test n e ch)
      choice-sound ch p = moves-sound 0 n.autos ch (λ m z g. subst (λ q. slice_get n.autos q ≡ Some z) (omega arith) g) p

    -- ---- the tests of exclusions

    pred-sound : (x : NetExclusion) → Member x n.exclusions → Sound n r most_depth x.pred
    pred-sound x m =
        let other : Member x.pred (other_exprs n) = append-left x.pred (map (λ (y : NetExclusion). y.pred) n.exclusions) (map (λ (y : NetInvariant). y.pred) n.invariants ++ flat_map alg_exprs n.algs) (map-member (λ (y : NetExclusion). y.pred) x n.exclusions m) in
        let kind : fits n None bool_kind x.pred ≡ true = and-right _ _ (all-member (exclusion_stands n) n.exclusions x (and-right _ _ (and-left _ _ (and-left _ _ (net-of n h)))) m) in
        record {
          kind = kind;
          plain =
              plain-any n bool_kind x.pred truths r kind
              (plain-expr n (record { value = x.pred; received = truths }) h
              (append-right _ (flat_map (edge_evaluated n) (all_edges n)) _ (map-member (λ (g : NetExpr). record { value = g; received = truths }) x.pred (other_exprs n) other)));
          deep = deep n h x.pred (append-right x.pred (flat_map edge_exprs (all_edges n)) (other_exprs n) other);
        }

    exclusion-sound : (x : NetExclusion) → Member x n.exclusions → Sound n r (most_depth + 1 + 1) (exclusion_test x)
    exclusion-sound x m = by x.allows
      where
        by : (b : Bool) → Sound n r (most_depth + 1 + 1) (if b then x.pred else fails x.pred)
        by true = deeper most_depth (most_depth + 1 + 1) x.pred (omega arith) (pred-sound x m)
        by false = deeper (most_depth + 1) (most_depth + 1 + 1) (fails x.pred) (omega arith) (sound-fails most_depth x.pred (pred-sound x m))

    exclusions-sound : (xs : List NetExclusion) → ((x : NetExclusion) → Member x xs → Member x n.exclusions) → AllSound (most_depth + 1 + 1) (map exclusion_test (filter (λ (x : NetExclusion). nat_eq x.event e) xs))
    exclusions-sound [] w = tt
    exclusions-sound (x ∷ xs) w = by (nat_eq x.event e) (exclusions-sound xs (λ z m. w z (inr m)))
      where
        by : (b : Bool) → AllSound (most_depth + 1 + 1) (map exclusion_test (filter (λ (y : NetExclusion). nat_eq y.event e) xs))
            → AllSound (most_depth + 1 + 1) (map exclusion_test (if b then x ∷ filter (λ (y : NetExclusion). nat_eq y.event e) xs else filter (λ (y : NetExclusion). nat_eq y.event e) xs))
        by true rest = (exclusion-sound x (w x (inl refl)), rest)
        by false rest = rest

    pub event-sound : AllSound (most_depth + 1 + 1) (event_test n e)
    event-sound = exclusions-sound n.exclusions (λ x m. m)
