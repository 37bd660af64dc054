-- A net in which algebraic variables are replaced by their definitions is a net.
use Rattle.std.proofs.Common.{◌≡◌, ℕ, suc, ◌+◌, ◌<◌, ◌≤◌, Bool, true, not, ◌&&◌, ◌||◌, List, [], ◌∷◌, ◌++◌, map, length, sum, slice_get, Option, Some, None, option_map, refl, sym, ◌∙◌, ap, subst, length-append, arith}
use Rattle.std.specs.Prelude.{nat_eq, nat_lt, nat_le, flat_map, option_to_list}
use Rattle.std.specs.List.{list_all, list_any}
use Rattle.std.proofs.lemmas.Bool.Decides.{nat_tests}
use Rattle.cif_base.specs.declared.types.Ty.{Ty}
use Rattle.cif_system.specs.System.{Role, syncing, sending, receiving}
use Rattle.cif_system.specs.Step.{same_role}
use Rattle.cif_system.proofs.Lists.{map-length}
use Rattle.cif_system.proofs.Picks.{at-member}
use Rattle.cif_net_expr.specs.Tree.{NetExpr, net_expr, n_alg, NetUpdate, net_set, net_choose, NetUpdates, no_net_updates, net_updates, NetUpdateBranches, no_net_update_branches, net_update_branches}
use Rattle.cif_net_model.specs.Net.{NetChan, no_net_chan, void_net_chan, net_chan_of, NetEdge, NetAuto, NetAlg, NetExclusion, NetInvariant, Net}
use Rattle.cif_net_model.specs.Exprs.{Written, writes_all, targets, edge_values}
use Rattle.cif_net_model.specs.Kinds.{Kind, bool_kind, kind_of, has_type, places_of, alg_fits, kinds_in, fits, branches_fit, fits_type}
use Rattle.cif_net_model.specs.Facts.{has, are_apart, are_all_apart, var_kind, assigns_kind, updates_stand, update_stands, branches_stand, channel_of, received_type, role_stands, has_use, is_one_role, edge_stands, auto_stands, auto_targets, alg_stands, exclusion_stands, invariant_stands, things, is_net}
use Rattle.cif_net_model.specs.Inline.{replaced, updates_replaced, update_replaced, update_branches_replaced, edge_replaced, auto_replaced, alg_replaced, net_replaced, place_branches, last_of, by_places, defined_by}
use Rattle.cif_net_model.proofs.Passing.{and-left, and-right, all-member}
use Rattle.cif_net_model.proofs.PlainLaws.{never}
use Rattle.cif_net_model.proofs.ValueLaws.{ap-two}
use Rattle.cif_net_laws.proofs.Fitting.{kind-told, places-same, alg_fits-same, kinds-same, replaced-fits}
use Rattle.cif_net_laws.proofs.Induction as induction
use Rattle.cif_net_laws.proofs.Lists.{and-both, any-more, map-after}
use Rattle.cif_net_laws.proofs.Naming.{some-place, algs-stand, autos-stand, exclusions-stand, invariants-stand}
use Rattle.cif_net_laws.proofs.Settled.{Settled}
use Rattle.cif_net_laws.proofs.Solved.{alg-cases}
use Rattle.cif_net_laws.proofs.Written.{targets-same, writes-replaced, written_replaced}

-- ---- a value for each place

module _ (q : Net) (r : Option Ty) (k : Kind) (a : ℕ) where
  -- the rest of the places is there
  places-fit : (j : ℕ) (e : NetExpr) (es : List NetExpr) → list_all (fits q r k) (e ∷ es) ≡ true → j + suc (length es) ≤ places_of (slice_get q.autos a)
      → (branches_fit q r k (place_branches a j e es) ≡ true) × (fits q r k (last_of e es) ≡ true)
  places-fit j e [] h l = (refl, and-left _ _ h)
  places-fit j e (f ∷ fs) h l =
      let more : suc j + suc (length fs) ≤ places_of (slice_get q.autos a) = omega (arith, l) in
      let t : nat_lt j (places_of (slice_get q.autos a)) ≡ true = below j (places_of (slice_get q.autos a)) (omega (arith, l)) in
      let rest = places-fit (suc j) f fs (and-right _ _ h) more in
      (and-both _ _ (and-both _ _ t (and-left _ _ h)) rest.0, rest.1)
    where
      below : (x y : ℕ) → x < y → nat_lt x y ≡ true
      below x y g = grind (arith, nat_tests)

  by_places-fit : (es : List NetExpr) → list_all (fits q r k) es ≡ true → 0 < length es → length es ≤ places_of (slice_get q.autos a) → fits q r k (by_places a es) ≡ true
  by_places-fit [] h l m = absurd (omega (arith, l))
  by_places-fit (e ∷ []) h l m = and-left _ _ h
  by_places-fit (e ∷ f ∷ fs) h l m = let w = places-fit 0 e (f ∷ fs) h (omega (arith, m)) in and-both _ _ w.0 w.1

module _ (n p : Net) (net : is_net n ≡ true) (s : Settled n p) where
  abbrev q : Net
  q = net_replaced s.by n

  -- ---- what replaces an algebraic variable

  module _ (r : Option Ty) where
    abbrev Good : ℕ → NetExpr → Type 0
    Good j e = (k : Kind) → alg_fits k (slice_get n.algs j) ≡ true → fits q r k e ≡ true

    each-fits : (c : ℕ → NetExpr) → ((j : ℕ) → Good j (c j)) → (k : Kind) (es : List NetExpr) → list_all (fits n None k) es ≡ true → list_all (fits q r k) (map (replaced c) es) ≡ true
    each-fits c good k [] h = refl
    each-fits c good k (e ∷ es) h = and-both _ _ (replaced-fits s.by n c None r (λ t j. good j t) (λ t w. never w) k e (and-left _ _ h)) (each-fits c good k es (and-right _ _ h))

    defined-fits : (c : ℕ → NetExpr) → ((j : ℕ) → Good j (c j)) → (a : NetAlg) → alg_stands n a ≡ true → fits q r (kind_of a.type_of a.literals) (defined_by (alg_replaced c a)) ≡ true
    defined-fits c good =
        alg-cases (λ a. alg_stands n a ≡ true → fits q r (kind_of a.type_of a.literals) (defined_by (alg_replaced c a)) ≡ true)
        (λ a e h. replaced-fits s.by n c None r (λ t j. good j t) (λ t w. never w) (kind_of a.type_of a.literals) e (and-right _ _ h))
        (λ a i es h.
        let w = and-right _ _ h in
        let v = and-left _ _ w in
        let long : nat_eq (length es) (places_of (slice_get n.autos i)) ≡ true = and-right _ _ v in
        by_places-fit q r (kind_of a.type_of a.literals) i (map (replaced c) es) (each-fits c good (kind_of a.type_of a.literals) es (and-right _ _ w))
        (filled es (some-place n net i (length es) (and-left _ _ v) long)) (enough i es long))
      where
        filled : (es : List NetExpr) → 0 < length es → 0 < length (map (replaced c) es)
        filled es l = omega (arith, l, map-length (replaced c) es)

        enough : (i : ℕ) (es : List NetExpr) → nat_eq (length es) (places_of (slice_get n.autos i)) ≡ true → length (map (replaced c) es) ≤ places_of (slice_get q.autos i)
        enough i es t = let e : length es ≡ places_of (slice_get n.autos i) = grind (arith, nat_tests) in omega (arith, e, map-length (replaced c) es, places-same s.by n i)

    good : (j : ℕ) → Good j (s.by j)
    good = induction.each n p s Good (λ j. net_expr (n_alg j) 0)
        (λ j k h. alg_fits-same s.by n k j ∙ h)
        (λ j e k h. alg_fits-same s.by n k j ∙ h)
        (λ c before j a e k h.
        let stands : alg_stands n a ≡ true = all-member (alg_stands n) n.algs a (algs-stand n net) (at-member n.algs j a e) in
        let same : k ≡ kind_of a.type_of a.literals = kind-told k (kind_of a.type_of a.literals) (subst (λ o. alg_fits k o ≡ true) e h) in
        subst (λ t. fits q r t (defined_by (alg_replaced c a)) ≡ true) (sym same) (defined-fits c before a stands))

    pub fits-same : (k : Kind) (e : NetExpr) → fits n r k e ≡ true → fits q r k (replaced s.by e) ≡ true
    fits-same = replaced-fits s.by n s.by r r (λ k j. good j k) (λ k h. h)

    -- ---- updates

    assigns-same : (o : Option Kind) (e : NetExpr) → assigns_kind n r o e ≡ true → assigns_kind q r o (replaced s.by e) ≡ true
    assigns-same None e h = never h
    assigns-same (Some k) e h = fits-same k e h

    mutual
      updates-same : (us : NetUpdates) → updates_stand n r us ≡ true → updates_stand q r (updates_replaced s.by us) ≡ true
      updates-same no_net_updates h = refl
      updates-same (net_updates u us) h =
          let g = and-left _ _ h in
          and-both _ _
          (and-both _ _ (update-same u (and-left _ _ g))
          (ap-two are_apart (targets-same s.by (net_updates u no_net_updates)) (targets-same s.by us) ∙ and-right _ _ g))
          (updates-same us (and-right _ _ h))

      update-same : (u : NetUpdate) → update_stands n r u ≡ true → update_stands q r (update_replaced s.by u) ≡ true
      update-same (net_set v e) h = assigns-same (var_kind (slice_get n.vars v)) e h
      update-same (net_choose bs us) h = and-both _ _ (update-branches-same bs (and-left _ _ h)) (updates-same us (and-right _ _ h))

      update-branches-same : (bs : NetUpdateBranches) → branches_stand n r bs ≡ true → branches_stand q r (update_branches_replaced s.by bs) ≡ true
      update-branches-same no_net_update_branches h = refl
      update-branches-same (net_update_branches c us bs) h =
          let g = and-left _ _ h in
          and-both _ _ (and-both _ _ (fits-same bool_kind c (and-left _ _ g)) (updates-same us (and-right _ _ g))) (update-branches-same bs (and-right _ _ h))

  -- ---- edges

  type-same : (t : Ty) (e : NetExpr) → fits_type n t e ≡ true → fits_type q t (replaced s.by e) ≡ true
  type-same t e h =
      ap (list_any (λ k. has_type t k && fits q None k (replaced s.by e))) (kinds-same s.by n)
      ∙ any-more (λ k. has_type t k && fits n None k e) (λ k. has_type t k && fits q None k (replaced s.by e)) (λ k g. and-both _ _ (and-left _ _ g) (fits-same None k e (and-right _ _ g))) (kinds_in n) h

  role-same : (x : Role) (c : NetChan) (o : Option NetExpr) → role_stands n x c o ≡ true → role_stands q x c (option_map (replaced s.by) o) ≡ true
  role-same sending (net_chan_of t) None h = never h
  role-same sending (net_chan_of t) (Some e) h = type-same t e h
  role-same sending void_net_chan None h = h
  role-same sending void_net_chan (Some e) h = never h
  role-same sending no_net_chan o h = never h
  role-same receiving no_net_chan o h = never h
  role-same receiving void_net_chan None h = h
  role-same receiving void_net_chan (Some e) h = never h
  role-same receiving (net_chan_of t) None h = h
  role-same receiving (net_chan_of t) (Some e) h = never h
  role-same syncing no_net_chan None h = h
  role-same syncing no_net_chan (Some e) h = never h
  role-same syncing void_net_chan None h = h
  role-same syncing void_net_chan (Some e) h = never h
  role-same syncing (net_chan_of t) None h = h
  role-same syncing (net_chan_of t) (Some e) h = never h

  sent-long : (o : Option NetExpr) → length (option_to_list (option_map (replaced s.by) o)) ≡ length (option_to_list o)
  sent-long None = refl
  sent-long (Some e) = refl

  values-long : (x : NetEdge) → length (edge_values (edge_replaced s.by x)) ≡ length (edge_values x)
  values-long x =
      let a : length (map (λ (w : Written). w.value) (writes_all (updates_replaced s.by x.updates))) ≡ length (writes_all x.updates) =
      map-length (λ (w : Written). w.value) (writes_all (updates_replaced s.by x.updates)) ∙ ap length (writes-replaced s.by x.updates) ∙ map-length (written_replaced s.by) (writes_all x.updates) in
      let b : length (map (λ (w : Written). w.value) (writes_all x.updates)) ≡ length (writes_all x.updates) = map-length (λ (w : Written). w.value) (writes_all x.updates) in
      length-append (option_to_list (option_map (replaced s.by) x.sent)) (map (λ (w : Written). w.value) (writes_all (updates_replaced s.by x.updates)))
      ∙ ap-two (λ v w. v + w) (sent-long x.sent) (a ∙ sym b)
      ∙ sym (length-append (option_to_list x.sent) (map (λ (w : Written). w.value) (writes_all x.updates)))

  uses-same : (x : Role) (e : ℕ) (xs : List NetEdge) → has_use x e (map (edge_replaced s.by) xs) ≡ has_use x e xs
  uses-same x e [] = refl
  uses-same x e (y ∷ ys) = ap (λ b. (nat_eq y.event e && same_role y.role x) || b) (uses-same x e ys)

  one_role-same : (a : NetAuto) (x : NetEdge) → is_one_role (auto_replaced s.by a) (edge_replaced s.by x) ≡ is_one_role a x
  one_role-same a x = by x.role
    where
      by : (o : Role) → is_one_role (auto_replaced s.by a) (record x { role = o }) ≡ is_one_role a (record x { role = o })
      by syncing = refl
      by sending = ap (λ b. not (has a.alphabet x.event) && not b) (uses-same receiving x.event a.edges)
      by receiving = refl

  edge-same : (a : NetAuto) (x : NetEdge) → edge_stands n a x ≡ true → edge_stands q (auto_replaced s.by a) (edge_replaced s.by x) ≡ true
  edge-same a x h8 =
      let h7 = and-left _ _ h8 in
      let h6 = and-left _ _ h7 in
      let h5 = and-left _ _ h6 in
      let h4 = and-left _ _ h5 in
      let h3 = and-left _ _ h4 in
      and-both _ _ (and-both _ _ (and-both _ _ (and-both _ _ (and-both _ _ (and-both _ _ (and-left _ _ h3)
      (fits-same None bool_kind x.guard (and-right _ _ h3)))
      (role-same x.role (channel_of n x.event) x.sent (and-right _ _ h4)))
      (updates-same (received_type n x) x.updates (and-right _ _ h5)))
      (ap (nat_eq (length x.places)) (values-long x) ∙ and-right _ _ h6))
      (and-right _ _ h7))
      (one_role-same a x ∙ and-right _ _ h8)

  edges-same : (a : NetAuto) (xs : List NetEdge) → list_all (edge_stands n a) xs ≡ true → list_all (edge_stands q (auto_replaced s.by a)) (map (edge_replaced s.by) xs) ≡ true
  edges-same a [] h = refl
  edges-same a (x ∷ xs) h = and-both _ _ (edge-same a x (and-left _ _ h)) (edges-same a xs (and-right _ _ h))

  -- ---- the rest

  mapped : {A : Type 0} (f : A → A) (u v : A → Bool) → ((x : A) → u x ≡ true → v (f x) ≡ true) → (xs : List A) → list_all u xs ≡ true → list_all v (map f xs) ≡ true
  mapped f u v e [] h = refl
  mapped f u v e (x ∷ xs) h = and-both _ _ (e x (and-left _ _ h)) (mapped f u v e xs (and-right _ _ h))

  auto-same : (a : NetAuto) → auto_stands n a ≡ true → auto_stands q (auto_replaced s.by a) ≡ true
  auto-same a h = and-both _ _ (and-left _ _ h) (edges-same a a.edges (and-right _ _ h))

  alg-same : (a : NetAlg) → alg_stands n a ≡ true → alg_stands q (alg_replaced s.by a) ≡ true
  alg-same =
      alg-cases (λ a. alg_stands n a ≡ true → alg_stands q (alg_replaced s.by a) ≡ true)
      (λ a e h. and-both _ _ (and-left _ _ h) (fits-same None (kind_of a.type_of a.literals) e (and-right _ _ h)))
      (λ a i es h.
      let w = and-right _ _ h in
      let v = and-left _ _ w in
      and-both _ _ (and-left _ _ h)
      (and-both _ _
      (and-both _ _ (ap (nat_lt i) (map-length (auto_replaced s.by) n.autos) ∙ and-left _ _ v) (ap-two nat_eq (map-length (replaced s.by) es) (places-same s.by n i) ∙ and-right _ _ v))
      (mapped (replaced s.by) (fits n None (kind_of a.type_of a.literals)) (fits q None (kind_of a.type_of a.literals)) (fits-same None (kind_of a.type_of a.literals)) es (and-right _ _ w))))

  things-same : things q ≡ things n
  things-same =
      let a : length q.autos ≡ length n.autos = map-length (auto_replaced s.by) n.autos in
      let b : sum (map (λ (x : NetAuto). length x.locs + length x.edges) q.autos) ≡ sum (map (λ (x : NetAuto). length x.locs + length x.edges) n.autos) =
      ap sum (map-after (auto_replaced s.by) (λ (x : NetAuto). length x.locs + length x.edges) (λ (x : NetAuto). length x.locs + length x.edges) n.autos (λ x m. ap (λ l. length x.locs + l) (map-length (edge_replaced s.by) x.edges))) in
      let c : length q.algs ≡ length n.algs = map-length (alg_replaced s.by) n.algs in
      let d : length q.exclusions ≡ length n.exclusions = map-length (λ (x : NetExclusion). record x { pred = replaced s.by x.pred }) n.exclusions in
      let e : length q.invariants ≡ length n.invariants = map-length (λ (i : NetInvariant). record i { pred = replaced s.by i.pred }) n.invariants in
      omega (arith, a, b, c, d, e)

  edges-targets : (xs : List NetEdge) → flat_map (λ (x : NetEdge). targets x.updates) (map (edge_replaced s.by) xs) ≡ flat_map (λ (x : NetEdge). targets x.updates) xs
  edges-targets [] = refl
  edges-targets (x ∷ xs) = ap-two (λ v w. v ++ w) (targets-same s.by x.updates) (edges-targets xs)

  targets-all : map auto_targets q.autos ≡ map auto_targets n.autos
  targets-all = map-after (auto_replaced s.by) auto_targets auto_targets n.autos (λ a m. edges-targets a.edges)

  pub net-stands : is_net q ≡ true
  net-stands =
      let h7 = and-left _ _ net in
      let h6 = and-left _ _ h7 in
      let h5 = and-left _ _ h6 in
      let h4 = and-left _ _ h5 in
      let h3 = and-left _ _ h4 in
      let h2 = and-left _ _ h3 in
      let h1 = and-left _ _ h2 in
      and-both _ _ (and-both _ _ (and-both _ _ (and-both _ _ (and-both _ _ (and-both _ _ (and-both _ _ (and-both _ _
      (ap (λ k. nat_le k 100000) things-same ∙ and-left _ _ h1)
      (and-right _ _ h1))
      (and-right _ _ h2))
      (and-right _ _ h3))
      (mapped (auto_replaced s.by) (auto_stands n) (auto_stands q) auto-same n.autos (autos-stand n net)))
      (mapped (alg_replaced s.by) (alg_stands n) (alg_stands q) alg-same n.algs (algs-stand n net)))
      (mapped (λ (x : NetExclusion). record x { pred = replaced s.by x.pred }) (exclusion_stands n) (exclusion_stands q) (λ x h. and-both _ _ (and-left _ _ h) (fits-same None bool_kind x.pred (and-right _ _ h))) n.exclusions (exclusions-stand n net)))
      (mapped (λ (i : NetInvariant). record i { pred = replaced s.by i.pred }) (invariant_stands n) (invariant_stands q) (λ i h. fits-same None bool_kind i.pred h) n.invariants (invariants-stand n net)))
      (ap are_all_apart targets-all ∙ and-right _ _ net)
