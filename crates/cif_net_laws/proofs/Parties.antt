-- What each automaton does in a choice of the net: it synchronises, sends, receives, or stays.
use Rattle.std.proofs.Common.{◌≡◌, ◌⊎◌, ℕ, ◌+◌, Bool, true, false, not, ◌&&◌, inl, inr, List, [], ◌∷◌, ◌++◌, map, Option, Some, None, refl, sym, subst}
use Rattle.std.specs.Prelude.{slice_get, nat_eq, if◌then◌else◌}
use Rattle.std.specs.List.{list_all, enumerate_from}
use Rattle.std.proofs.lemmas.Bool.{eqb-true}
use Rattle.cif_system.specs.Words.{Member}
use Rattle.cif_system.specs.System.{Role, syncing, sending, receiving}
use Rattle.cif_system.specs.Step.{Choice, is_for, same_role}
use Rattle.cif_system.specs.Choices.{edges_for, options_between, product_of, stay}
use Rattle.cif_system.proofs.Distinct.{member-append, member-map, member-flat_map}
use Rattle.cif_system.proofs.DistinctLaws.{edge-taken}
use Rattle.cif_system.proofs.Picks.{and-left, and-right, map-at, all-at}
use Rattle.cif_system.proofs.Lists.{false-true}
use Rattle.cif_net_model.specs.Net.{NetAuto, NetEdge, Net}
use Rattle.cif_net_model.specs.Meaning.{automaton_in, edge_meant}
use Rattle.cif_net_model.specs.Listing.{syncs_on, monitors_event}
use Rattle.cif_net_model.specs.Facts.{auto_stands, edge_stands, is_one_role}
use Rattle.cif_net_model.proofs.Passing.{not-true}

-- its edge, where automaton `i` sends to automaton `j`
abbrev pub RolePart : (e i j k : ℕ) → NetAuto → Role → Type 0
RolePart e i j k a p =
    ((p ≡ syncing) × (syncs_on e a ≡ true) × (nat_eq k i ≡ false) × (nat_eq k j ≡ false))
    ⊎ (((p ≡ sending) × (syncs_on e a ≡ false) × (nat_eq k i ≡ true))
    ⊎ ((p ≡ receiving) × (syncs_on e a ≡ false) × (nat_eq k i ≡ false) × (nat_eq k j ≡ true)))

-- what automaton k does
abbrev pub Part : (e i j k : ℕ) → NetAuto → Option ℕ → Type 0
Part e i j k a None = (nat_eq k i ≡ false) × (nat_eq k j ≡ false) × ((syncs_on e a ≡ false) ⊎ ((syncs_on e a ≡ true) × (monitors_event e a ≡ true)))
Part e i j k a (Some y) = (x : NetEdge) × (slice_get a.edges y ≡ Some x) × (nat_eq x.event e ≡ true) × RolePart e i j k a x.role

abbrev pub Parts : (e i j k : ℕ) → List NetAuto → Choice → Type 0
Parts e i j k [] [] = Unit {0}
Parts e i j k [] (o ∷ ch) = ⊥
Parts e i j k (a ∷ ds) [] = ⊥
Parts e i j k (a ∷ ds) (o ∷ ch) = Part e i j k a o × Parts e i j (k + 1) ds ch

role-is : (p r : Role) → same_role p r ≡ true → r ≡ p
role-is syncing syncing h = refl
role-is sending sending h = refl
role-is receiving receiving h = refl
role-is p r h = absurd (false-true refl h)

module _ (n : Net) (e : ℕ) where
  abbrev Way : Role → NetAuto → Option ℕ → Type 0
  Way p a o = (y : ℕ) × (o ≡ Some y) × ((x : NetEdge) × (slice_get a.edges y ≡ Some x) × (nat_eq x.event e ≡ true) × (x.role ≡ p))

  way : (p : Role) (k : ℕ) (a : NetAuto) (o : Option ℕ) → Member o (edges_for p e (automaton_in n a)) → Way p a o
  way p k a o m =
      let t = edge-taken p e (k, automaton_in n a) o m in
      let w = map-at (edge_meant n) a.edges t.number t.way t.stands in
      let q : (same_role p w.0.role && nat_eq w.0.event e) ≡ true = subst (λ z. is_for p e z ≡ true) w.2 t.in_role in
      (t.number, t.is, (w.0, w.1, and-right _ _ q, role-is p w.0.role (and-left _ _ q)))

  role-of : (a : NetAuto) (y : ℕ) (x : NetEdge) → auto_stands n a ≡ true → slice_get a.edges y ≡ Some x → is_one_role a x ≡ true
  role-of a y x h g = and-right _ _ (all-at (edge_stands n a) a.edges y x (and-right _ _ h) g)

  no-sync : (a : NetAuto) (x : NetEdge) → nat_eq x.event e ≡ true → not (syncs_on x.event a) ≡ true → syncs_on e a ≡ false
  no-sync a x q h = subst (λ v. syncs_on v a ≡ false) (eqb-true x.event e q) (not-true _ h)

  sends-apart : (a : NetAuto) (x : NetEdge) → nat_eq x.event e ≡ true → x.role ≡ sending → is_one_role a x ≡ true → syncs_on e a ≡ false
  sends-apart a x q r h = no-sync a x q (and-left _ _ (subst (λ p. is_one_role a (record x { role = p }) ≡ true) r h))

  receives-apart : (a : NetAuto) (x : NetEdge) → nat_eq x.event e ≡ true → x.role ≡ receiving → is_one_role a x ≡ true → syncs_on e a ≡ false
  receives-apart a x q r h = no-sync a x q (subst (λ p. is_one_role a (record x { role = p }) ≡ true) r h)

  module _ (i j : ℕ) where
    between : (k : ℕ) → NetAuto → List (Option ℕ)
    between k a = options_between e i j (k, automaton_in n a)

    some-part : (k : ℕ) (a : NetAuto) (o : Option ℕ) (p : Role) → Way p a o → ((x : NetEdge) → is_one_role a x ≡ true → nat_eq x.event e ≡ true → x.role ≡ p → RolePart e i j k a p) → auto_stands n a ≡ true → Part e i j k a o
    some-part k a o p w f h =
        let x = w.2.0 in
        subst (Part e i j k a) (sym w.1) (x, w.2.1, w.2.2, subst (RolePart e i j k a) (sym w.2.3) (f x (role-of a w.0 x h w.2.1) w.2.2 w.2.3))

    part : (k : ℕ) (a : NetAuto) (o : Option ℕ) → auto_stands n a ≡ true → Member o (options_between e i j (k, automaton_in n a)) → Part e i j k a o
    part k a o h = by (nat_eq k i) refl (nat_eq k j) refl (syncs_on e a) refl
      where
        stayed : nat_eq k i ≡ false → nat_eq k j ≡ false → ((syncs_on e a ≡ false) ⊎ ((syncs_on e a ≡ true) × (monitors_event e a ≡ true))) → o ≡ None → Part e i j k a o
        stayed p q r z = subst (Part e i j k a) (sym z) (p, q, r)

        synced : nat_eq k i ≡ false → nat_eq k j ≡ false → syncs_on e a ≡ true → (b : Bool) → monitors_event e a ≡ b → Member o (edges_for syncing e (automaton_in n a)) ⊎ Member o (stay b) → Part e i j k a o
        synced p q r b u (inl m) = some-part k a o syncing (way syncing k a o m) (λ x _ _ _. inl (refl, r, p, q)) h
        synced p q r true u (inr (inl z)) = stayed p q (inr (r, u)) z
        synced p q r true u (inr (inr z)) = absurd z
        synced p q r false u (inr z) = absurd z

        by : (b : Bool) → nat_eq k i ≡ b → (c : Bool) → nat_eq k j ≡ c → (d : Bool) → syncs_on e a ≡ d
            → Member o (if b then edges_for sending e (automaton_in n a) else (if c then edges_for receiving e (automaton_in n a) else (if d then edges_for syncing e (automaton_in n a) ++ stay (monitors_event e a) else None ∷ [])))
            → Part e i j k a o
        by true p c q d r m = some-part k a o sending (way sending k a o m) (λ x s v w. inr (inl (refl, sends-apart a x v w s, p))) h
        by false p true q d r m = some-part k a o receiving (way receiving k a o m) (λ x s v w. inr (inr (refl, receives-apart a x v w s, p, q))) h
        by false p false q true r m = synced p q r (monitors_event e a) refl (member-append o (edges_for syncing e (automaton_in n a)) (stay (monitors_event e a)) m)
        by false p false q false r (inl z) = stayed p q (inl r) z
        by false p false q false r (inr z) = absurd z

    pub parts : (k : ℕ) (ds : List NetAuto) (ch : Choice) → list_all (auto_stands n) ds ≡ true → Member ch (product_of (map (options_between e i j) (enumerate_from k (map (automaton_in n) ds)))) → Parts e i j k ds ch
    parts k [] ch h (inl z) = subst (Parts e i j k []) (sym z) tt
    parts k [] ch h (inr z) = absurd z
    parts k (a ∷ ds) ch h m =
        let rest : List Choice = product_of (map (options_between e i j) (enumerate_from (k + 1) (map (automaton_in n) ds))) in
        let r = member-flat_map (λ x. map (λ ys. x ∷ ys) rest) ch (options_between e i j (k, automaton_in n a)) m in
        let t = member-map (λ ys. r.0 ∷ ys) ch rest r.2 in
        subst (Parts e i j k (a ∷ ds)) (sym t.2) (part k a r.0 (and-left _ _ h) r.1, parts (k + 1) ds t.0 (and-right _ _ h) t.1)
