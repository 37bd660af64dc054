-- A listed choice agrees where each automaton does what it may: the rest of agreement holds by what the choice is made of.
use Rattle.std.proofs.Common.{◌≡◌, ◌⊎◌, ℕ, ◌+◌, ◌<◌, ◌≤◌, Bool, true, false, not, ◌&&◌, ◌||◌, inl, inr, List, [], ◌∷◌, length, map, filter, zip, Option, Some, None, refl, sym, ◌∙◌, ap, subst, arith}
use Rattle.std.specs.Prelude.{slice_get, nat_eq, if◌then◌else◌}
use Rattle.std.specs.List.{list_all, list_any, enumerate_from}
use Rattle.std.proofs.lemmas.Bool.{eqb-true, eq-eqb}
use Rattle.std.proofs.lemmas.Bool.Decides.{nat_tests}
use Rattle.cif_system.specs.System.{Role, State, syncing, sending, receiving}
use Rattle.cif_system.specs.Step.{Choice, Move, agrees, fits, is_channel, is_enabled, is_for, moves, partners, same_role, takes}
use Rattle.cif_system.proofs.ChoiceLaws.{takes-edge}
use Rattle.cif_system.proofs.Picks.{and-left, and-right, map-at}
use Rattle.cif_system.proofs.Lists.{false-true, some-same, map-length}
use Rattle.cif_net_model.specs.Net.{NetAuto, NetEdge, Net}
use Rattle.cif_net_model.specs.Meaning.{automaton_in, edge_meant, true_in, system_of_net}
use Rattle.cif_net_model.specs.Listing.{syncs_on, monitors_event, all_hold, choice_test}
use Rattle.cif_net_model.proofs.TestLaws as test
use Rattle.cif_net_laws.proofs.Parties.{Part, Parts}
use Rattle.cif_net_laws.proofs.Picked.{Picked}

-- ---- counts

-- what passes q is that at number t where it passes r
abbrev pub Told : {A : Type 0} → (A → Bool) → (A → Bool) → (t k : ℕ) → List A → Type 0
Told q r t k [] = Unit {0}
Told q r t k (x ∷ xs) = (q x ≡ (nat_eq k t && r x)) × Told q r t (k + 1) xs

module _ {A : Type 0} (q r : A → Bool) (t : ℕ) where
  none-passes : (k : ℕ) (xs : List A) → Told q r t k xs → (t < k) ⊎ (k + length xs ≤ t) → length (filter q xs) ≡ 0
  none-passes k [] h w = refl
  none-passes k (x ∷ xs) h w =
      let z : q x ≡ false = h.0 ∙ ap (λ b. b && r x) (away w) in
      rw z (none-passes (k + 1) xs h.1 (further w))
    where
      away : (t < k) ⊎ (k + length (x ∷ xs) ≤ t) → nat_eq k t ≡ false
      away (inl v) = grind (arith, nat_tests)
      away (inr v) = grind (arith, nat_tests)

      further : (t < k) ⊎ (k + length (x ∷ xs) ≤ t) → (t < k + 1) ⊎ (k + 1 + length xs ≤ t)
      further (inl v) = inl (omega (arith, v))
      further (inr v) = inr (omega (arith, v))

  one-passes : (k : ℕ) (xs : List A) → Told q r t k xs → list_all r xs ≡ true → k ≤ t → t < k + length xs → length (filter q xs) ≡ 1
  one-passes k [] h a l g = absurd (omega (arith, l, g))
  one-passes k (x ∷ xs) h a l g = by (λ m. one-passes (k + 1) xs h.1 (and-right _ _ a) m (omega (arith, g))) (nat_eq k t) refl
    where
      by : (k + 1 ≤ t → length (filter q xs) ≡ 1) → (b : Bool) → nat_eq k t ≡ b → length (filter q (x ∷ xs)) ≡ 1
      by later true e =
          let z : q x ≡ true = h.0 ∙ ap (λ b. b && r x) e ∙ and-left _ _ a in
          let same : k ≡ t = eqb-true k t e in
          let rest : length (filter q xs) ≡ 0 = none-passes (k + 1) xs h.1 (inl (omega (arith, same))) in
          rw z (omega (arith, rest))
      by later false e =
          let z : q x ≡ false = h.0 ∙ ap (λ b. b && r x) e in
          let m : k < t = grind (arith, nat_tests) in
          rw z (later (omega (arith, m)))

-- ---- what is taken

module _ (n : Net) (s : State) (e : ℕ) where
  abbrev pub does : ℕ → NetAuto → Option ℕ → Move
  does k a o = ((k, automaton_in n a), o)

  -- an edge is not taken in another role than its own
  other-role : (p : Role) (k y : ℕ) (a : NetAuto) (x : NetEdge) → slice_get a.edges y ≡ Some x → same_role p x.role ≡ false → takes p e s (does k a (Some y)) ≡ false
  other-role p k y a x g h = by (takes p e s (does k a (Some y))) refl
    where
      by : (b : Bool) → takes p e s (does k a (Some y)) ≡ b → b ≡ false
      by false t = refl
      by true t =
          let w = takes-edge p e s (k, automaton_in n a) (Some y) t in
          let v = map-at (edge_meant n) a.edges w.number w.way w.stands in
          let number : y ≡ w.number = some-same y w.number w.is in
          let same : x ≡ v.0 = some-same x v.0 (sym g ∙ ap (slice_get a.edges) number ∙ v.1) in
          absurd (false-true (subst (λ (z : NetEdge). same_role p z.role ≡ false) same h) (and-left _ _ (subst (λ z. is_for p e z ≡ true) v.2 w.in_role)))

  wrong-role : (p q : Role) (k y : ℕ) (a : NetAuto) (x : NetEdge) → slice_get a.edges y ≡ Some x → x.role ≡ q → same_role p q ≡ false → takes p e s (does k a (Some y)) ≡ false
  wrong-role p q k y a x g r h = other-role p k y a x g (subst (λ z. same_role p z ≡ false) (sym r) h)

  or-false : (b : Bool) → (b || false) ≡ b
  or-false true = refl
  or-false false = refl

  -- an automaton that does not synchronise fits by what it takes
  fits-apart : (k y : ℕ) (a : NetAuto) → syncs_on e a ≡ false → fits e s (does k a (Some y)) ≡ (takes sending e s (does k a (Some y)) || takes receiving e s (does k a (Some y)))
  fits-apart k y a h =
      ap (λ b. if b then takes syncing e s (does k a (Some y)) || (false && monitors_event e a && not (list_any (is_enabled syncing e s (k, automaton_in n a)) (map (edge_meant n) a.edges))) else takes sending e s (does k a (Some y)) || takes receiving e s (does k a (Some y)) || false) h
      ∙ or-false _

  module _ (i j : ℕ) (apart : nat_eq i j ≡ false) where
    sends : (k : ℕ) (a : NetAuto) (o : Option ℕ) → Part e i j k a o → takes sending e s (does k a o) ≡ (nat_eq k i && fits e s (does k a o))
    sends k a None h = sym (ap (λ b. b && fits e s (does k a None)) h.0)
    sends k a (Some y) (x, g, v, inl r) = wrong-role sending syncing k y a x g r.0 refl ∙ sym (ap (λ b. b && fits e s (does k a (Some y))) r.2)
    sends k a (Some y) (x, g, v, inr (inl r)) =
        sym (ap (λ b. b && fits e s (does k a (Some y))) r.2 ∙ fits-apart k y a r.1 ∙ ap (λ b. takes sending e s (does k a (Some y)) || b) (wrong-role receiving sending k y a x g r.0 refl) ∙ or-false _)
    sends k a (Some y) (x, g, v, inr (inr r)) = wrong-role sending receiving k y a x g r.0 refl ∙ sym (ap (λ b. b && fits e s (does k a (Some y))) r.2)

    receives : (k : ℕ) (a : NetAuto) (o : Option ℕ) → Part e i j k a o → takes receiving e s (does k a o) ≡ (nat_eq k j && fits e s (does k a o))
    receives k a None h = sym (ap (λ b. b && fits e s (does k a None)) h.1)
    receives k a (Some y) (x, g, v, inl r) = wrong-role receiving syncing k y a x g r.0 refl ∙ sym (ap (λ b. b && fits e s (does k a (Some y))) r.3)
    receives k a (Some y) (x, g, v, inr (inl r)) =
        let same : k ≡ i = eqb-true k i r.2 in
        let no : nat_eq k j ≡ false = subst (λ z. nat_eq z j ≡ false) (sym same) apart in
        wrong-role receiving sending k y a x g r.0 refl ∙ sym (ap (λ b. b && fits e s (does k a (Some y))) no)
    receives k a (Some y) (x, g, v, inr (inr r)) =
        sym (ap (λ b. b && fits e s (does k a (Some y))) r.3 ∙ fits-apart k y a r.1 ∙ ap (λ b. b || takes receiving e s (does k a (Some y))) (wrong-role sending receiving k y a x g r.0 refl))

    abbrev doings : ℕ → List NetAuto → Choice → List Move
    doings k ds ch = zip (enumerate_from k (map (automaton_in n) ds)) ch

    all-send : (k : ℕ) (ds : List NetAuto) (ch : Choice) → Parts e i j k ds ch → Told (takes sending e s) (fits e s) i k (doings k ds ch)
    all-send k [] [] h = tt
    all-send k [] (o ∷ ch) h = absurd h
    all-send k (a ∷ ds) [] h = absurd h
    all-send k (a ∷ ds) (o ∷ ch) h = (sends k a o h.0, all-send (k + 1) ds ch h.1)

    all-receive : (k : ℕ) (ds : List NetAuto) (ch : Choice) → Parts e i j k ds ch → Told (takes receiving e s) (fits e s) j k (doings k ds ch)
    all-receive k [] [] h = tt
    all-receive k [] (o ∷ ch) h = absurd h
    all-receive k (a ∷ ds) [] h = absurd h
    all-receive k (a ∷ ds) (o ∷ ch) h = (receives k a o h.0, all-receive (k + 1) ds ch h.1)

    long : (k : ℕ) (ds : List NetAuto) (ch : Choice) → Parts e i j k ds ch → length ch ≡ length ds
    long k [] [] h = refl
    long k [] (o ∷ ch) h = absurd h
    long k (a ∷ ds) [] h = absurd h
    long k (a ∷ ds) (o ∷ ch) h = omega (arith, long (k + 1) ds ch h.1)

    doings-long : (k : ℕ) (ds : List NetAuto) (ch : Choice) → Parts e i j k ds ch → length (doings k ds ch) ≡ length ds
    doings-long k [] [] h = refl
    doings-long k [] (o ∷ ch) h = absurd h
    doings-long k (a ∷ ds) [] h = absurd h
    doings-long k (a ∷ ds) (o ∷ ch) h = omega (arith, doings-long (k + 1) ds ch h.1)

    -- what may be done in the sense of the test
    may : (k : ℕ) (a : NetAuto) (o : Option ℕ) → Part e i j k a o → test.Listed n s e a o
    may k a None h = h.2
    may k a (Some y) (x, g, v, inl r) = (x, g, v, inl (r.0, r.1))
    may k a (Some y) (x, g, v, inr (inl r)) = (x, g, v, inr (inl r.0, r.1))
    may k a (Some y) (x, g, v, inr (inr r)) = (x, g, v, inr (inr r.0, r.1))

    all-may : (k : ℕ) (ds : List NetAuto) (ch : Choice) → Parts e i j k ds ch → test.AllListed n s e ds ch
    all-may k [] [] h = tt
    all-may k [] (o ∷ ch) h = absurd h
    all-may k (a ∷ ds) [] h = absurd h
    all-may k (a ∷ ds) (o ∷ ch) h = (may k a o h.0, all-may (k + 1) ds ch h.1)

-- ---- agreement

five : (a b c d f : Bool) → a ≡ true → b ≡ true → (c ≡ true → d ≡ true) → (c ≡ true → f ≡ true) → (a && b && c && d && f) ≡ c
five a b true d f x y z w = rw (x, y, z refl, w refl) refl
five a b false d f x y z w = rw (x, y) refl

module _ (n : Net) (s : State) (e : ℕ) (ch : Choice) (p : Picked n e ch) where
  abbrev all-fit : Bool
  all-fit = list_all (fits e s) (moves (system_of_net n) ch)

  partners-met : (q : Move → Bool) (t : ℕ) → Told q (fits e s) t 0 (moves (system_of_net n) ch)
      → ((is_channel (system_of_net n) e ≡ true) × t < length n.autos) ⊎ ((is_channel (system_of_net n) e ≡ false) × length n.autos ≤ t)
      → all-fit ≡ true → nat_eq (length (filter q (moves (system_of_net n) ch))) (partners (system_of_net n) e) ≡ true
  partners-met q t told (inl w) h =
      let l = doings-long n s e p.from p.to p.apart 0 n.autos ch p.each in
      eq-eqb _ _ (one-passes q (fits e s) t 0 (moves (system_of_net n) ch) told h (omega arith) (omega (arith, l, w.1)) ∙ sym (ap (λ b. if b then 1 else 0) w.0))
  partners-met q t told (inr w) h =
      let l = doings-long n s e p.from p.to p.apart 0 n.autos ch p.each in
      eq-eqb _ _ (none-passes q (fits e s) t 0 (moves (system_of_net n) ch) told (inr (omega (arith, l, w.1))) ∙ sym (ap (λ b. if b then 1 else 0) w.0))

  pub agreed : agrees (system_of_net n) s e ch ≡ list_all (fits e s) (moves (system_of_net n) ch)
  agreed =
      five _ _ all-fit _ _
      (eq-eqb (length ch) (length (map (automaton_in n) n.autos)) (long n s e p.from p.to p.apart 0 n.autos ch p.each ∙ sym (map-length (automaton_in n) n.autos)))
      p.party
      (partners-met (takes sending e s) p.from (all-send n s e p.from p.to p.apart 0 n.autos ch p.each) (sender p.ends))
      (partners-met (takes receiving e s) p.to (all-receive n s e p.from p.to p.apart 0 n.autos ch p.each) (receiver p.ends))
    where
      sender : ((is_channel (system_of_net n) e ≡ true) × p.from < length n.autos × p.to < length n.autos) ⊎ ((is_channel (system_of_net n) e ≡ false) × length n.autos ≤ p.from × length n.autos ≤ p.to)
          → ((is_channel (system_of_net n) e ≡ true) × p.from < length n.autos) ⊎ ((is_channel (system_of_net n) e ≡ false) × length n.autos ≤ p.from)
      sender (inl w) = inl (w.0, w.1)
      sender (inr w) = inr (w.0, w.1)

      receiver : ((is_channel (system_of_net n) e ≡ true) × p.from < length n.autos × p.to < length n.autos) ⊎ ((is_channel (system_of_net n) e ≡ false) × length n.autos ≤ p.from × length n.autos ≤ p.to)
          → ((is_channel (system_of_net n) e ≡ true) × p.to < length n.autos) ⊎ ((is_channel (system_of_net n) e ≡ false) × length n.autos ≤ p.to)
      receiver (inl w) = inl (w.0, w.2)
      receiver (inr w) = inr (w.0, w.2)

  -- the test of the choice holds where it agrees
  pub agreement-tested : true_in n s (all_hold (choice_test n e ch)) ≡ agrees (system_of_net n) s e ch
  agreement-tested = test.choice-test n s e ch (all-may n s e p.from p.to p.apart 0 n.autos ch p.each) ∙ sym agreed
