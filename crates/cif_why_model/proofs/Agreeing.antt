-- Where no reason that tells of parties holds, some choice agrees: each automaton that synchronises takes its first enabled
-- edge, or stays where it has none, one automaton sends and one receives along a channel, and all others stay.
use Rattle.std.proofs.Common.{◌≡◌, ℕ, zero, suc, ◌+◌, Bool, true, false, not, cond, inl, inr, ◌⊎◌, List, [], ◌∷◌, length, map, filter, find, Option, Some, None, refl, sym, ◌∙◌, ap, subst, arith}
use Rattle.std.specs.Prelude.{slice_get, ◌&&◌, ◌||◌, nat_eq, option_map, if◌then◌else◌}
use Rattle.std.specs.List.{list_all, list_any, enumerate_from}
use Rattle.std.proofs.lemmas.Bool.{eqb-true, eq-eqb}
use Rattle.cif_system.specs.System.{Automaton, Role, State, System, receiving, sending, syncing}
use Rattle.cif_system.specs.Step.{Choice, Move, Numbered, fits, has_edge, is_channel, is_for, is_enabled, moves, numbered, partners, passes, stays, takes}
use Rattle.cif_system.proofs.Lists.{some-same, none-some, false-true, map-length}
use Rattle.cif_system.proofs.Picks.{and-left, any-at, map-at, at-enumerate_from, enumerate_from-at, at-zip, zip-at}
use Rattle.cif_system.proofs.ChoiceLaws.{takes-edge, taken-has, enumerate_from-length}
use Rattle.cif_why_model.specs.Reasons.{has_role, can, lacks}
use Rattle.cif_why_model.specs.Parties.{HasOneRole, AllCan, SomeAgrees}

-- ---- lists

pub all-where : {A : Type 0} (p : A → Bool) (xs : List A) → ((k : ℕ) (y : A) → slice_get xs k ≡ Some y → p y ≡ true) → list_all p xs ≡ true
all-where p [] h = refl
all-where p (x ∷ xs) h = λ i. h 0 x refl i && all-where p xs (λ k y g. h (suc k) y g) i

none-pass : {A : Type 0} (p : A → Bool) (xs : List A) → ((k : ℕ) (y : A) → slice_get xs k ≡ Some y → p y ≡ false) → length (filter p xs) ≡ 0
none-pass p [] h = refl
none-pass {A} p (x ∷ xs) h = ap (λ b. length (cond b (x ∷ filter p xs) (filter p xs))) (h 0 x refl) ∙ none-pass p xs (λ k y g. h (suc k) y g)

one-passes : {A : Type 0} (p : A → Bool) (xs : List A) (i : ℕ) (x : A) → slice_get xs i ≡ Some x → p x ≡ true
    → ((k : ℕ) (y : A) → slice_get xs k ≡ Some y → p y ≡ true → k ≡ i) → length (filter p xs) ≡ 1
one-passes p [] i x g h alone = absurd (none-some x g)
one-passes {A} p (z ∷ zs) zero x g h alone =
    ap (λ b. length (cond b (z ∷ filter p zs) (filter p zs))) (subst (λ w. p w ≡ true) (sym (some-same z x g)) h)
    ∙ ap suc (none-pass p zs (λ k y q. later k y q))
  where
    later : (k : ℕ) (y : A) → slice_get zs k ≡ Some y → p y ≡ false
    later k y q = (elim (p y) as (λ b. p y ≡ b → b ≡ false) [ true ↦ λ e. absurd (omega (arith, alone (suc k) y q e)) | false ↦ λ e. refl ]) refl
one-passes p (z ∷ zs) (suc i) x g h alone =
    ap (λ b. length (cond b (z ∷ filter p zs) (filter p zs))) first
    ∙ one-passes p zs i x g h (λ k y q e. less (alone (suc k) y q e))
  where
    first : p z ≡ false
    first = (elim (p z) as (λ b. p z ≡ b → b ≡ false) [ true ↦ λ e. absurd (omega (arith, alone 0 z refl e)) | false ↦ λ e. refl ]) refl

    less : {k : ℕ} → suc k ≡ suc i → k ≡ i
    less e = omega (arith, e)

-- the first element that passes, by its number
record Found {A : Type 0} (q : A → Bool) (n : ℕ) (xs : List A) : Type 0 where
  at : ℕ
  here : A
  found : find (λ x. q x.1) (enumerate_from n xs) ≡ Some (n + at, here)
  is : slice_get xs at ≡ Some here
  passes_it : q here ≡ true

found-some : {A : Type 0} (q : A → Bool) (n : ℕ) (xs : List A) → list_any q xs ≡ true → Found q n xs
found-some q n [] h = absurd (false-true refl h)
found-some {A} q n (x ∷ xs) h =
    (elim (q x) as (λ b. q x ≡ b → (b || list_any q xs) ≡ true → Found q n (x ∷ xs)) [
      | true ↦ λ e g. record { at = 0; here = x; found = ap (λ b. cond b (Some (n, x)) (find (λ z. q z.1) (enumerate_from (n + 1) xs))) e ∙ ap (λ k. Some (k, x)) (omega arith); is = refl; passes_it = e }
      | false ↦ λ e g. let rest = found-some q (n + 1) xs g in record {
        at = suc rest.at;
        here = rest.here;
        found = ap (λ b. cond b (Some (n, x)) (find (λ z. q z.1) (enumerate_from (n + 1) xs))) e ∙ rest.found ∙ ap (λ k. Some (k, rest.here)) (omega arith);
        is = rest.is;
        passes_it = rest.passes_it;
      }
    ]) refl h

found-none : {A : Type 0} (q : A → Bool) (n : ℕ) (xs : List A) → list_any q xs ≡ false → find (λ x. q x.1) (enumerate_from n xs) ≡ None
found-none q n [] h = refl
found-none q n (x ∷ xs) h =
    (elim (q x) as (λ b. (b || list_any q xs) ≡ false → cond b (Some (n, x)) (find (λ z. q z.1) (enumerate_from (n + 1) xs)) ≡ None) [
      | true ↦ λ g. absurd (false-true g refl)
      | false ↦ λ g. found-none q (n + 1) xs g
    ]) h

any-weaker : {A : Type 0} (p q : A → Bool) (xs : List A) → ((x : A) → p x ≡ true → q x ≡ true) → list_any p xs ≡ true → list_any q xs ≡ true
any-weaker p q xs w h = let f = found-some p 0 xs h in any-at q xs f.at f.here f.is (w f.here f.passes_it)

-- ---- truths

monitored : (sy mo ca : Bool) → sy ≡ true → ca ≡ false → (sy && not mo && not ca) ≡ false → mo ≡ true
monitored true true ca g c h = refl
monitored true false true g c h = absurd (false-true c refl)
monitored true false false g c h = absurd (false-true h refl)
monitored false mo ca g c h = absurd (false-true refl g)

or-mid : (x z : Bool) → (x || true || z) ≡ true
or-mid true z = refl
or-mid false z = refl

pub decided : (b : Bool) → (b ≡ true) ⊎ (b ≡ false)
decided true = inl refl
decided false = inr refl

module _ (m : System) (s : State) (e : ℕ) (one : HasOneRole m e) (all : AllCan m s e) where
  -- ---- the first enabled edge of an automaton

  abbrev first_for : Role → Numbered → Option ℕ
  first_for p a = option_map (λ x. x.0) (find (λ x. is_enabled p e s a x.1) (enumerate_from 0 a.1.edges))

  taken-first : (p : Role) (a : Numbered) → can p e s a ≡ true → takes p e s (a, first_for p a) ≡ true
  taken-first p a h =
      let f = found-some (is_enabled p e s a) 0 a.1.edges h in
      let is : first_for p a ≡ Some f.at = ap (option_map (λ x. x.0)) f.found ∙ ap Some (omega arith) in
      ap (λ o. takes p e s (a, o)) is ∙ ap (passes (is_enabled p e s a)) f.is ∙ f.passes_it

  none-first : (p : Role) (a : Numbered) → can p e s a ≡ false → first_for p a ≡ None
  none-first p a h = ap (option_map (λ x. x.0)) (found-none (is_enabled p e s a) 0 a.1.edges h)

  can-has : (p : Role) (a : Numbered) → can p e s a ≡ true → has_edge p e a.1 ≡ true
  can-has p a h = any-weaker (is_enabled p e s a) (is_for p e) a.1.edges (λ x g. and-left _ _ (and-left _ _ g)) h

  -- ---- a choice in which some send and some receive

  module _ (from to : ℕ → Bool)
      (sends : (k : ℕ) (a : Automaton) → slice_get m.automata k ≡ Some a → from k ≡ true → can sending e s (k, a) ≡ true)
      (receives : (k : ℕ) (a : Automaton) → slice_get m.automata k ≡ Some a → to k ≡ true → can receiving e s (k, a) ≡ true) where
    abbrev does_by : Bool → Numbered → Option ℕ
    does_by b a = if b then first_for syncing a else (if from a.0 then first_for sending a else (if to a.0 then first_for receiving a else None))

    abbrev does : Numbered → Option ℕ
    does a = does_by (a.1.synchronises e) a

    abbrev chosen : Choice
    chosen = map does (numbered m)

    -- what each automaton does
    at-moves : (k : ℕ) (z : Move) → slice_get (moves m chosen) k ≡ Some z → (slice_get m.automata k ≡ Some z.0.1) × (z.0.0 ≡ k) × (z.1 ≡ does z.0)
    at-moves k z g =
        let both = at-zip (numbered m) chosen k z g in
        let by = map-at does (numbered m) k z.1 both.1 in
        let here = at-enumerate_from m.automata 0 k z.0 both.0 in
        (here.0, here.1 ∙ omega arith, by.2 ∙ ap does (some-same by.0 z.0 (sym by.1 ∙ both.0)))

    same-move : (k : ℕ) (z : Move) → slice_get (moves m chosen) k ≡ Some z → z ≡ ((k, z.0.1), does (k, z.0.1))
    same-move k z g =
        let w = at-moves k z g in
        let n : z.0 ≡ (k, z.0.1) = λ i. (w.1 i, z.0.1) in
        let o : z.1 ≡ does (k, z.0.1) = w.2 ∙ ap does n in
        λ i. (n i, o i)

    moves-at : (k : ℕ) (a : Automaton) → slice_get m.automata k ≡ Some a → slice_get (moves m chosen) k ≡ Some ((k, a), does (k, a))
    moves-at k a g =
        let here = enumerate_from-at m.automata 0 k k a g (omega arith) in
        zip-at (numbered m) chosen k (k, a) (does (k, a)) here (mapped (numbered m) k (k, a) here)
      where
        mapped : (xs : List Numbered) (k : ℕ) (x : Numbered) → slice_get xs k ≡ Some x → slice_get (map does xs) k ≡ Some (does x)
        mapped [] k x g = absurd (none-some x g)
        mapped (y ∷ ys) zero x g = ap (λ w. Some (does w)) (some-same y x g)
        mapped (y ∷ ys) (suc k) x g = mapped ys k x g

    -- ---- it fits

    abbrev fits_by : Bool → Move → Bool
    fits_by b z = if b then takes syncing e s z || (stays z && z.0.1.monitors e && not (list_any (is_enabled syncing e s z.0) z.0.1.edges))
        else takes sending e s z || takes receiving e s z || stays z

    fits-sync : (k : ℕ) (a : Automaton) → slice_get m.automata k ≡ Some a → a.synchronises e ≡ true → fits_by true ((k, a), first_for syncing (k, a)) ≡ true
    fits-sync k a g sy = elim (decided (can syncing e s (k, a))) [
      | inl h ↦ ap (λ b. b || (stays ((k, a), first_for syncing (k, a)) && a.monitors e && not (can syncing e s (k, a)))) (taken-first syncing (k, a) h)
      | inr h ↦
          let mo : a.monitors e ≡ true = monitored (a.synchronises e) (a.monitors e) (can syncing e s (k, a)) sy h (all.free k a g) in
          ap (λ o. fits_by true ((k, a), o)) (none-first syncing (k, a) h) ∙ (λ i. false || (true && mo i && not (h i)))
    ]

    fits-other : (k : ℕ) (a : Automaton) → slice_get m.automata k ≡ Some a → fits_by false ((k, a), does_by false (k, a)) ≡ true
    fits-other k a g =
        (elim (from k) as (λ b. from k ≡ b → fits_by false ((k, a), if b then first_for sending (k, a) else (if to k then first_for receiving (k, a) else None)) ≡ true) [
          | true ↦ λ f. let z : Move = ((k, a), first_for sending (k, a)) in
              ap (λ b. b || takes receiving e s z || stays z) (taken-first sending (k, a) (sends k a g f))
          | false ↦ λ f.
              (elim (to k) as (λ b. to k ≡ b → fits_by false ((k, a), if b then first_for receiving (k, a) else None) ≡ true) [
                | true ↦ λ t. let z : Move = ((k, a), first_for receiving (k, a)) in
                    ap (λ b. takes sending e s z || b || stays z) (taken-first receiving (k, a) (receives k a g t)) ∙ or-mid (takes sending e s z) (stays z)
                | false ↦ λ t. refl
              ]) refl
        ]) refl

    fits-does : (k : ℕ) (a : Automaton) → slice_get m.automata k ≡ Some a → fits e s ((k, a), does (k, a)) ≡ true
    fits-does k a g =
        (elim (a.synchronises e) as (λ b. a.synchronises e ≡ b → fits_by b ((k, a), does_by b (k, a)) ≡ true) [
          | true ↦ λ sy. fits-sync k a g sy
          | false ↦ λ sy. fits-other k a g
        ]) refl

    -- ---- who sends and who receives

    takes-none : (p : Role) (a : Numbered) → takes p e s (a, None) ≡ true → ⊥
    takes-none p a h = false-true refl h

    only-from : (k : ℕ) (a : Automaton) → slice_get m.automata k ≡ Some a → takes sending e s ((k, a), does (k, a)) ≡ true → from k ≡ true
    only-from k a g h =
        let has : has_edge sending e a ≡ true = taken-has sending e (k, a) (does (k, a)) (takes-edge sending e s (k, a) (does (k, a)) h) in
        (elim (a.synchronises e) as (λ b. a.synchronises e ≡ b → takes sending e s ((k, a), does_by b (k, a)) ≡ true → from k ≡ true) [
          | true ↦ λ sy z. absurd (false-true (one.syncs_alone k a g sy).0 has)
          | false ↦ λ sy z.
              (elim (from k) as (λ b. takes sending e s ((k, a), if b then first_for sending (k, a) else (if to k then first_for receiving (k, a) else None)) ≡ true → b ≡ true) [
                | true ↦ λ w. refl
                | false ↦ λ w.
                    (elim (to k) as (λ b. to k ≡ b → takes sending e s ((k, a), if b then first_for receiving (k, a) else None) ≡ true → false ≡ true) [
                      | true ↦ λ t v. absurd (false-true (one.sends_alone k a g has) (can-has receiving (k, a) (receives k a g t)))
                      | false ↦ λ t v. absurd (takes-none sending (k, a) v)
                    ]) refl w
              ]) z
        ]) refl h

    only-to : (k : ℕ) (a : Automaton) → slice_get m.automata k ≡ Some a → takes receiving e s ((k, a), does (k, a)) ≡ true → to k ≡ true
    only-to k a g h =
        let has : has_edge receiving e a ≡ true = taken-has receiving e (k, a) (does (k, a)) (takes-edge receiving e s (k, a) (does (k, a)) h) in
        (elim (a.synchronises e) as (λ b. a.synchronises e ≡ b → takes receiving e s ((k, a), does_by b (k, a)) ≡ true → to k ≡ true) [
          | true ↦ λ sy z. absurd (false-true (one.syncs_alone k a g sy).1 has)
          | false ↦ λ sy z.
              (elim (from k) as (λ b. from k ≡ b → takes receiving e s ((k, a), if b then first_for sending (k, a) else (if to k then first_for receiving (k, a) else None)) ≡ true → to k ≡ true) [
                | true ↦ λ f w. absurd (false-true (one.sends_alone k a g (can-has sending (k, a) (sends k a g f))) has)
                | false ↦ λ f w.
                    (elim (to k) as (λ b. takes receiving e s ((k, a), if b then first_for receiving (k, a) else None) ≡ true → b ≡ true) [
                      | true ↦ λ v. refl
                      | false ↦ λ v. absurd (takes-none receiving (k, a) v)
                    ]) w
              ]) refl z
        ]) refl h

    sends-first : (k : ℕ) (a : Automaton) → slice_get m.automata k ≡ Some a → from k ≡ true → takes sending e s ((k, a), does (k, a)) ≡ true
    sends-first k a g f =
        (elim (a.synchronises e) as (λ b. a.synchronises e ≡ b → takes sending e s ((k, a), does_by b (k, a)) ≡ true) [
          | true ↦ λ sy. absurd (false-true (one.syncs_alone k a g sy).0 (can-has sending (k, a) (sends k a g f)))
          | false ↦ λ sy. ap (λ b. takes sending e s ((k, a), if b then first_for sending (k, a) else (if to k then first_for receiving (k, a) else None))) f ∙ taken-first sending (k, a) (sends k a g f)
        ]) refl

    receives-first : (k : ℕ) (a : Automaton) → slice_get m.automata k ≡ Some a → from k ≡ false → to k ≡ true → takes receiving e s ((k, a), does (k, a)) ≡ true
    receives-first k a g f t =
        (elim (a.synchronises e) as (λ b. a.synchronises e ≡ b → takes receiving e s ((k, a), does_by b (k, a)) ≡ true) [
          | true ↦ λ sy. absurd (false-true (one.syncs_alone k a g sy).1 (can-has receiving (k, a) (receives k a g t)))
          | false ↦ λ sy.
              ap (λ b. takes receiving e s ((k, a), if b then first_for sending (k, a) else (if to k then first_for receiving (k, a) else None))) f
              ∙ ap (λ b. takes receiving e s ((k, a), if b then first_for receiving (k, a) else None)) t
              ∙ taken-first receiving (k, a) (receives k a g t)
        ]) refl

    -- ---- it agrees, where as many send and receive as there are partners

    agrees-by : length (filter (takes sending e s) (moves m chosen)) ≡ partners m e → length (filter (takes receiving e s) (moves m chosen)) ≡ partners m e → SomeAgrees m s e
    agrees-by one_sends one_receives = (
      chosen,
      (λ i. eq-eqb _ _ (map-length does (numbered m) ∙ enumerate_from-length 0 m.automata) i
          && all.role i && all-where (fits e s) (moves m chosen) each i && eq-eqb _ _ one_sends i && eq-eqb _ _ one_receives i),
    )
      where
        each : (k : ℕ) (z : Move) → slice_get (moves m chosen) k ≡ Some z → fits e s z ≡ true
        each k z g =
            subst (λ y. fits e s y ≡ true) (sym (same-move k z g)) (fits-does k z.0.1 (at-moves k z g).0)

  -- ---- without partners

  module _ (c : is_channel m e ≡ false) where
    abbrev nobody : ℕ → Bool
    nobody k = false

    none_sends : (k : ℕ) (a : Automaton) → slice_get m.automata k ≡ Some a → nobody k ≡ true → can sending e s (k, a) ≡ true
    none_sends k a g h = absurd (false-true refl h)

    none_receives : (k : ℕ) (a : Automaton) → slice_get m.automata k ≡ Some a → nobody k ≡ true → can receiving e s (k, a) ≡ true
    none_receives k a g h = absurd (false-true refl h)

    abbrev alone : Choice
    alone = chosen nobody nobody none_sends none_receives

    auto-alone : (k : ℕ) (z : Move) → slice_get (moves m alone) k ≡ Some z → slice_get m.automata k ≡ Some z.0.1
    auto-alone k z g = (at-moves nobody nobody none_sends none_receives k z g).0

    none-send : (k : ℕ) (z : Move) → slice_get (moves m alone) k ≡ Some z → takes sending e s z ≡ false
    none-send k z g = elim (decided (takes sending e s z)) [
      | inr other ↦ other
      | inl so ↦ absurd (false-true refl (only-from nobody nobody none_sends none_receives k z.0.1 (auto-alone k z g)
          (subst (λ y. takes sending e s y ≡ true) (same-move nobody nobody none_sends none_receives k z g) so)))
    ]

    none-receive : (k : ℕ) (z : Move) → slice_get (moves m alone) k ≡ Some z → takes receiving e s z ≡ false
    none-receive k z g = elim (decided (takes receiving e s z)) [
      | inr other ↦ other
      | inl so ↦ absurd (false-true refl (only-to nobody nobody none_sends none_receives k z.0.1 (auto-alone k z g)
          (subst (λ y. takes receiving e s y ≡ true) (same-move nobody nobody none_sends none_receives k z g) so)))
    ]

    alone-agrees : SomeAgrees m s e
    alone-agrees =
        let no : partners m e ≡ 0 = ap (λ b. if b then 1 else 0) c in
        agrees-by nobody nobody none_sends none_receives
        (none-pass (takes sending e s) (moves m alone) none-send ∙ sym no)
        (none-pass (takes receiving e s) (moves m alone) none-receive ∙ sym no)

  -- ---- with partners

  record Partner (p : Role) : Type 0 where
    at : ℕ
    who : Automaton
    is : slice_get m.automata at ≡ Some who
    can_it : can p e s (at, who) ≡ true

  needed : (c r x : Bool) → c ≡ true → r ≡ true → (c && r && not x) ≡ false → x ≡ true
  needed c r true f g h = refl
  needed true true false f g h = absurd (false-true h refl)
  needed false r false f g h = absurd (false-true refl f)
  needed true false false f g h = absurd (false-true refl g)

  partner : (p : Role) → is_channel m e ≡ true → lacks m s p e ≡ false → Partner p
  partner p c h =
      let f = found-some (can p e s) 0 (numbered m) (needed (is_channel m e) (has_role m e) (list_any (can p e s) (numbered m)) c all.role h) in
      let w = at-enumerate_from m.automata 0 f.at f.here f.is in
      let n : f.here.0 ≡ f.at = w.1 ∙ omega arith in
      record { at = f.at; who = f.here.1; is = w.0; can_it = subst (λ k. can p e s (k, f.here.1) ≡ true) n f.passes_it }

  module _ (from : Partner sending) (to : Partner receiving) where
    same-who : (a b : Automaton) (k : ℕ) → slice_get m.automata k ≡ Some a → slice_get m.automata k ≡ Some b → a ≡ b
    same-who a b k g h = some-same a b (sym g ∙ h)

    is-partner : (p : Role) (x : Partner p) (k : ℕ) (a : Automaton) → slice_get m.automata k ≡ Some a → nat_eq x.at k ≡ true → can p e s (k, a) ≡ true
    is-partner p x k a g h =
        let n : x.at ≡ k = eqb-true x.at k h in
        let w : x.who ≡ a = same-who x.who a k (subst (λ j. slice_get m.automata j ≡ Some x.who) n x.is) g in
        subst (λ (y : Numbered). can p e s y ≡ true) (λ i. (n i, w i)) x.can_it

    apart : nat_eq from.at to.at ≡ false
    apart = elim (decided (nat_eq from.at to.at)) [
      | inr other ↦ other
      | inl so ↦ absurd (false-true (one.sends_alone to.at to.who to.is (can-has sending (to.at, to.who) (is-partner sending from to.at to.who to.is so))) (can-has receiving (to.at, to.who) to.can_it))
    ]

    abbrev sends_it : (k : ℕ) (a : Automaton) → slice_get m.automata k ≡ Some a → nat_eq from.at k ≡ true → can sending e s (k, a) ≡ true
    sends_it k a g h = is-partner sending from k a g h

    abbrev takes_it : (k : ℕ) (a : Automaton) → slice_get m.automata k ≡ Some a → nat_eq to.at k ≡ true → can receiving e s (k, a) ≡ true
    takes_it k a g h = is-partner receiving to k a g h

    abbrev both : Choice
    both = chosen (nat_eq from.at) (nat_eq to.at) sends_it takes_it

    auto-at : (k : ℕ) (z : Move) → slice_get (moves m both) k ≡ Some z → slice_get m.automata k ≡ Some z.0.1
    auto-at k z g = (at-moves (nat_eq from.at) (nat_eq to.at) sends_it takes_it k z g).0

    only-sender : (k : ℕ) (z : Move) → slice_get (moves m both) k ≡ Some z → takes sending e s z ≡ true → k ≡ from.at
    only-sender k z g h =
        sym (eqb-true from.at k (only-from (nat_eq from.at) (nat_eq to.at) sends_it takes_it k z.0.1 (auto-at k z g)
        (subst (λ y. takes sending e s y ≡ true) (same-move (nat_eq from.at) (nat_eq to.at) sends_it takes_it k z g) h)))

    only-receiver : (k : ℕ) (z : Move) → slice_get (moves m both) k ≡ Some z → takes receiving e s z ≡ true → k ≡ to.at
    only-receiver k z g h =
        sym (eqb-true to.at k (only-to (nat_eq from.at) (nat_eq to.at) sends_it takes_it k z.0.1 (auto-at k z g)
        (subst (λ y. takes receiving e s y ≡ true) (same-move (nat_eq from.at) (nat_eq to.at) sends_it takes_it k z g) h)))

    pair-agrees : is_channel m e ≡ true → SomeAgrees m s e
    pair-agrees c =
        let single : partners m e ≡ 1 = ap (λ b. if b then 1 else 0) c in
        agrees-by (nat_eq from.at) (nat_eq to.at) sends_it takes_it
        (one-passes (takes sending e s) (moves m both) from.at _ (moves-at (nat_eq from.at) (nat_eq to.at) sends_it takes_it from.at from.who from.is)
        (sends-first (nat_eq from.at) (nat_eq to.at) sends_it takes_it from.at from.who from.is (eq-eqb from.at from.at refl)) only-sender ∙ sym single)
        (one-passes (takes receiving e s) (moves m both) to.at _ (moves-at (nat_eq from.at) (nat_eq to.at) sends_it takes_it to.at to.who to.is)
        (receives-first (nat_eq from.at) (nat_eq to.at) sends_it takes_it to.at to.who to.is apart (eq-eqb to.at to.at refl)) only-receiver ∙ sym single)

  agreed : SomeAgrees m s e
  agreed = elim (decided (is_channel m e)) [
    | inr other ↦ alone-agrees other
    | inl so ↦ pair-agrees (partner sending so all.sender) (partner receiving so all.receiver) so
  ]

pub some-agrees : (m : System) (s : State) (e : ℕ) → HasOneRole m e → AllCan m s e → SomeAgrees m s e
some-agrees m s e one all = agreed m s e one all
