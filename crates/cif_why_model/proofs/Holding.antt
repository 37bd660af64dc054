-- Each reason of the list holds.
use Rattle.std.proofs.Common.{◌≡◌, ℕ, suc, Bool, true, false, not, inl, inr, ◌⊎◌, List, [], ◌∷◌, ◌++◌, length, map, filter, Some, refl, sym, ◌∙◌, ap, subst, arith}
use Rattle.std.specs.Prelude.{slice_get, ◌&&◌, ◌||◌, IsTrue, is_some, zip, flat_map, if◌then◌else◌}
use Rattle.std.specs.List.{list_any, enumerate_from, range_with_len}
use Rattle.cif_system.specs.Words.{Member}
use Rattle.cif_system.specs.System.{Edge, Automaton, State, System, receiving, sending}
use Rattle.cif_system.specs.Step.{Choice, agrees}
use Rattle.cif_system.specs.Choices.{choices, first_step}
use Rattle.cif_system.proofs.Lists.{false-true, filter-passes, filter-within}
use Rattle.cif_system.proofs.Picks.{and-left, and-right, at-enumerate_from, at-zip}
use Rattle.cif_why_model.specs.Told.{AutomatonTold, EdgeTold, Told}
use Rattle.cif_why_model.specs.Reasons.{Reason, no_role, blocks, no_sender, no_receiver, excluded, leaves, breaks, has_role, is_blocking, lacks, forbids, takes_edge, value_leaves, choice_breaks, agreeing, Holds, reason_if, each_of, leaves_of_edge, leaves_of, all_reasons, reasons_of}

-- ---- elements

pub of-either : {A : Type 0} (x : A) (xs ys : List A) → Member x (xs ++ ys) → Member x xs ⊎ Member x ys
of-either x [] ys h = inr h
of-either x (z ∷ zs) ys (inl is) = inl (inl is)
of-either x (z ∷ zs) ys (inr w) = elim (of-either x zs ys w) [ inl v ↦ inl (inr v) | inr v ↦ inr v ]

pub stands-at : {A : Type 0} (x : A) (xs : List A) → Member x xs → (k : ℕ) × (slice_get xs k ≡ Some x)
stands-at x [] h = absurd h
stands-at x (z ∷ zs) (inl is) = (0, ap Some (sym is))
stands-at x (z ∷ zs) (inr w) = let r = stands-at x zs w in (suc r.0, r.1)

pub of-map : {A B : Type 0} (f : A → B) (y : B) (xs : List A) → Member y (map f xs) → (x : A) × Member x xs × (y ≡ f x)
of-map f y [] h = absurd h
of-map f y (z ∷ zs) (inl is) = (z, inl refl, is)
of-map f y (z ∷ zs) (inr w) = let r = of-map f y zs w in (r.0, inr r.1, r.2)

of-flat : {A B : Type 0} (f : A → List B) (y : B) (xs : List A) → Member y (flat_map f xs) → (x : A) × Member x xs × Member y (f x)
of-flat f y [] h = absurd h
of-flat f y (z ∷ zs) h = elim (of-either y (f z) (flat_map f zs) h) [
  | inl v ↦ (z, inl refl, v)
  | inr v ↦ let r = of-flat f y zs v in (r.0, inr r.1, r.2)
]

pub of-any : {A : Type 0} (p : A → Bool) (xs : List A) → list_any p xs ≡ true → (x : A) × Member x xs × (p x ≡ true)
of-any p [] h = absurd (false-true refl h)
of-any {A} p (z ∷ zs) h =
    (elim (p z) as (λ b. p z ≡ b → (b || list_any p zs) ≡ true → (x : A) × Member x (z ∷ zs) × (p x ≡ true)) [
      | true ↦ λ e g. (z, inl refl, e)
      | false ↦ λ e g. let r = of-any p zs g in (r.0, inr r.1, r.2)
    ]) refl h

of-if : (r : Reason) (b : Bool) (q : Reason) → Member r (reason_if b q) → (b ≡ true) × (r ≡ q)
of-if r true q (inl is) = (refl, is)
of-if r true q (inr w) = absurd w
of-if r false q h = absurd h

-- an element with its number
of-numbered : {A : Type 0} (xs : List A) (z : ℕ × A) → Member z (enumerate_from 0 xs) → slice_get xs z.0 ≡ Some z.1
of-numbered xs z h =
    let w = stands-at z (enumerate_from 0 xs) h in
    let r = at-enumerate_from xs 0 w.0 z w.1 in
    subst (λ k. slice_get xs k ≡ Some z.1) (sym (r.1 ∙ omega arith)) r.0

of-each : {A : Type 0} (r : Reason) (reason : ℕ → Reason) (p : ℕ × A → Bool) (xs : List A) → Member r (each_of reason p xs)
    → (z : ℕ × A) × (slice_get xs z.0 ≡ Some z.1) × (p z ≡ true) × (r ≡ reason z.0)
of-each r reason p xs h =
    let w = of-map (λ z. reason z.0) r (filter p (enumerate_from 0 xs)) h in
    (w.0, of-numbered xs w.0 (filter-within p (enumerate_from 0 xs) w.0 w.1), filter-passes p (enumerate_from 0 xs) w.0 w.1, w.2)

-- ---- reasons

module _ (m : System) (t : Told) (s : State) (e : ℕ) where
  abbrev H : Reason → Type 0
  H r = Holds m t s e r

  agreed : (ch : Choice) → Member ch (agreeing m s e) → IsTrue (agrees m s e ch)
  agreed ch h = filter-passes (agrees m s e) (choices m e) ch h

  role-holds : (r : Reason) → Member r (reason_if (not (has_role m e)) no_role) → H r
  role-holds r h = let w = of-if r _ _ h in subst H (sym w.1) (turned (has_role m e) w.0)
    where
      turned : (b : Bool) → not b ≡ true → b ≡ false
      turned true g = absurd (false-true refl g)
      turned false g = refl

  blocks-hold : (r : Reason) → Member r (each_of blocks (is_blocking e s) m.automata) → H r
  blocks-hold r h = let w = of-each r blocks (is_blocking e s) m.automata h in subst H (sym w.3) (w.0.1, w.1, w.2)

  sender-holds : (r : Reason) → Member r (reason_if (lacks m s sending e) no_sender) → H r
  sender-holds r h = let w = of-if r _ _ h in subst H (sym w.1) w.0

  receiver-holds : (r : Reason) → Member r (reason_if (lacks m s receiving e) no_receiver) → H r
  receiver-holds r h = let w = of-if r _ _ h in subst H (sym w.1) w.0

  excluded-hold : (r : Reason) → Member r (each_of excluded (λ x. forbids e s x.1) m.exclusions) → H r
  excluded-hold r h = let w = of-each r excluded (λ x. forbids e s x.1) m.exclusions h in subst H (sym w.3) (w.0.1, w.1, w.2)

  breaks-hold : (r : Reason) → Member r (each_of breaks (λ x. list_any (λ ch. choice_breaks m s e ch x.1) (agreeing m s e)) m.invariants) → H r
  breaks-hold r h =
      let w = of-each r breaks (λ x. list_any (λ ch. choice_breaks m s e ch x.1) (agreeing m s e)) m.invariants h in
      let c = of-any (λ ch. choice_breaks m s e ch w.0.1) (agreeing m s e) w.2 in
      subst H (sym w.3) (c.0, w.0.1, agreed c.0 c.1, w.1, c.2)

  edge-holds : (r : Reason) (k : ℕ) (a : Automaton) (b : AutomatonTold) → slice_get m.automata k ≡ Some a → slice_get t.automata k ≡ Some b
      → (z : ℕ × (Edge × EdgeTold)) → Member z (enumerate_from 0 (zip a.edges b.edges)) → Member r (leaves_of_edge m s e k z) → H r
  edge-holds r k a b ga gb (j, (x, y)) hz h =
      let both = at-zip a.edges b.edges j (x, y) (of-numbered (zip a.edges b.edges) (j, (x, y)) hz) in
      let n = of-map (leaves k j) r (filter (λ number. list_any (λ ch. takes_edge ch k j && value_leaves m s e ch x y number) (agreeing m s e)) (range_with_len 0 (length y.values))) h in
      let q = filter-passes (λ number. list_any (λ ch. takes_edge ch k j && value_leaves m s e ch x y number) (agreeing m s e)) (range_with_len 0 (length y.values)) n.0 n.1 in
      let c = of-any (λ ch. takes_edge ch k j && value_leaves m s e ch x y n.0) (agreeing m s e) q in
      subst H (sym n.2) (c.0, x, y, agreed c.0 c.1, and-left _ _ c.2, (a, b, ga, gb, both.0, both.1), and-right (takes_edge c.0 k j) _ c.2)

  auto-holds : (r : Reason) (z : ℕ × (Automaton × AutomatonTold)) → Member z (enumerate_from 0 (zip m.automata t.automata)) → Member r (leaves_of m s e z) → H r
  auto-holds r (k, (a, b)) hz h =
      let both = at-zip m.automata t.automata k (a, b) (of-numbered (zip m.automata t.automata) (k, (a, b)) hz) in
      let w = of-flat (leaves_of_edge m s e k) r (enumerate_from 0 (zip a.edges b.edges)) h in
      edge-holds r k a b both.0 both.1 w.0 w.1 w.2

  leaves-hold : (r : Reason) → Member r (flat_map (leaves_of m s e) (enumerate_from 0 (zip m.automata t.automata))) → H r
  leaves-hold r h = let w = of-flat (leaves_of m s e) r (enumerate_from 0 (zip m.automata t.automata)) h in auto-holds r w.0 w.1 w.2

  either-holds : (r : Reason) (xs ys : List Reason) → (Member r xs → H r) → (Member r ys → H r) → Member r (xs ++ ys) → H r
  either-holds r xs ys f g h = elim (of-either r xs ys h) [ inl v ↦ f v | inr v ↦ g v ]

  all-hold : (r : Reason) → Member r (all_reasons m t s e) → H r
  all-hold r =
      either-holds r _ _ (either-holds r _ _ (either-holds r _ _ (either-holds r _ _ (either-holds r _ _ (either-holds r _ _
      (role-holds r) (blocks-hold r)) (sender-holds r)) (receiver-holds r)) (excluded-hold r)) (leaves-hold r)) (breaks-hold r)

pub reasons-hold : (m : System) (t : Told) (s : State) (e : ℕ) (r : Reason) → Member r (reasons_of m t s e) → Holds m t s e r
reasons-hold m t s e r h =
    (elim (is_some (first_step m s e)) as (λ b. Member r (if b then [] else all_reasons m t s e) → Holds m t s e r) [
      | true ↦ λ w. absurd w
      | false ↦ λ w. all-hold m t s e r w
    ]) h
