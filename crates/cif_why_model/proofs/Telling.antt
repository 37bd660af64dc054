-- Where an event has no step, each reason that holds stands in the list.
use Rattle.std.proofs.Common.{◌≡◌, ℕ, ◌<◌, ℤ, Bool, true, false, not, inl, inr, List, [], ◌++◌, length, filter, Some, None, refl, sym, ◌∙◌, ap, subst, arith}
use Rattle.std.specs.Prelude.{slice_get, ◌&&◌, nat_eq, IsTrue, is_some, zip, flat_map, if◌then◌else◌}
use Rattle.std.specs.List.{list_any, enumerate_from, range_with_len}
use Rattle.std.proofs.lemmas.Bool.{eqb-true}
use Rattle.cif_system.specs.Words.{Member}
use Rattle.cif_system.specs.System.{Edge, State, System, receiving, sending}
use Rattle.cif_system.specs.Step.{Choice, agrees, fits_channel}
use Rattle.cif_system.specs.Choices.{choices, first_step}
use Rattle.cif_system.proofs.Lists.{some-same, false-true, filter-member, range_with_len-member, slice_get-below}
use Rattle.cif_system.proofs.Picks.{and-left, or-cases, any-at, append-left, append-right, map-member, flat_map-member, at-member, enumerate_from-at, zip-at}
use Rattle.cif_system.proofs.ChoiceLaws.{choices-listed}
use Rattle.grammar.specs.Pieces.{Text}
use Rattle.cif_why_model.specs.Told.{Assigned, AutomatonTold, EdgeTold, Told}
use Rattle.cif_why_model.specs.Reasons.{Reason, no_role, blocks, no_sender, no_receiver, excluded, leaves, breaks, has_role, is_blocking, lacks, forbids, takes_edge, leaves_channel, leaves_variable, received_in, value_leaves, choice_breaks, agreeing, Holds, IsEdge, reason_if, each_of, leaves_of_edge, leaves_of, all_reasons, reasons_of}
use Rattle.cif_why_model.specs.Telling.{TellsEdge, TellsOf}
use Rattle.cif_why_model.proofs.Holding.{of-any, stands-at}

in-if : (b : Bool) (r : Reason) → b ≡ true → Member r (reason_if b r)
in-if true r h = inl refl
in-if false r h = absurd (false-true refl h)

in-each : {A : Type 0} (reason : ℕ → Reason) (p : ℕ × A → Bool) (xs : List A) (k : ℕ) (x : A) → slice_get xs k ≡ Some x → p (k, x) ≡ true → Member (reason k) (each_of reason p xs)
in-each reason p xs k x g h =
    map-member (λ z. reason z.0) (k, x) (filter p (enumerate_from 0 xs))
    (filter-member p (enumerate_from 0 xs) (k, x) (at-member (enumerate_from 0 xs) k (k, x) (enumerate_from-at xs 0 k k x g (omega arith))) h)

any-of : {A : Type 0} (p : A → Bool) (xs : List A) (x : A) → Member x xs → p x ≡ true → list_any p xs ≡ true
any-of p xs x w h = let r = stands-at x xs w in any-at p xs r.0 x r.1 h

numbered-in : {A : Type 0} (xs : List A) (k : ℕ) (x : A) → slice_get xs k ≡ Some x → Member (k, x) (enumerate_from 0 xs)
numbered-in xs k x g = at-member (enumerate_from 0 xs) k (k, x) (enumerate_from-at xs 0 k k x g (omega arith))

-- the number of an assigned value is that of a value of the edge
pub within-values : (names : ℕ → Text) (x : Edge) (y : EdgeTold) → TellsEdge names x y → (s : State) (r : ℤ) (l : ℕ) (w : Assigned) → slice_get (y.assigned s r) l ≡ Some w → w.number < length y.values
within-values names x y tells s r l w g = let v = tells.numbered s r l w g in slice_get-below y.values w.number v.0 v.1

module _ (names : ℕ → Text) (m : System) (t : Told) (s : State) (e : ℕ) (told : TellsOf names m t) where
  listed : (ch : Choice) → IsTrue (agrees m s e ch) → Member ch (agreeing m s e)
  listed ch h = filter-member (agrees m s e) (choices m e) ch (choices-listed m s e ch h) h

  tells : (k j : ℕ) (x : Edge) (y : EdgeTold) → IsEdge m t k j x y → TellsEdge names x y
  tells k j x y is =
      let b = told k is.0 is.2 in
      let same : b.0 ≡ is.1 = some-same b.0 is.1 (sym b.1 ∙ is.3) in
      let z = b.2 j x is.4 in
      let value : z.0 ≡ y = some-same z.0 y (sym z.1 ∙ ap (λ (w : AutomatonTold). slice_get w.edges j) same ∙ is.5) in
      subst (TellsEdge names x) value z.2

  -- a value that leaves its range is one of those of the edge
  is-value : (ch : Choice) (x : Edge) (y : EdgeTold) (number : ℕ) → TellsEdge names x y → value_leaves m s e ch x y number ≡ true → number < length y.values
  is-value ch x y number tells h = elim (or-cases (leaves_channel m s e x number) _ h) [
    | inl v ↦ of-sent v
    | inr v ↦
        let w = of-any (leaves_variable m number) (y.assigned s (received_in m s ch)) (and-left _ _ v) in
        let there = stands-at w.0 (y.assigned s (received_in m s ch)) w.1 in
        let same : w.0.number ≡ number = eqb-true w.0.number number (and-left _ _ w.2) in
        subst (λ k. k < length y.values) same (within-values names x y tells s (received_in m s ch) there.0 w.0 there.1)
  ]
    where
      of-sent : leaves_channel m s e x number ≡ true → number < length y.values
      of-sent v =
          (elim (x.sent s) as (λ o. x.sent s ≡ o → (elim o [ None ↦ false | Some z ↦ nat_eq number 0 && not (fits_channel (slice_get m.events e) z) ]) ≡ true → number < length y.values) [
            | None ↦ λ g w. absurd (false-true refl w)
            | Some z ↦ λ g w. subst (λ k. k < length y.values) (sym (eqb-true number 0 (and-left _ _ w))) (tells.sent s z g)
          ]) refl v

  leaves-in : (k j number : ℕ) (ch : Choice) (x : Edge) (y : EdgeTold) → IsTrue (agrees m s e ch) → IsTrue (takes_edge ch k j) → IsEdge m t k j x y → IsTrue (value_leaves m s e ch x y number)
      → Member (leaves k j number) (flat_map (leaves_of m s e) (enumerate_from 0 (zip m.automata t.automata)))
  leaves-in k j number ch x y agreed takes_it is bad =
      let a = is.0 in
      let b = is.1 in
      let found : list_any (λ c. takes_edge c k j && value_leaves m s e c x y number) (agreeing m s e) ≡ true = any-of _ (agreeing m s e) ch (listed ch agreed) (λ i. takes_it i && bad i) in
      let number_in : Member number (range_with_len 0 (length y.values)) =
      subst (λ k. Member k (range_with_len 0 (length y.values))) (omega arith) (range_with_len-member 0 (length y.values) number (is-value ch x y number (tells k j x y is) bad)) in
      flat_map-member (leaves_of m s e) (k, (a, b)) (enumerate_from 0 (zip m.automata t.automata)) (leaves k j number)
      (numbered-in (zip m.automata t.automata) k (a, b) (zip-at m.automata t.automata k a b is.2 is.3))
      (flat_map-member (leaves_of_edge m s e k) (j, (x, y)) (enumerate_from 0 (zip a.edges b.edges)) (leaves k j number)
      (numbered-in (zip a.edges b.edges) j (x, y) (zip-at a.edges b.edges j x y is.4 is.5))
      (map-member (leaves k j) number (filter (λ n. list_any (λ c. takes_edge c k j && value_leaves m s e c x y n) (agreeing m s e)) (range_with_len 0 (length y.values)))
      (filter-member (λ n. list_any (λ c. takes_edge c k j && value_leaves m s e c x y n) (agreeing m s e)) (range_with_len 0 (length y.values)) number number_in found)))

  turned : (b : Bool) → b ≡ false → not b ≡ true
  turned true h = absurd (false-true h refl)
  turned false h = refl

  in-list : (r : Reason) → Holds m t s e r → Member r (all_reasons m t s e)
  in-list no_role h =
      append-left _ _ _ (append-left _ _ _ (append-left _ _ _ (append-left _ _ _ (append-left _ _ _ (append-left _ _ _
      (in-if (not (has_role m e)) no_role (turned (has_role m e) h)))))))
  in-list (blocks k) h =
      append-left _ _ _ (append-left _ _ _ (append-left _ _ _ (append-left _ _ _ (append-left _ _ _ (append-right _ (reason_if (not (has_role m e)) no_role) _
      (in-each blocks (is_blocking e s) m.automata k h.0 h.1 h.2))))))
  in-list no_sender h =
      append-left _ _ _ (append-left _ _ _ (append-left _ _ _ (append-left _ _ _ (append-right _ (reason_if (not (has_role m e)) no_role ++ each_of blocks (is_blocking e s) m.automata) _
      (in-if (lacks m s sending e) no_sender h)))))
  in-list no_receiver h =
      append-left _ _ _ (append-left _ _ _ (append-left _ _ _ (append-right _ (reason_if (not (has_role m e)) no_role ++ each_of blocks (is_blocking e s) m.automata ++ reason_if (lacks m s sending e) no_sender) _
      (in-if (lacks m s receiving e) no_receiver h))))
  in-list (excluded k) h =
      append-left _ _ _ (append-left _ _ _ (append-right _ (reason_if (not (has_role m e)) no_role ++ each_of blocks (is_blocking e s) m.automata ++ reason_if (lacks m s sending e) no_sender ++ reason_if (lacks m s receiving e) no_receiver) _
      (in-each excluded (λ x. forbids e s x.1) m.exclusions k h.0 h.1 h.2)))
  in-list (leaves k j number) h =
      append-left _ _ _ (append-right _ (reason_if (not (has_role m e)) no_role ++ each_of blocks (is_blocking e s) m.automata ++ reason_if (lacks m s sending e) no_sender ++ reason_if (lacks m s receiving e) no_receiver ++ each_of excluded (λ x. forbids e s x.1) m.exclusions) _
      (leaves-in k j number h.0 h.1 h.2 h.3 h.4 h.5 h.6))
  in-list (breaks k) h =
      append-right _ (reason_if (not (has_role m e)) no_role ++ each_of blocks (is_blocking e s) m.automata ++ reason_if (lacks m s sending e) no_sender ++ reason_if (lacks m s receiving e) no_receiver ++ each_of excluded (λ x. forbids e s x.1) m.exclusions ++ flat_map (leaves_of m s e) (enumerate_from 0 (zip m.automata t.automata))) _
      (in-each breaks (λ x. list_any (λ ch. choice_breaks m s e ch x.1) (agreeing m s e)) m.invariants k h.1 h.3
      (any-of (λ ch. choice_breaks m s e ch h.1) (agreeing m s e) h.0 (listed h.0 h.2) h.4))

pub all-told : (names : ℕ → Text) (m : System) (t : Told) (s : State) (e : ℕ) (r : Reason) → TellsOf names m t → first_step m s e ≡ None → Holds m t s e r → Member r (reasons_of m t s e)
all-told names m t s e r told none h = subst (λ o. Member r (if is_some o then [] else all_reasons m t s e)) (sym none) (in-list names m t s e told r h)
