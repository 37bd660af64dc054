-- The marks of all choices are those of the values that leave their ranges in some choice.
use Rattle.std.proofs.Common.{◌≡◌, ℕ, zero, suc, ◌+◌, ◌<◌, Bool, true, false, List, [], ◌∷◌, length, filter_map, zip, Option, Some, None, refl, sym, ap, ◌∙◌, arith, if◌then◌else◌, eqb-true}
use Rattle.std.specs.Prelude.{slice_get, ◌||◌, ◌&&◌, nat_eq}
use Rattle.std.specs.List.{cons_option, enumerate_from, list_any}
use Rattle.std.proofs.lemmas.Bool.Decides.{nat_tests}
use Rattle.cif_system.specs.System.{State}
use Rattle.cif_system.specs.Step.{Choice}
use Rattle.cif_net_model.proofs.ValueLaws.{ap-two}
use Rattle.cif_net_model.specs.Net.{Net, NetAuto}
use Rattle.cif_net_model.specs.Listing.{NetChoice, NetMove, move_if, moves_of, syncs_on}
use Rattle.cif_why_model.specs.Reasons.{takes_edge}
use Rattle.cif_why.specs.Leaving.{Sending, choice_marked, choices_marked, leaving_at, move_marked, moves_marked, sending_of}
use Rattle.cif_why.proofs.MarkLaws.{edge-marked, or-assoc, or-false, table_of, table-same}

module _ (n : Net) (s : State) where
  -- the move takes edge j of automaton i, and its value l leaves its range
  abbrev pub hit_by : ℕ → Sending → (i j l : ℕ) → ℕ → Option ℕ → Bool
  hit_by e t i j l k None = false
  hit_by e t i j l k (Some y) = nat_eq i k && (nat_eq j y && list_any (nat_eq l) (leaving_at n s e t k y))

  abbrev pub hit : ℕ → Sending → (i j l : ℕ) → NetMove → Bool
  hit e t i j l m = hit_by e t i j l m.auto m.edge

  one-move : (e : ℕ) (t : Sending) (k : ℕ) (o : Option ℕ) (v : ℕ → ℕ → ℕ → Bool) → move_marked n s e t k o (table_of v 0 n.autos) ≡ table_of (λ i j l. v i j l || hit_by e t i j l k o) 0 n.autos
  one-move e t k None v = table-same _ _ 0 n.autos (λ c d a y l p q r. sym (or-false (v (0 + c) d l)))
  one-move e t k (Some y) v = edge-marked k y (leaving_at n s e t k y) v n.autos

  moves-law : (e : ℕ) (t : Sending) (ms : List NetMove) (v : ℕ → ℕ → ℕ → Bool) → moves_marked n s e t ms (table_of v 0 n.autos) ≡ table_of (λ i j l. v i j l || list_any (hit e t i j l) ms) 0 n.autos
  moves-law e t [] v = table-same _ _ 0 n.autos (λ c d a y l p q r. sym (or-false (v (0 + c) d l)))
  moves-law e t (m ∷ ms) v =
      ap (moves_marked n s e t ms) (one-move e t m.auto m.edge v)
      ∙ moves-law e t ms (λ i j l. v i j l || hit e t i j l m)
      ∙ table-same _ _ 0 n.autos (λ c d a y l p q r. or-assoc (v (0 + c) d l) (hit e t (0 + c) d l m) (list_any (hit e t (0 + c) d l) ms))

  abbrev pub marks_value : (i j l : ℕ) → NetChoice → Bool
  marks_value i j l c = list_any (hit c.event (sending_of n.events s c) i j l) c.moves

  if-marked : (b : Bool) (c : NetChoice) (v : ℕ → ℕ → ℕ → Bool) → (if b then choice_marked n s c (table_of v 0 n.autos) else table_of v 0 n.autos) ≡ table_of (λ i j l. v i j l || (b && marks_value i j l c)) 0 n.autos
  if-marked true c v = moves-law c.event (sending_of n.events s c) c.moves v
  if-marked false c v = table-same _ _ 0 n.autos (λ d e a y l p q r. sym (or-false (v (0 + d) e l)))

  choices-law : (p : NetChoice → Bool) (cs : List NetChoice) (v : ℕ → ℕ → ℕ → Bool)
      → choices_marked p n s cs (table_of v 0 n.autos) ≡ table_of (λ i j l. v i j l || list_any (λ c. p c && marks_value i j l c) cs) 0 n.autos
  choices-law p [] v = table-same _ _ 0 n.autos (λ c d a y l q r w. sym (or-false (v (0 + c) d l)))
  choices-law p (c ∷ cs) v =
      ap (choices_marked p n s cs) (if-marked (p c) c v)
      ∙ choices-law p cs (λ i j l. v i j l || (p c && marks_value i j l c))
      ∙ table-same _ _ 0 n.autos (λ d e a y l q r w. or-assoc (v (0 + d) e l) (p c && marks_value (0 + d) e l c) (list_any (λ z. p z && marks_value (0 + d) e l z) cs))

  -- where nothing was marked
  pub choices-marked : (p : NetChoice → Bool) (cs : List NetChoice) → choices_marked p n s cs (table_of (λ i j l. false) 0 n.autos) ≡ table_of (λ i j l. list_any (λ c. p c && marks_value i j l c) cs) 0 n.autos
  choices-marked p cs = choices-law p cs (λ i j l. false)

  -- ---- the moves of a choice

  module _ (e : ℕ) (t : Sending) (j l : ℕ) where
    none-later : (k : ℕ) (autos : List NetAuto) (ch : Choice) (i : ℕ) → i < k → list_any (hit e t i j l) (filter_map (move_if e) (zip (enumerate_from k autos) ch)) ≡ false
    none-later k [] ch i h = refl
    none-later k (a ∷ autos) [] i h = refl
    none-later k (a ∷ autos) (None ∷ ch) i h = by (syncs_on e a) (none-later (k + 1) autos ch i (omega (arith, h)))
      where
        by : (b : Bool) → list_any (hit e t i j l) (filter_map (move_if e) (zip (enumerate_from (k + 1) autos) ch)) ≡ false
            → list_any (hit e t i j l) (cons_option (if b then Some (record { auto = k; edge = None }) else None) (filter_map (move_if e) (zip (enumerate_from (k + 1) autos) ch))) ≡ false
        by true rest = rest
        by false rest = rest
    none-later k (a ∷ autos) (Some y ∷ ch) i h =
        let no : nat_eq i k ≡ false = grind (arith, nat_tests) in
        ap (λ b. (b && (nat_eq j y && list_any (nat_eq l) (leaving_at n s e t k y))) || list_any (hit e t i j l) (filter_map (move_if e) (zip (enumerate_from (k + 1) autos) ch))) no
        ∙ none-later (k + 1) autos ch i (omega (arith, h))

    abbrev taken_at : Option (Option ℕ) → Bool
    taken_at o = elim o [ Some (Some i) ↦ nat_eq i j | _ ↦ false ]

    same-edge : (k y : ℕ) → (nat_eq j y && list_any (nat_eq l) (leaving_at n s e t k y)) ≡ (nat_eq y j && list_any (nat_eq l) (leaving_at n s e t k j))
    same-edge k y = by (nat_eq y j) refl
      where
        by : (b : Bool) → nat_eq y j ≡ b → (nat_eq j y && list_any (nat_eq l) (leaving_at n s e t k y)) ≡ (b && list_any (nat_eq l) (leaving_at n s e t k j))
        by true h =
            let is : y ≡ j = eqb-true y j h in
            let back : nat_eq j y ≡ true = grind (arith, nat_tests) in
            ap (λ b. b && list_any (nat_eq l) (leaving_at n s e t k y)) back ∙ ap (λ i. list_any (nat_eq l) (leaving_at n s e t k i)) is
        by false h =
            let back : nat_eq j y ≡ false = grind (arith, nat_tests) in
            ap (λ b. b && list_any (nat_eq l) (leaving_at n s e t k y)) back

    moves-any : (k : ℕ) (autos : List NetAuto) (ch : Choice) (d : ℕ) → length ch ≡ length autos
        → list_any (hit e t (k + d) j l) (filter_map (move_if e) (zip (enumerate_from k autos) ch)) ≡ (taken_at (slice_get ch d) && list_any (nat_eq l) (leaving_at n s e t (k + d) j))
    moves-any k [] [] d h = refl
    moves-any k [] (o ∷ ch) d h = absurd (omega (arith, h))
    moves-any k (a ∷ autos) [] d h = absurd (omega (arith, h))
    moves-any k (a ∷ autos) (None ∷ ch) zero h = by (syncs_on e a)
      where
        by : (b : Bool) → list_any (hit e t (k + 0) j l) (cons_option (if b then Some (record { auto = k; edge = None }) else None) (filter_map (move_if e) (zip (enumerate_from (k + 1) autos) ch))) ≡ false
        by true = none-later (k + 1) autos ch (k + 0) (omega arith)
        by false = none-later (k + 1) autos ch (k + 0) (omega arith)
    moves-any k (a ∷ autos) (Some y ∷ ch) zero h =
        let own : nat_eq (k + 0) k ≡ true = grind (arith, nat_tests) in
        ap-two (λ b c. (b && (nat_eq j y && list_any (nat_eq l) (leaving_at n s e t k y))) || c) own (none-later (k + 1) autos ch (k + 0) (omega arith))
        ∙ or-false (nat_eq j y && list_any (nat_eq l) (leaving_at n s e t k y))
        ∙ same-edge k y
        ∙ ap (λ i. nat_eq y j && list_any (nat_eq l) (leaving_at n s e t i j)) (omega arith)
    moves-any k (a ∷ autos) (None ∷ ch) (suc d) h =
        by (syncs_on e a)
        (ap (λ i. list_any (hit e t i j l) (filter_map (move_if e) (zip (enumerate_from (k + 1) autos) ch))) (omega arith)
        ∙ moves-any (k + 1) autos ch d (omega (arith, h))
        ∙ ap (λ i. taken_at (slice_get ch d) && list_any (nat_eq l) (leaving_at n s e t i j)) (omega arith))
      where
        by : (b : Bool) → list_any (hit e t (k + suc d) j l) (filter_map (move_if e) (zip (enumerate_from (k + 1) autos) ch)) ≡ (taken_at (slice_get ch d) && list_any (nat_eq l) (leaving_at n s e t (k + suc d) j))
            → list_any (hit e t (k + suc d) j l) (cons_option (if b then Some (record { auto = k; edge = None }) else None) (filter_map (move_if e) (zip (enumerate_from (k + 1) autos) ch)))
            ≡ (taken_at (slice_get ch d) && list_any (nat_eq l) (leaving_at n s e t (k + suc d) j))
        by true rest = rest
        by false rest = rest
    moves-any k (a ∷ autos) (Some y ∷ ch) (suc d) h =
        let other : nat_eq (k + suc d) k ≡ false = grind (arith, nat_tests) in
        ap (λ b. (b && (nat_eq j y && list_any (nat_eq l) (leaving_at n s e t k y))) || list_any (hit e t (k + suc d) j l) (filter_map (move_if e) (zip (enumerate_from (k + 1) autos) ch))) other
        ∙ ap (λ i. list_any (hit e t i j l) (filter_map (move_if e) (zip (enumerate_from (k + 1) autos) ch))) (omega arith)
        ∙ moves-any (k + 1) autos ch d (omega (arith, h))
        ∙ ap (λ i. taken_at (slice_get ch d) && list_any (nat_eq l) (leaving_at n s e t i j)) (omega arith)

    -- the automaton takes the edge, and its value leaves its range
    pub move-taken : (ch : Choice) (i : ℕ) → length ch ≡ length n.autos → list_any (hit e t i j l) (moves_of n e ch) ≡ (takes_edge ch i j && list_any (nat_eq l) (leaving_at n s e t i j))
    move-taken ch i h =
        ap (λ d. list_any (hit e t d j l) (moves_of n e ch)) (omega arith)
        ∙ moves-any 0 n.autos ch i h
        ∙ ap (λ d. taken_at (slice_get ch i) && list_any (nat_eq l) (leaving_at n s e t d j)) (omega arith)
