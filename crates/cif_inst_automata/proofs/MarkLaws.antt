-- Events are marked exactly where they stand in the alphabet.
use Rattle.std.proofs.Common.{◌≡◌, ◌≢◌, ℕ, zero, suc, ◌+◌, ◌≤◌, ◌<◌, Bool, true, false, cond, inl, inr, List, [], ◌∷◌, ◌++◌, length, drop, get_or, replicate, Option, Some, refl, sym, ◌∙◌, ap, subst, arith}
use Rattle.std.specs.Prelude.{◌&&◌, ◌||◌, not, nat_eq, nat_le, slice_set}
use Rattle.std.specs.List.{list_all, list_any, position_or_len}
use Rattle.std.proofs.lemmas.Bool.Decides.{nat_tests}
use Rattle.std.proofs.lemmas.List.{length-set, get_or-set_same, get_or-set_other}
use Rattle.std.proofs.lemmas.Option.{unwrap_or-slice_get}
use Rattle.cif_system.specs.Words.{Member}
use Rattle.cif_system.specs.System.{sending, receiving}
use Rattle.cif_system.proofs.Picks.{and-left, and-right}
use Rattle.cif_net_model.specs.Facts.{has}
use Rattle.cif_inst_automata.specs.Alphabets.{is_outside, first_failing, events_as}
use Rattle.cif_inst_automata.specs.Marks.{marked, mark_of, is_marked, is_unmarked, AreMarks}
use Rattle.cif_scope.proofs.Places.{drop-item}
use Rattle.cif_inst_automata.specs.Roles.{is_mixed, first_mixed, marked_by, is_mixed_by, AreBelow}
use Rattle.cif_inst_automata.specs.declared.alphabets.Alphabet.{Alphabet}
use Rattle.std.specs.Prelude.{slice_get, if◌then◌else◌}

-- ---- one mark

pub past_set : (ms : List ℕ) (e mark : ℕ) → length ms ≤ e → slice_set ms e mark ≡ ms
past_set [] e mark h = refl
past_set (m ∷ ms) zero mark h = absurd (omega (arith, h))
past_set (m ∷ ms) (suc e) mark h = ap (λ xs. m ∷ xs) (past_set ms e mark (omega (arith, h)))

same-number : (a : ℕ) → nat_eq a a ≡ true
same-number a =
    (elim (nat_eq a a) as (λ c. nat_eq a a ≡ c → c ≡ true) [
      | true ↦ λ e. refl
      | false ↦ λ e. absurd (let g : a ≢ a = grind (arith, nat_tests) in g refl)
    ]) refl

mark-at : (ms : List ℕ) (x e mark : ℕ) → e < length ms → nat_eq (mark_of (slice_set ms x mark) e) mark ≡ (nat_eq e x || nat_eq (mark_of ms e) mark)
mark-at ms x e mark h =
    (elim (nat_eq e x) as (λ b. nat_eq e x ≡ b → nat_eq (mark_of (slice_set ms x mark) e) mark ≡ (b || nat_eq (mark_of ms e) mark)) [
      | true ↦ λ g.
          let same : e ≡ x = grind (arith, nat_tests) in
          ap (λ y. nat_eq y mark) (unwrap_or-slice_get (slice_set ms x mark) e 0 ∙ ap (λ k. get_or (slice_set ms x mark) k 0) same ∙ get_or-set_same ms x mark 0 (omega (arith, h, same))) ∙ same-number mark
      | false ↦ λ g.
          let other : e ≢ x = grind (arith, nat_tests) in
          ap (λ y. nat_eq y mark) (unwrap_or-slice_get (slice_set ms x mark) e 0 ∙ get_or-set_other ms x e mark 0 other ∙ sym (unwrap_or-slice_get ms e 0))
    ]) refl

regrouped : (a b c : Bool) → (a || (b || c)) ≡ ((b || a) || c)
regrouped true true c = refl
regrouped true false c = refl
regrouped false true c = refl
regrouped false false c = refl

-- ---- all marks

pub marked-length : (mark : ℕ) (es ms : List ℕ) → length (marked mark es ms) ≡ length ms
marked-length mark [] ms = refl
marked-length mark (e ∷ es) ms = marked-length mark es (slice_set ms e mark) ∙ length-set ms e mark

marked-has : (mark : ℕ) (es ms : List ℕ) (e : ℕ) → e < length ms → nat_eq (mark_of (marked mark es ms) e) mark ≡ (has es e || nat_eq (mark_of ms e) mark)
marked-has mark [] ms e h = refl
marked-has mark (x ∷ es) ms e h =
    marked-has mark es (slice_set ms x mark) e (omega (arith, h, length-set ms x mark))
    ∙ ap (λ b. has es e || b) (mark-at ms x e mark h)
    ∙ regrouped (has es e) (nat_eq e x) (nat_eq (mark_of ms e) mark)

-- ---- small marks

le-holds : (a b : ℕ) → nat_le a b ≡ true → a ≤ b
le-holds a b h = grind (arith, nat_tests)

le-true : (a b : ℕ) → a ≤ b → nat_le a b ≡ true
le-true a b h =
    (elim (nat_le a b) as (λ c. nat_le a b ≡ c → c ≡ true) [
      | true ↦ λ e. refl
      | false ↦ λ e. absurd (let g : b < a = grind (arith, nat_tests) in omega (arith, g, h))
    ]) refl

abbrev AreSmall : ℕ → List ℕ → Type 0
AreSmall k ms = list_all (λ m. nat_le m k) ms ≡ true

both : (a b : Bool) → a ≡ true → b ≡ true → (a && b) ≡ true
both a b h g = ap (λ c. c && b) h ∙ g

mark-small : (k : ℕ) (ms : List ℕ) (e : ℕ) → AreSmall k ms → mark_of ms e ≤ k
mark-small k [] e h = omega arith
mark-small k (m ∷ ms) zero h = le-holds m k (and-left (nat_le m k) (list_all (λ m. nat_le m k) ms) h)
mark-small k (m ∷ ms) (suc e) h = mark-small k ms e (and-right (nat_le m k) (list_all (λ m. nat_le m k) ms) h)

pub more-small : (k j : ℕ) (ms : List ℕ) → k ≤ j → AreSmall k ms → AreSmall j ms
more-small k j [] below h = refl
more-small k j (m ∷ ms) below h =
    both (nat_le m j) (list_all (λ m. nat_le m j) ms)
    (le-true m j (omega (arith, below, le-holds m k (and-left (nat_le m k) (list_all (λ m. nat_le m k) ms) h))))
    (more-small k j ms below (and-right (nat_le m k) (list_all (λ m. nat_le m k) ms) h))

set-small : (mark : ℕ) (ms : List ℕ) (e : ℕ) → AreSmall mark ms → AreSmall mark (slice_set ms e mark)
set-small mark [] e h = refl
set-small mark (m ∷ ms) zero h = both (nat_le mark mark) (list_all (λ m. nat_le m mark) ms) (le-true mark mark (omega arith)) (and-right (nat_le m mark) (list_all (λ m. nat_le m mark) ms) h)
set-small mark (m ∷ ms) (suc e) h =
    both (nat_le m mark) (list_all (λ m. nat_le m mark) (slice_set ms e mark))
    (and-left (nat_le m mark) (list_all (λ m. nat_le m mark) ms) h)
    (set-small mark ms e (and-right (nat_le m mark) (list_all (λ m. nat_le m mark) ms) h))

marked-small : (mark : ℕ) (es ms : List ℕ) → AreSmall mark ms → AreSmall mark (marked mark es ms)
marked-small mark [] ms h = h
marked-small mark (e ∷ es) ms h = marked-small mark es (slice_set ms e mark) (set-small mark ms e h)

-- ---- marks of an automaton

other-mark : (k m : ℕ) → m ≤ k → nat_eq m (k + 1) ≡ false
other-mark k m h =
    (elim (nat_eq m (k + 1)) as (λ b. nat_eq m (k + 1) ≡ b → b ≡ false) [
      | true ↦ λ e. absurd (let g : m ≡ k + 1 = grind (arith, nat_tests) in omega (arith, g, h))
      | false ↦ λ e. refl
    ]) refl

or-false : (a : Bool) → (a || false) ≡ a
or-false true = refl
or-false false = refl

-- with the next mark those events are marked that stand in the list
marked-inside : (k : ℕ) (es ms : List ℕ) (e : ℕ) → AreSmall k ms → e < length ms → is_marked (k + 1) (marked (k + 1) es ms) e ≡ has es e
marked-inside k es ms e small below = marked-has (k + 1) es ms e below ∙ ap (λ b. has es e || b) (other-mark k (mark_of ms e) (mark-small k ms e small)) ∙ or-false (has es e)

pub marked-outside : (k : ℕ) (es ms : List ℕ) (e : ℕ) → AreSmall k ms → e < length ms → is_unmarked (k + 1) (marked (k + 1) es ms) e ≡ is_outside es e
marked-outside k es ms e small below = ap not (marked-inside k es ms e small below)

same-position : (p q : ℕ → Bool) (xs : List ℕ) → ((x : ℕ) → Member x xs → p x ≡ q x) → position_or_len p xs ≡ position_or_len q xs
same-position p q [] h = refl
same-position p q (x ∷ xs) h =
    ap (λ b. cond (not b) (1 + position_or_len p xs) 0) (h x (inl refl)) ∙ ap (λ k. cond (not (q x)) (1 + k) 0) (same-position p q xs (λ y m. h y (inr m)))

pub same-failing : (p q : ℕ → Bool) (xs ps : List ℕ) → ((x : ℕ) → Member x xs → p x ≡ q x) → first_failing p xs ps ≡ first_failing q xs ps
same-failing p q xs ps h = ap (slice_get ps) (same-position p q xs h)

pub next_marks : (count k mark : ℕ) (es ms new : List ℕ) → mark ≡ k + 1 → new ≡ marked mark es ms → AreMarks count k ms → AreMarks count mark new
next_marks count k mark es ms new next is h =
    subst (λ x. AreMarks count x new) (sym next)
    (subst (AreMarks count (k + 1)) (sym (is ∙ ap (λ x. marked x es ms) next)) (record {
      every = marked-length (k + 1) es ms ∙ h.every;
      small = marked-small (k + 1) es ms (more-small k (k + 1) ms (omega arith) h.small);
    }))

pub later_marks : (count k : ℕ) (ms : List ℕ) → AreMarks count k ms → AreMarks count (k + 1) ms
later_marks count k ms h = record { every = h.every; small = more-small k (k + 1) ms (omega arith) h.small }

pub first_marks : (count as_many : ℕ) (ms : List ℕ) → as_many ≡ count → ms ≡ replicate as_many 0 → AreMarks count 0 ms
first_marks count as_many ms same is = subst (AreMarks count 0) (sym is) (record { every = replicated as_many ∙ same; small = zeros-small as_many })
  where
    replicated : (c : ℕ) → length {A = ℕ} (replicate c 0) ≡ c
    replicated zero = refl
    replicated (suc c) = omega (arith, replicated c)

    zeros-small : (c : ℕ) → AreSmall 0 (replicate c 0)
    zeros-small zero = refl
    zeros-small (suc c) = both (nat_le 0 0) (list_all (λ m. nat_le m 0) (replicate c 0)) refl (zeros-small c)

-- ---- roles

any-same : (p q : ℕ → Bool) (xs : List ℕ) → ((x : ℕ) → Member x xs → p x ≡ q x) → list_any p xs ≡ list_any q xs
any-same p q [] h = refl
any-same p q (x ∷ xs) h = ap (λ b. b || list_any p xs) (h x (inl refl)) ∙ ap (λ b. q x || b) (any-same p q xs (λ y m. h y (inr m)))

marked-twice : (mark : ℕ) (es fs ms : List ℕ) → marked mark fs (marked mark es ms) ≡ marked mark (es ++ fs) ms
marked-twice mark [] fs ms = refl
marked-twice mark (e ∷ es) fs ms = marked-twice mark es fs (slice_set ms e mark)

-- with the next mark it is seen whether an event has two roles
module _ (count k : ℕ) (a : Alphabet) (ms : List ℕ) (below : AreBelow count a) (h : AreMarks count k ms) where
  abbrev received : List ℕ
  received = events_as receiving a.used

  abbrev sent : List ℕ
  sent = events_as sending a.used

  next-mixed : is_mixed_by (k + 1) a ms ≡ is_mixed a
  next-mixed =
      ap (λ b. b || list_any (is_marked (k + 1) (marked_by (k + 1) a ms)) sent)
      (any-same (is_marked (k + 1) (marked (k + 1) a.events ms)) (has a.events) received (λ e m. marked-inside k a.events ms e h.small (omega (arith, below.received e m, h.every))))
      ∙ ap (λ b. list_any (has a.events) received || b)
      (ap (λ xs. list_any (is_marked (k + 1) xs) sent) (marked-twice (k + 1) a.events received ms)
      ∙ any-same (is_marked (k + 1) (marked (k + 1) (a.events ++ received) ms)) (has (a.events ++ received)) sent (λ e m. marked-inside k (a.events ++ received) ms e h.small (omega (arith, below.sent e m, h.every))))

  pub mixed_by : (mark : ℕ) → mark ≡ k + 1 → is_mixed_by mark a ms ≡ is_mixed a
  mixed_by mark next = ap (λ x. is_mixed_by x a ms) next ∙ next-mixed

pub marks_after : (count k mark : ℕ) (a : Alphabet) (ms new : List ℕ) → mark ≡ k + 1 → new ≡ marked_by mark a ms → AreMarks count k ms → AreMarks count mark new
marks_after count k mark a ms new next is h =
    next_marks count k mark (a.events ++ events_as receiving a.used) ms new next (is ∙ marked-twice mark a.events (events_as receiving a.used) ms) h

-- ---- past one of the alphabets

module _ (all : List Alphabet) (i : ℕ) (a : Alphabet) (o : Option ℕ) (below : i < length all) (is : a ≡ get_or all i a) (h : first_mixed (drop i all) ≡ o) where
  here : first_mixed (a ∷ drop (i + 1) all) ≡ o
  here = sym (ap first_mixed (drop-item all i a below is)) ∙ h

  pub mixed_passed : is_mixed a ≡ false → first_mixed (drop (i + 1) all) ≡ o
  mixed_passed single = sym (ap (λ b. if b then Some a.component else first_mixed (drop (i + 1) all)) single) ∙ here

  pub mixed_found : is_mixed a ≡ true → Some a.component ≡ o
  mixed_found mixed = sym (ap (λ b. if b then Some a.component else first_mixed (drop (i + 1) all)) mixed) ∙ here
