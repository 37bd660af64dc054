-- Marks on variables, and lists of those that are marked.
use Rattle.std.proofs.Common.{◌≡◌, ◌≢◌, ℕ, zero, suc, ◌+◌, ◌<◌, ◌≤◌, Bool, true, false, not, ◌||◌, cond, List, [], ◌∷◌, ◌++◌, length, drop, replicate, filter, nat_eq, get_or, Option, Some, None, slice_get, slice_set, refl, sym, ap, subst, ◌∙◌, arith, if◌then◌else◌}
use Rattle.std.proofs.lemmas.Bool.Decides.{nat_tests}
use Rattle.std.proofs.lemmas.List.{append-nil, append_assoc, drop_all}
use Rattle.cif_net_model.specs.Facts.{has}
use Rattle.plc_model.proofs.FaceLaws.{slice_get-set_same, slice_get-set_other}
use Rattle.plc_event_model.specs.Acts.{once}
use Rattle.plc_event.specs.Marked.{is_marked, is_now}
use Rattle.plc_event.specs.declared.marks.Marks.{Marks}
use Rattle.plc_expr_walk.proofs.Joining.{drop-item}

pub some-is : {A : Type 0} (x y : A) → Some x ≡ Some y → x ≡ y
some-is x y e = cc

-- ---- marks

-- at first no number is above 0
pub filled-past : (count v r : ℕ) → slice_get (replicate count 0) v ≡ Some r → r ≤ 0
filled-past zero v r e = absurd cc
filled-past (suc count) zero r e = let same = some-is 0 r e in omega arith
filled-past (suc count) (suc v) r e = filled-past count v r e

-- in a new round none is marked
pub none-now : (last : List ℕ) (old round : ℕ) → ((v r : ℕ) → slice_get last v ≡ Some r → r ≤ old) → round ≡ old + 1 → (v : ℕ) → is_now round (slice_get last v) ≡ false
none-now last old round past is v = go (slice_get last v) (past v)
  where
    go : (o : Option ℕ) → ((r : ℕ) → o ≡ Some r → r ≤ old) → is_now round o ≡ false
    go None below = refl
    go (Some r) below = let b = below r refl in grind (arith, nat_tests)

pub same-self : (k : ℕ) → nat_eq k k ≡ true
same-self k = grind (arith, nat_tests)

-- one more is marked
pub marked-too : (last : List ℕ) (at round : ℕ) → at < length last → (v : ℕ) → is_now round (slice_get (slice_set last at round) v) ≡ (nat_eq v at || is_now round (slice_get last v))
marked-too last at round within v = go (nat_eq v at) refl
  where
    go : (b : Bool) → nat_eq v at ≡ b → is_now round (slice_get (slice_set last at round) v) ≡ (b || is_now round (slice_get last v))
    go true is =
        let same : v ≡ at = grind (arith, nat_tests) in
        ap (λ k. is_now round (slice_get (slice_set last at round) k)) same ∙ ap (is_now round) (slice_get-set_same last at round within) ∙ same-self round
    go false is =
        let other : v ≢ at = grind (arith, nat_tests) in
        ap (is_now round) (slice_get-set_other last at v round other)

-- no number is above the round then
pub still-past : (last : List ℕ) (at round : ℕ) → at < length last → ((v r : ℕ) → slice_get last v ≡ Some r → r ≤ round) → (v r : ℕ) → slice_get (slice_set last at round) v ≡ Some r → r ≤ round
still-past last at round within past v r e = go (nat_eq v at) refl
  where
    go : (b : Bool) → nat_eq v at ≡ b → r ≤ round
    go true is =
        let same : v ≡ at = grind (arith, nat_tests) in
        let q = some-is round r (sym (slice_get-set_same last at round within) ∙ ap (slice_get (slice_set last at round)) (sym same) ∙ e) in omega arith
    go false is =
        let other : v ≢ at = grind (arith, nat_tests) in
        past v r (sym (slice_get-set_other last at v round other) ∙ e)

-- one is not marked any more
pub marked-not : (last : List ℕ) (at round earlier : ℕ) → at < length last → earlier < round → (v : ℕ)
    → is_now round (slice_get (slice_set last at earlier) v) ≡ (if nat_eq v at then false else is_now round (slice_get last v))
marked-not last at round earlier within before v = go (nat_eq v at) refl
  where
    other-round : nat_eq earlier round ≡ false
    other-round = grind (arith, nat_tests)

    go : (b : Bool) → nat_eq v at ≡ b → is_now round (slice_get (slice_set last at earlier) v) ≡ (if b then false else is_now round (slice_get last v))
    go true is =
        let same : v ≡ at = grind (arith, nat_tests) in
        ap (λ k. is_now round (slice_get (slice_set last at earlier) k)) same ∙ ap (is_now round) (slice_get-set_same last at earlier within) ∙ other-round
    go false is =
        let other : v ≢ at = grind (arith, nat_tests) in
        ap (is_now round) (slice_get-set_other last at v earlier other)

pub past-earlier : (last : List ℕ) (at round earlier : ℕ) → at < length last → earlier ≤ round → ((v r : ℕ) → slice_get last v ≡ Some r → r ≤ round)
    → (v r : ℕ) → slice_get (slice_set last at earlier) v ≡ Some r → r ≤ round
past-earlier last at round earlier within below past v r e = go (nat_eq v at) refl
  where
    go : (b : Bool) → nat_eq v at ≡ b → r ≤ round
    go true is =
        let same : v ≡ at = grind (arith, nat_tests) in
        let q = some-is earlier r (sym (slice_get-set_same last at earlier within) ∙ ap (slice_get (slice_set last at earlier)) (sym same) ∙ e) in omega arith
    go false is =
        let other : v ≢ at = grind (arith, nat_tests) in
        past v r (sym (slice_get-set_other last at v earlier other) ∙ e)

-- ---- lists

-- what was marked, and what is left, are all
pub marked-next : (xs : List ℕ) (i x : ℕ) (v : ℕ) (old new : Bool) → i < length xs → x ≡ get_or xs i x → new ≡ (nat_eq v x || old) → (new || has (drop (i + 1) xs) v) ≡ (old || has (drop i xs) v)
marked-next xs i x v old new within item is =
    ap (λ b. b || has (drop (i + 1) xs) v) is
    ∙ turn (nat_eq v x) old (has (drop (i + 1) xs) v)
    ∙ ap (λ ys. old || has ys v) (sym (drop-item xs i x within item))
  where
    turn : (a b c : Bool) → ((a || b) || c) ≡ (b || (a || c))
    turn true true c = refl
    turn true false c = refl
    turn false b c = refl

pub marked-all : (xs : List ℕ) (i v : ℕ) (b : Bool) → length xs ≤ i → (b || has (drop i xs) v) ≡ b
marked-all xs i v b past = ap (λ ys. b || has ys v) (drop_all i xs past) ∙ none b
  where
    none : (c : Bool) → (c || false) ≡ c
    none true = refl
    none false = refl

-- The variables that were found, and each of those that are left once, are each of all once; the marks say which were seen.
pub record OnceSoFar (all : List ℕ) (i : ℕ) (found : List ℕ) (marks : Marks) : Type 0 where
  pub seen : List ℕ
  pub done : found ++ once seen (drop i all) ≡ once [] all
  pub marked : (u : ℕ) → is_marked marks.round marks.last u ≡ has seen u

not-turned : (a b : Bool) → a ≡ not b → b ≡ not a
not-turned true true e = absurd cc
not-turned true false e = refl
not-turned false true e = refl
not-turned false false e = absurd cc

module _ (all : List ℕ) (i x : ℕ) (found : List ℕ) (old new : Marks) (within : i < length all) (item : x ≡ get_or all i x) (so : OnceSoFar all i found old)
    (marks : (u : ℕ) → is_marked new.round new.last u ≡ (nat_eq u x || is_marked old.round old.last u)) where
  head-once : (b : Bool) → has so.seen x ≡ b → found ++ (if b then once so.seen (drop (i + 1) all) else x ∷ once (x ∷ so.seen) (drop (i + 1) all)) ≡ once [] all
  head-once b is =
      ap (λ t. found ++ (if t then once so.seen (drop (i + 1) all) else x ∷ once (x ∷ so.seen) (drop (i + 1) all))) (sym is)
      ∙ ap (λ ys. found ++ once so.seen ys) (sym (drop-item all i x within item))
      ∙ so.done

  -- a variable is found that was not seen
  pub once-found : (more : List ℕ) → true ≡ not (is_marked old.round old.last x) → more ≡ found ++ x ∷ [] → OnceSoFar all (i + 1) more new
  once-found more fresh is = record {
    seen = x ∷ so.seen;
    done = ap (λ ys. ys ++ once (x ∷ so.seen) (drop (i + 1) all)) is
        ∙ append_assoc found (x ∷ []) (once (x ∷ so.seen) (drop (i + 1) all))
        ∙ head-once false (sym (so.marked x) ∙ not-turned true (is_marked old.round old.last x) fresh);
    marked = λ u. marks u ∙ ap (λ b. nat_eq u x || b) (so.marked u);
  }

  -- and one that was seen is left out
  pub once-left : false ≡ not (is_marked old.round old.last x) → OnceSoFar all (i + 1) found new
  once-left known =
      let seen_it : has so.seen x ≡ true = sym (so.marked x) ∙ not-turned false (is_marked old.round old.last x) known in
      record {
        seen = so.seen;
        done = head-once true seen_it;
        marked = λ u. marks u ∙ ap (λ b. nat_eq u x || b) (so.marked u) ∙ go u (nat_eq u x) refl seen_it;
      }
    where
      go : (u : ℕ) (b : Bool) → nat_eq u x ≡ b → has so.seen x ≡ true → (b || has so.seen u) ≡ has so.seen u
      go u true is h = let same : x ≡ u = grind (arith, nat_tests) in sym h ∙ ap (has so.seen) same
      go u false is h = refl

  -- either way
  pub once-met : (more : List ℕ) → more ≡ (if is_marked old.round old.last x then found else found ++ x ∷ []) → OnceSoFar all (i + 1) more new
  once-met more is = go (is_marked old.round old.last x) refl
    where
      go : (b : Bool) → is_marked old.round old.last x ≡ b → OnceSoFar all (i + 1) more new
      go true known =
          subst (λ ys. OnceSoFar all (i + 1) ys new) (sym (is ∙ ap (λ b. if b then found else found ++ x ∷ []) known)) (once-left (ap not (sym known)))
      go false known = once-found more (ap not (sym known)) (is ∙ ap (λ b. if b then found else found ++ x ∷ []) known)

pub once-ended : (all : List ℕ) (i : ℕ) (found : List ℕ) (marks : Marks) → length all ≤ i → OnceSoFar all i found marks → found ≡ once [] all
once-ended all i found marks past so = sym (ap (λ ys. found ++ once so.seen ys) (drop_all i all past) ∙ append-nil found) ∙ so.done

-- ---- a list of those that pass

module _ (p : ℕ → Bool) (all : List ℕ) (i x : ℕ) (within : i < length all) (item : x ≡ get_or all i x) where
  pub kept-more : (found more : List ℕ) → p x ≡ true → more ≡ found ++ x ∷ [] → more ++ filter p (drop (i + 1) all) ≡ found ++ filter p (drop i all)
  kept-more found more pass is =
      ap (λ ys. ys ++ filter p (drop (i + 1) all)) is
      ∙ append_assoc found (x ∷ []) (filter p (drop (i + 1) all))
      ∙ ap (λ b. found ++ cond b (x ∷ filter p (drop (i + 1) all)) (filter p (drop (i + 1) all))) (sym pass)
      ∙ ap (λ ys. found ++ filter p ys) (sym (drop-item all i x within item))

  pub kept-same : (found : List ℕ) → p x ≡ false → found ++ filter p (drop (i + 1) all) ≡ found ++ filter p (drop i all)
  kept-same found pass =
      ap (λ b. found ++ cond b (x ∷ filter p (drop (i + 1) all)) (filter p (drop (i + 1) all))) (sym pass)
      ∙ ap (λ ys. found ++ filter p ys) (sym (drop-item all i x within item))

-- ---- items

-- what stands there is the same, whatever stood past the end
pub same-item : (xs : List ℕ) (i d : ℕ) → i < length xs → get_or xs i d ≡ get_or xs i (get_or xs i d)
same-item [] i d h = absurd (omega (arith, h))
same-item (x ∷ xs) zero d h = refl
same-item (x ∷ xs) (suc i) d h = go xs i d (get_or xs i d) (omega (arith, h))
  where
    go : (ys : List ℕ) (k a b : ℕ) → k < length ys → get_or ys k a ≡ get_or ys k b
    go [] k a b below = absurd (omega (arith, below))
    go (y ∷ ys) zero a b below = refl
    go (y ∷ ys) (suc k) a b below = go ys k a b (omega (arith, below))
