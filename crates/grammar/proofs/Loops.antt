-- A loop that reads a list item by item, beside the recursion that says which list it is.
use Rattle.std.proofs.Common.{◌≡◌, ℕ, zero, suc, max, ◌+◌, ◌-◌, ◌<◌, ◌≤◌, true, false, List, [], ◌∷◌, ◌++◌, Some, None, refl, sym, ap, ◌∙◌, append_assoc, append-nil, arith}
use Rattle.grammar.specs.Lang.{flat}
use Rattle.grammar.specs.Reader.{Read, Reader, and_then, starts, many_from, many_at, list_at, Deep, deep_from, deep_many, deep_list, joined, level, above, chained}
use Rattle.grammar.specs.Loops.{after, deep_after, flat_after}

down : (n at : ℕ) → at < n → n - at ≡ suc (n - (at + 1))
down n at l = omega arith

whole : {T A : Type 0} (front : List A) (d : ℕ) (ts : List T) → deep_after front d (Some (([], 0), ts)) ≡ Some ((front, d), ts)
whole {A = A} front d ts = let none : max d 0 ≡ d = omega arith in ap (λ (all : List A). Some ((all, max d 0), ts)) (append-nil front) ∙ ap (λ n. Some ((front, n), ts)) none

module _ {T A : Type 0} (code : T → ℕ) (ks : List ℕ) (r : Reader T A) where
  step_down : (n at : ℕ) → at < n → n - at ≡ suc (n - (at + 1))
  step_down n at l = omega arith

  after_tail : (front : List A) (a : A) (read : Read T (List A)) → after front (and_then read (λ more vs. Some (a ∷ more, vs))) ≡ after (front ++ a ∷ []) read
  after_tail front a None = refl
  after_tail front a (Some p) = ap (λ (all : List A). Some (all, p.1)) (sym (append_assoc front (a ∷ []) p.0))

  pub after_step : (front : List A) (n at : ℕ) (ts us : List T) (a : A) → at < n → starts code ks ts ≡ true → r ts ≡ Some (a, us)
      → after front (many_from code ks r (n - at) ts) ≡ after (front ++ a ∷ []) (many_from code ks r (n - (at + 1)) us)
  unfolding many_from
  after_step front n at ts us a l s e = rw (step_down n at l, s, e) (after_tail front a (many_from code ks r (n - (at + 1)) us))

  pub after_stop : (front : List A) (n : ℕ) (ts : List T) → starts code ks ts ≡ false → after front (many_from code ks r n ts) ≡ Some (front, ts)
  unfolding many_from
  after_stop front zero ts s = ap (λ (all : List A). Some (all, ts)) (append-nil front)
  after_stop front (suc n) ts s = rw s (ap (λ (all : List A). Some (all, ts)) (append-nil front))

  pub after_fail : (front : List A) (n at : ℕ) (ts : List T) → at < n → starts code ks ts ≡ true → r ts ≡ None → after front (many_from code ks r (n - at) ts) ≡ None
  unfolding many_from
  after_fail front n at ts l s e = rw (step_down n at l, s, e) refl

  pub after_end : (front : List A) (n at : ℕ) (ts : List T) → n ≤ at → after front (many_from code ks r (n - at) ts) ≡ Some (front, ts)
  unfolding many_from
  after_end front n at ts l = let none : n - at ≡ 0 = omega arith in rw none (ap (λ (all : List A). Some (all, ts)) (append-nil front))

  list_tail : (a : A) (read : Read T (List A)) → and_then {A = A × List A} {B = List A} (and_then {B = A × List A} read (λ b vs. Some ((a, b), vs))) (λ p us. Some (p.0 ∷ p.1, us)) ≡ after (a ∷ []) read
  list_tail a None = refl
  list_tail a (Some p) = refl

  pub list_after : (first : Reader T A) (ts us : List T) (a : A) → first ts ≡ Some (a, us) → list_at code ks first r ts ≡ after (a ∷ []) (many_at code ks r us)
  list_after first ts us a e = rw e (list_tail a (many_at code ks r us))

module _ {T A : Type 0} (code : T → ℕ) (ks : List ℕ) (r : Deep T A) where
  deep_tail : (front : List A) (d e : ℕ) (a : A) (read : Read T (List A × ℕ)) → deep_after front d (and_then read (λ more vs. Some (joined (a, e) more, vs))) ≡ deep_after (front ++ a ∷ []) (max d e) read
  deep_tail front d e a None = refl
  deep_tail front d e a (Some p) =
      let most : max d (max e p.0.1) ≡ max (max d e) p.0.1 = omega arith in
      ap (λ (all : List A). Some ((all, max d (max e p.0.1)), p.1)) (sym (append_assoc front (a ∷ []) p.0.0)) ∙ ap (λ n. Some (((front ++ a ∷ []) ++ p.0.0, n), p.1)) most

  pub deep_step : (front : List A) (d : ℕ) (n at : ℕ) (ts us : List T) (a : A) (e : ℕ) → at < n → starts code ks ts ≡ true → r ts ≡ Some ((a, e), us)
      → deep_after front d (deep_from code ks r (n - at) ts) ≡ deep_after (front ++ a ∷ []) (max d e) (deep_from code ks r (n - (at + 1)) us)
  unfolding deep_from
  deep_step front d n at ts us a e l s g = rw (down n at l, s, g) (deep_tail front d e a (deep_from code ks r (n - (at + 1)) us))

  pub deep_stop : (front : List A) (d n : ℕ) (ts : List T) → starts code ks ts ≡ false → deep_after front d (deep_from code ks r n ts) ≡ Some ((front, d), ts)
  unfolding deep_from
  deep_stop front d zero ts s = whole front d ts
  deep_stop front d (suc n) ts s = rw s (whole front d ts)

  pub deep_fail : (front : List A) (d n at : ℕ) (ts : List T) → at < n → starts code ks ts ≡ true → r ts ≡ None → deep_after front d (deep_from code ks r (n - at) ts) ≡ None
  unfolding deep_from
  deep_fail front d n at ts l s e = rw (down n at l, s, e) refl

  pub deep_end : (front : List A) (d n at : ℕ) (ts : List T) → n ≤ at → deep_after front d (deep_from code ks r (n - at) ts) ≡ Some ((front, d), ts)
  unfolding deep_from
  deep_end front d n at ts l = let none : n - at ≡ 0 = omega arith in rw none (whole front d ts)

  deep_list_tail : (a : A) (d : ℕ) (read : Read T (List A × ℕ))
      → and_then {A = (A × List A) × ℕ} {B = List A × ℕ} (and_then {A = (A × ℕ) × (List A × ℕ)} {B = (A × List A) × ℕ} (and_then {B = (A × ℕ) × (List A × ℕ)} read (λ b vs. Some (((a, d), b), vs))) (λ p us. Some (((p.0.0, p.1.0), max p.0.1 p.1.1), us))) (λ p us. Some ((p.0.0 ∷ p.0.1, p.1), us)) ≡ deep_after (a ∷ []) d read
  deep_list_tail a d None = refl
  deep_list_tail a d (Some p) = refl

  pub deep_list_after : (first : Deep T A) (ts us : List T) (a : A) (d : ℕ) → first ts ≡ Some ((a, d), us) → deep_list code ks first r ts ≡ deep_after (a ∷ []) d (deep_many code ks r us)
  deep_list_after first ts us a d e = rw e (deep_list_tail a d (deep_many code ks r us))

pub chained_more : {T A B : Type 0} (limit : ℕ) (make : A → List B → A) (first : A × ℕ) (all : List B) (e : ℕ) (ts : List T) → (all ≡ [] → ⊥)
    → chained limit make first (all, e) ts ≡ and_then (level limit first.0 first.1 ts) (λ p us. Some (above make p (all, e), us))
chained_more limit make first [] e ts h = absurd (h refl)
chained_more limit make first (b ∷ bs) e ts h = refl

pub deep_after_none : {T A : Type 0} (read : Read T (List A × ℕ)) → deep_after [] 0 read ≡ read
deep_after_none None = refl
deep_after_none (Some p) = let none : max 0 p.0.1 ≡ p.0.1 = omega arith in ap (λ n. Some ((p.0.0, n), p.1)) none

-- ---- lists one after the other

pub after_none : {T A : Type 0} (read : Read T (List A)) → after [] read ≡ read
after_none None = refl
after_none (Some p) = refl

pub flat_after_none : {T A : Type 0} (read : Read T (List (List A))) → flat_after [] read ≡ and_then {A = List (List A)} {B = List A} read (λ all us. Some (flat all, us))
flat_after_none None = refl
flat_after_none (Some p) = refl

module _ {T A : Type 0} (code : T → ℕ) (ks : List ℕ) (r : Reader T (List A)) where
  flat_tail : (front a : List A) (read : Read T (List (List A))) → flat_after front (and_then read (λ more vs. Some (a ∷ more, vs))) ≡ flat_after (front ++ a) read
  flat_tail front a None = refl
  flat_tail front a (Some p) = ap (λ (all : List A). Some (all, p.1)) (sym (append_assoc front a (flat p.0)))

  pub flat_step : (front : List A) (n at : ℕ) (ts us : List T) (a : List A) → at < n → starts code ks ts ≡ true → r ts ≡ Some (a, us)
      → flat_after front (many_from code ks r (n - at) ts) ≡ flat_after (front ++ a) (many_from code ks r (n - (at + 1)) us)
  unfolding many_from
  flat_step front n at ts us a l s e = rw (down n at l, s, e) (flat_tail front a (many_from code ks r (n - (at + 1)) us))

  pub flat_stop : (front : List A) (n : ℕ) (ts : List T) → starts code ks ts ≡ false → flat_after front (many_from code ks r n ts) ≡ Some (front, ts)
  unfolding many_from
  flat_stop front zero ts s = ap (λ (all : List A). Some (all, ts)) (append-nil front)
  flat_stop front (suc n) ts s = rw s (ap (λ (all : List A). Some (all, ts)) (append-nil front))

  pub flat_fail : (front : List A) (n at : ℕ) (ts : List T) → at < n → starts code ks ts ≡ true → r ts ≡ None → flat_after front (many_from code ks r (n - at) ts) ≡ None
  unfolding many_from
  flat_fail front n at ts l s e = rw (down n at l, s, e) refl

  pub flat_end : (front : List A) (n at : ℕ) (ts : List T) → n ≤ at → flat_after front (many_from code ks r (n - at) ts) ≡ Some (front, ts)
  unfolding many_from
  flat_end front n at ts l = let none : n - at ≡ 0 = omega arith in rw none (ap (λ (all : List A). Some (all, ts)) (append-nil front))
