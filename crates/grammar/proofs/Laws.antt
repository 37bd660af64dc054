-- What a reader takes from the front is what the language allows there.
use Rattle.std.proofs.Common.{◌≡◌, ℕ, Bool, true, false, not, ◌&&◌, ◌||◌, ◌==◌, List, [], ◌∷◌, ◌++◌, Some, refl, ap, eqb-true}
use Rattle.std.proofs.lemmas.Bool.{or_right}
use Rattle.grammar.specs.Lang.{Lang, has}
use Rattle.grammar.specs.Reader.{Reader, starts}
use Rattle.grammar.specs.Sets.{apart, covers}

-- ---- sets

pub same_kind : (j k : ℕ) → (j == k) ≡ true → j ≡ k
same_kind j k e = search (eqb-true)

apart_step : (ks js : List ℕ) (j k : ℕ) (b : Bool) → (j == k) ≡ b → (c : Bool) → has js j ≡ c → (d : Bool) → has js k ≡ d
    → (apart ks js ≡ true → has ks k ≡ true → has js k ≡ false) → (not c && apart ks js) ≡ true → (b || has ks k) ≡ true → d ≡ false
apart_step ks js j k b is c in_j false in_k ih e h = refl
apart_step ks js j k true is true in_j true in_k ih e h = absurd cc
apart_step ks js j k true is false in_j true in_k ih e h = let same = same_kind j k is in let w : has js j ≡ has js k = ap (has js) same in cc
apart_step ks js j k false is true in_j true in_k ih e h = absurd cc
apart_step ks js j k false is false in_j true in_k ih e h = let w = ih e h in cc

pub apart-has : (ks js : List ℕ) (k : ℕ) → apart ks js ≡ true → has ks k ≡ true → has js k ≡ false
apart-has [] js k e h = absurd cc
apart-has (j ∷ ks) js k e h = apart_step ks js j k (j == k) refl (has js j) refl (has js k) refl (apart-has ks js k) e h

covers_step : (js ks : List ℕ) (j k : ℕ) (b : Bool) → (j == k) ≡ b → (c : Bool) → has js j ≡ c
    → (covers js ks ≡ true → has ks k ≡ true → has js k ≡ true) → (c && covers js ks) ≡ true → (b || has ks k) ≡ true → has js k ≡ true
covers_step js ks j k b is false in_j ih e h = absurd cc
covers_step js ks j k true is true in_j ih e h = let same = same_kind j k is in let w : has js j ≡ has js k = ap (has js) same in cc
covers_step js ks j k false is true in_j ih e h = ih e h

pub covers-has : (js ks : List ℕ) (k : ℕ) → covers js ks ≡ true → has ks k ≡ true → has js k ≡ true
covers-has js [] k e h = absurd cc
covers-has js (j ∷ ks) k e h = covers_step js ks j k (j == k) refl (has js j) refl (covers-has js ks k) e h

pub covers-not : (js ks : List ℕ) (k : ℕ) → covers js ks ≡ true → has js k ≡ false → has ks k ≡ false
covers-not js ks k e h = go (has ks k) refl
  where
    go : (b : Bool) → has ks k ≡ b → b ≡ false
    go false is = refl
    go true is = let w = covers-has js ks k e is in cc

or_more : (b c d : Bool) → (c ≡ true → d ≡ true) → (b || c) ≡ true → (b || d) ≡ true
or_more true c d ih h = refl
or_more false c d ih h = ih h

pub has-left : (ks js : List ℕ) (k : ℕ) → has ks k ≡ true → has (ks ++ js) k ≡ true
has-left [] js k h = absurd cc
has-left (j ∷ ks) js k h = or_more (j == k) (has ks k) (has (ks ++ js) k) (has-left ks js k) h

pub has-right : (ks js : List ℕ) (k : ℕ) → has js k ≡ true → has (ks ++ js) k ≡ true
has-right [] js k h = h
has-right (j ∷ ks) js k h = or_right (j == k) (has (ks ++ js) k) (has-right ks js k h)

pub not-left : (ks js : List ℕ) (k : ℕ) → has (ks ++ js) k ≡ false → has ks k ≡ false
not-left ks js k h = go (has ks k) refl
  where
    go : (b : Bool) → has ks k ≡ b → b ≡ false
    go false is = refl
    go true is = let w = has-left ks js k is in cc

pub not-right : (ks js : List ℕ) (k : ℕ) → has (ks ++ js) k ≡ false → has js k ≡ false
not-right ks js k h = go (has js k) refl
  where
    go : (b : Bool) → has js k ≡ b → b ≡ false
    go false is = refl
    go true is = let w = has-right ks js k is in cc

-- ---- readings

-- it begins with one of these, or may be empty
abbrev pub Begins : {T : Type 0} → (T → ℕ) → Bool → List ℕ → List T → Type 0
Begins code empty ks [] = empty ≡ true
Begins code empty ks (t ∷ ts) = has ks (code t) ≡ true

-- what comes next isn't one of these
abbrev pub Stops : {T : Type 0} → (T → ℕ) → List ℕ → List T → Type 0
Stops code ks ts = starts code ks ts ≡ false

pub record Takes {T A : Type 0} (code : T → ℕ) (empty : Bool) (first goes_on : List ℕ) (p : Lang T A) (r : Reader T A) : Type 0 where
  pub begins : (a : A) (x : List T) → p a x → Begins code empty first x
  pub sound : (ts : List T) (a : A) (rest : List T) → r ts ≡ Some (a, rest) → (x : List T) × p a x × (ts ≡ x ++ rest)
  pub complete : (a : A) (x rest : List T) → p a x → Stops code goes_on rest → r (x ++ rest) ≡ Some (a, rest)
