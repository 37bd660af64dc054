-- Languages in whose trees, where they have at most so many tokens, at most as many parts are counted as there are tokens,
-- and something holds.
use Rattle.std.proofs.Common.{◌≡◌, ◌≢◌, ℕ, ◌+◌, ◌≤◌, List, [], ◌∷◌, ◌++◌, length, Bool, Option, Some, None, IfSome, refl, sym, ap, subst, ◌∙◌, arith, inl, inr}
use Rattle.std.specs.List.{AllByRecursion, sum_by}
use Rattle.std.proofs.lemmas.List.{length-append}
use Rattle.std.proofs.lemmas.List.Sums.{sum_by-append, sum_by-cons}
use Rattle.grammar.specs.Lang.{Lang, one, ◌&◌, ◌∣◌, ◌<$>◌, many, some, list, optional, ◌▹◌, such_that, flat}
use Rattle.cif_ast.proofs.ThroughoutLemmas.{all-append}

pub record Counted {T A : Type 0} (limit : ℕ) (count : A → ℕ) (Is : A → Type 0) (p : Lang T A) : Type 0 where
  pub few : (a : A) (x : List T) → length x ≤ limit → p a x → count a ≤ length x
  pub holds : (a : A) (x : List T) → length x ≤ limit → p a x → Is a

-- at least one, and each of them
abbrev pub SomeAll : {X : Type 0} → (X → Type 0) → List X → Type 0
SomeAll P [] = ⊥
SomeAll P (x ∷ xs) = P x × AllByRecursion P xs

pub all-of_some : {X : Type 0} (P : X → Type 0) (xs : List X) → SomeAll P xs → AllByRecursion P xs
all-of_some P [] h = absurd h
all-of_some P (x ∷ xs) h = h

pub not_empty : {X : Type 0} (P : X → Type 0) (xs : List X) → SomeAll P xs → xs ≢ []
not_empty P [] h e = h
not_empty P (x ∷ xs) h e = cc

pub some_ones : {X : Type 0} (P : X → Type 0) (xs : List X) → SomeAll P xs → 1 ≤ sum_by (λ (x : X). 1) xs
some_ones P [] h = absurd h
some_ones {X = X} P (x ∷ xs) h = let c = sum_by-cons (λ (x : X). 1) x xs in omega (arith, c)

pub sum_of_ones : {X : Type 0} (xs : List X) → sum_by (λ (x : X). 1) xs ≡ length xs
sum_of_ones [] = refl
sum_of_ones {X = X} (x ∷ xs) = let c = sum_by-cons (λ (x : X). 1) x xs in let e = sum_of_ones xs in omega (arith, c, e)

abbrev pub of_some : {X : Type 0} → (X → ℕ) → Option X → ℕ
of_some count None = 0
of_some count (Some x) = count x

pub sum_by-flat : {X : Type 0} (count : X → ℕ) (xss : List (List X)) → sum_by count (flat xss) ≡ sum_by (sum_by count) xss
sum_by-flat count [] = omega arith
sum_by-flat count (xs ∷ xss) =
    let c = sum_by-cons (sum_by count) xs xss in
    let e = sum_by-append count xs (flat xss) in
    let f = sum_by-flat count xss in
    omega (arith, c, e, f)

pub all-flat : {X : Type 0} (P : X → Type 0) (xss : List (List X)) → AllByRecursion (AllByRecursion P) xss → AllByRecursion P (flat xss)
all-flat P [] h = tt
all-flat P (xs ∷ xss) h = all-append P xs (flat xss) h.0 (all-flat P xss h.1)

module _ {limit : ℕ} where
  pub one_counted : {T : Type 0} (code : T → ℕ) (ks : List ℕ) → Counted limit (λ (t : T). 1) (λ (t : T). Unit {0}) (one code ks)
  one_counted code ks = record {
    few = λ t x l d. let e : length x ≡ 1 = ap length d.1 in omega (arith, e);
    holds = λ t x l d. tt;
  }

  -- the lengths of two parts, each within the limit
  parted : {T : Type 0} (x y z : List T) → z ≡ x ++ y → length z ≤ limit → (length z ≡ length x + length y) × (length x ≤ limit) × (length y ≤ limit)
  parted x y z e l =
      let k : length z ≡ length x + length y = ap length e ∙ length-append x y in
      (k, omega (arith, k, l), omega (arith, k, l))

  pub both_counted : {T A B : Type 0} {count_p : A → ℕ} {count_q : B → ℕ} {P : A → Type 0} {Q : B → Type 0} {p : Lang T A} {q : Lang T B}
      → Counted limit count_p P p → Counted limit count_q Q q → Counted limit (λ (v : A × B). count_p v.0 + count_q v.1) (λ (v : A × B). P v.0 × Q v.1) (p & q)
  both_counted h k = record {
    few = λ v x l d.
        let short = parted d.0 d.1 x d.4 l in
        let e = short.0 in
        let first = h.few v.0 d.0 short.1 d.2 in
        let then = k.few v.1 d.1 short.2 d.3 in
        omega (arith, first, then, e);
    holds = λ v x l d. let short = parted d.0 d.1 x d.4 l in (h.holds v.0 d.0 short.1 d.2, k.holds v.1 d.1 short.2 d.3);
  }

  pub map_counted : {T A B : Type 0} {count : A → ℕ} {P : A → Type 0} {p : Lang T A} (f : A → B) (count_f : B → ℕ) (Q : B → Type 0)
      → ((a : A) → P a → count_f (f a) ≤ count a) → ((a : A) → P a → Q (f a)) → Counted limit count P p → Counted limit count_f Q (f <$> p)
  map_counted f count_f Q less makes h = record {
    few = λ b x l d.
        let m = less d.0 (h.holds d.0 x l d.1) in
        let k = h.few d.0 x l d.1 in
        let e : count_f b ≡ count_f (f d.0) = ap count_f d.2 in
        omega (arith, m, k, e);
    holds = λ b x l d. subst Q (sym d.2) (makes d.0 (h.holds d.0 x l d.1));
  }

  -- where parts aren't counted
  pub plain_map : {T A B : Type 0} {count : A → ℕ} {P : A → Type 0} {p : Lang T A} (f : A → B) (Q : B → Type 0)
      → ((a : A) → P a → Q (f a)) → Counted limit count P p → Counted limit (λ (b : B). 0) Q (f <$> p)
  plain_map f Q makes h = map_counted f (λ b. 0) Q (λ a w. omega arith) makes h

  pub either_counted : {T A : Type 0} {count : A → ℕ} {P : A → Type 0} {p q : Lang T A} → Counted limit count P p → Counted limit count P q → Counted limit count P (p ∣ q)
  either_counted h k = record {
    few = λ a x l d. elim d [ inl e ↦ h.few a x l e | inr e ↦ k.few a x l e ];
    holds = λ a x l d. elim d [ inl e ↦ h.holds a x l e | inr e ↦ k.holds a x l e ];
  }

  pub many_counted : {T A : Type 0} {count : A → ℕ} {P : A → Type 0} {p : Lang T A} → Counted limit count P p → Counted limit (sum_by count) (AllByRecursion P) (many p)
  many_counted {T = T} {A = A} {count = count} {P = P} {p = p} h = record { few = many_few; holds = many_hold }
    where
      many_few : (xs : List A) (ts : List T) → length ts ≤ limit → many p xs ts → sum_by count xs ≤ length ts
      many_few [] ts l d = omega arith
      many_few (a ∷ more) ts l d =
          let short = parted d.0 d.1 ts d.4 l in
          let e = short.0 in
          let first = h.few a d.0 short.1 d.2 in
          let then = many_few more d.1 short.2 d.3 in
          let c = sum_by-cons count a more in
          omega (arith, first, then, e, c)

      many_hold : (xs : List A) (ts : List T) → length ts ≤ limit → many p xs ts → AllByRecursion P xs
      many_hold [] ts l d = tt
      many_hold (a ∷ more) ts l d = let short = parted d.0 d.1 ts d.4 l in (h.holds a d.0 short.1 d.2, many_hold more d.1 short.2 d.3)

  pub some_counted : {T A : Type 0} {count : A → ℕ} {P : A → Type 0} {p : Lang T A} → Counted limit count P p → Counted limit (sum_by count) (AllByRecursion P) (some p)
  some_counted {T = T} {A = A} {count = count} {P = P} {p = p} h = record { few = some_few; holds = some_hold }
    where
      some_few : (xs : List A) (ts : List T) → length ts ≤ limit → some p xs ts → sum_by count xs ≤ length ts
      some_few [] ts l d = absurd d
      some_few (a ∷ more) ts l d = (many_counted h).few (a ∷ more) ts l d

      some_hold : (xs : List A) (ts : List T) → length ts ≤ limit → some p xs ts → AllByRecursion P xs
      some_hold [] ts l d = absurd d
      some_hold (a ∷ more) ts l d = (many_counted h).holds (a ∷ more) ts l d

  pub list_counted : {T A : Type 0} {count : A → ℕ} {P : A → Type 0} {p q : Lang T A}
      → Counted limit count P p → Counted limit count P q → Counted limit (sum_by count) (SomeAll P) (list p q)
  list_counted {count = count} {P = P} h k = map_counted (λ v. v.0 ∷ v.1) (sum_by count) (SomeAll P) (λ v w. let c = sum_by-cons count v.0 v.1 in omega (arith, c)) (λ v w. w) (both_counted h (many_counted k))

  pub optional_counted : {T A : Type 0} {count : A → ℕ} {P : A → Type 0} {p : Lang T A} → Counted limit count P p → Counted limit (of_some count) (λ (o : Option A). IfSome o P) (optional p)
  optional_counted {T = T} {A = A} {count = count} {P = P} {p = p} h = record { few = perhaps_few; holds = perhaps_hold }
    where
      perhaps_few : (o : Option A) (x : List T) → length x ≤ limit → optional p o x → of_some count o ≤ length x
      perhaps_few None x l d = omega arith
      perhaps_few (Some a) x l d = h.few a x l d

      perhaps_hold : (o : Option A) (x : List T) → length x ≤ limit → optional p o x → IfSome o P
      perhaps_hold None x l d = tt
      perhaps_hold (Some a) x l d = h.holds a x l d

  -- what the first language counts isn't counted
  pub then_counted : {T A B : Type 0} {count_p : A → ℕ} {count : B → ℕ} {P : A → Type 0} {Q : B → Type 0} {p : Lang T A} {q : A → Lang T B}
      → Counted limit count_p P p → ((a : A) → P a → Counted limit count Q (q a)) → Counted limit count Q (p ▹ q)
  then_counted h k = record {
    few = λ b x l d.
        let short = parted d.1 d.2 x d.5 l in
        let e = short.0 in
        let then = (k d.0 (h.holds d.0 d.1 short.1 d.3)).few b d.2 short.2 d.4 in
        omega (arith, then, e);
    holds = λ b x l d. let short = parted d.1 d.2 x d.5 l in (k d.0 (h.holds d.0 d.1 short.1 d.3)).holds b d.2 short.2 d.4;
  }

  pub such_counted : {T A : Type 0} {count : A → ℕ} {P : A → Type 0} {p : Lang T A} (test : A → Bool)
      → Counted limit count P p → Counted limit count (λ (a : A). (test a ≡ Bool.true) × P a) (such_that test p)
  such_counted test h = record { few = λ a x l d. h.few a x l d.1; holds = λ a x l d. (d.0, h.holds a x l d.1) }

  pub weaker : {T A : Type 0} {count : A → ℕ} {P : A → Type 0} {p : Lang T A} (fewer : A → ℕ) (Q : A → Type 0)
      → ((a : A) → P a → fewer a ≤ count a) → ((a : A) → P a → Q a) → Counted limit count P p → Counted limit fewer Q p
  weaker fewer Q less is h = record {
    few = λ a x l d. let m = less a (h.holds a x l d) in let k = h.few a x l d in omega (arith, m, k);
    holds = λ a x l d. is a (h.holds a x l d);
  }

  -- what is counted is within the limit
  pub limited : {T A : Type 0} {count : A → ℕ} {P : A → Type 0} {p : Lang T A} → Counted limit count P p → Counted limit count (λ (a : A). P a × (count a ≤ limit)) p
  limited h = record { few = h.few; holds = λ a x l d. let k = h.few a x l d in (h.holds a x l d, omega (arith, k, l)) }

  -- ---- lists of lists

  pub flat_counted : {T A : Type 0} (count : A → ℕ) (P : A → Type 0) {p : Lang T (List (List A))}
      → Counted limit (sum_by (sum_by count)) (AllByRecursion (AllByRecursion P)) p → Counted limit (sum_by count) (AllByRecursion P) (flat <$> p)
  flat_counted count P h = map_counted flat (sum_by count) (AllByRecursion P) (λ xss w. let e = sum_by-flat count xss in omega (arith, e)) (all-flat P) h
