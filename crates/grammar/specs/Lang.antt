-- Languages of trees: which values a list of tokens may stand for.
use Rattle.std.specs.Prelude.{◌≡◌, ℕ, Bool, true, ◌||◌, ◌==◌, List, [], ◌∷◌, ◌++◌, Option, Some, None, ◌⊎◌}

abbrev pub Lang : Type 0 → Type 0 → Type 1
Lang T A = A → List T → Type 0

abbrev pub has : List ℕ → ℕ → Bool
has [] k = Bool.false
has (j ∷ ks) k = j == k || has ks k

-- one token, of one of these kinds
abbrev pub one : {T : Type 0} → (T → ℕ) → List ℕ → Lang T T
one code ks t ts = (has ks (code t) ≡ true) × (ts ≡ t ∷ [])

-- one after the other
infixr 6 ◌&◌
abbrev pub ◌&◌ : {T A B : Type 0} → Lang T A → Lang T B → Lang T (A × B)
(p & q) v ts = (x : List _) × (y : List _) × p v.0 x × q v.1 y × (ts ≡ x ++ y)

infixr 4 ◌∣◌
abbrev pub ◌∣◌ : {T A : Type 0} → Lang T A → Lang T A → Lang T A
(p ∣ q) a ts = p a ts ⊎ q a ts

infixr 5 ◌<$>◌
abbrev pub ◌<$>◌ : {T A B : Type 0} → (A → B) → Lang T A → Lang T B
(f <$> p) b ts = (a : _) × p a ts × (b ≡ f a)

-- any number, one after the other
abbrev pub many : {T A : Type 0} → Lang T A → Lang T (List A)
many p [] ts = ts ≡ []
many p (a ∷ more) ts = (x : List _) × (y : List _) × p a x × many p more y × (ts ≡ x ++ y)

-- one or more
abbrev pub some : {T A : Type 0} → Lang T A → Lang T (List A)
some p [] ts = ⊥
some p (a ∷ more) ts = many p (a ∷ more) ts

-- one of the first, and then any number of the second
abbrev pub list : {T A : Type 0} → Lang T A → Lang T A → Lang T (List A)
list p q = (λ v. v.0 ∷ v.1) <$> p & many q

abbrev pub optional : {T A : Type 0} → Lang T A → Lang T (Option A)
optional p None ts = ts ≡ []
optional p (Some a) ts = p a ts

-- a language that hands its tree on to the next
infixr 6 ◌▹◌
abbrev pub ◌▹◌ : {T A B : Type 0} → Lang T A → (A → Lang T B) → Lang T B
(p ▹ q) b ts = (a : _) × (x : List _) × (y : List _) × p a x × q a b y × (ts ≡ x ++ y)

-- the trees of a language that pass a test
abbrev pub such_that : {T A : Type 0} → (A → Bool) → Lang T A → Lang T A
such_that test p a ts = (test a ≡ true) × p a ts

-- no tree at all
abbrev pub nothing : {T A : Type 0} → Lang T A
nothing a ts = ⊥

-- lists one after the other, as one list
abbrev pub flat : {A : Type 0} → List (List A) → List A
flat [] = []
flat (x ∷ xs) = x ++ flat xs
