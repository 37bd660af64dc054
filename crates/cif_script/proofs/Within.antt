-- What is told of ascending numbers that are all that changed.
use Rattle.std.proofs.Common.{◌≡◌, inl, inr, ℕ, zero, suc, ◌+◌, ◌≤◌, ◌<◌, Bool, true, false, List, [], ◌∷◌, ◌++◌, length, map, drop, Option, Some, None, refl, sym, ap, subst, ◌∙◌, arith}
use Rattle.std.specs.Prelude.{codes, flat_map, option_map, slice_get, if◌then◌else◌}
use Rattle.std.specs.List.{Contains}
use Rattle.std.proofs.lemmas.Bool.{cases_lt}
use Rattle.std.proofs.lemmas.List.{append-nil, drop_all}
use Rattle.std.proofs.lemmas.Option.{slice_get_past}
use Rattle.grammar.specs.Pieces.{Text}
use Rattle.cif_script.specs.Changes.{change_at, change_named, change_of}
use Rattle.cif_script.specs.Touches.{Ascend, SameBut}
use Rattle.cif_script.proofs.Listing.{changes, changes_end, changes_from, changes_next, named_at}

-- ---- numbers that ascend

nowhere : (j : ℕ) → Contains [] j → ⊥
nowhere j h = let l = h.1 in absurd (omega (arith, l))

above : (from : ℕ) (ks : List ℕ) (k : ℕ) → Ascend from ks → Contains ks k → from ≤ k
above from [] k a h = absurd (nowhere k h)
above from (x ∷ xs) k a (zero, l, e) = let first = a.0 in omega (arith, first, e)
above from (x ∷ xs) k a (suc i, l, e) = let first = a.0 in let rest = above (suc x) xs k a.1 (i, omega (arith, l), e) in omega (arith, first, rest)

in-tail : (k : ℕ) (ks : List ℕ) (i : ℕ) → (k ≡ i → ⊥) → Contains (k ∷ ks) i → Contains ks i
in-tail k ks i h (zero, l, e) = absurd (h e)
in-tail k ks i h (suc n, l, e) = (n, omega (arith, l), e)

-- ---- what is told

module _ {N A : Type 0} (same : A → A → Bool) (alike : (a : A) → same a a ≡ true) (tell : N × A → Text) where
  -- where old and new are the same, nothing is told
  no_change : (o : Option N) (a b : Option A) → a ≡ b → change_named same tell o a b ≡ []
  no_change o a b h = ap (change_named same tell o a) (sym h) ∙ by o a
    where
      by : (o : Option N) (a : Option A) → change_named same tell o a a ≡ []
      by None a = refl
      by (Some n) None = refl
      by (Some n) (Some a) = ap (λ t. if t then [] else codes " " ++ tell (n, a)) (alike a)

  module _ (ns : List N) (olds news : List A) where
    abbrev told_of : ℕ → Text
    told_of k = change_at same tell ns olds news k

    -- of numbers behind the names nothing is told
    none_past : (ks : List ℕ) (from : ℕ) → length ns ≤ from → Ascend from ks → flat_map told_of ks ≡ []
    none_past [] from l a = refl
    none_past (k ∷ ks) from l a =
        let first = a.0 in
        ap (λ o. change_named same tell o (slice_get olds k) (slice_get news k) ++ flat_map told_of ks) (slice_get_past ns k (omega (arith, l, first)))
        ∙ none_past ks (suc k) (omega (arith, l, first)) a.1

    same_here : (j : ℕ) → slice_get olds j ≡ slice_get news j → changes_from same tell ns olds news j ≡ changes_from same tell ns olds news (suc j)
    same_here j h =
        changes_next same tell ns olds news j
        ∙ ap (λ t. t ++ changes_from same tell ns olds news (suc j)) (no_change (slice_get ns j) (slice_get olds j) (slice_get news j) h)

    -- from number j on, where all that changed is among ks
    covered : (fuel j : ℕ) (ks : List ℕ) → length ns ≤ j + fuel → Ascend j ks → ((k : ℕ) → j ≤ k → (Contains ks k → ⊥) → slice_get olds k ≡ slice_get news k)
        → changes_from same tell ns olds news j ≡ flat_map told_of ks
    covered zero j ks l a h = changes_end same tell ns olds news j (omega (arith, l)) ∙ sym (none_past ks j (omega (arith, l)) a)
    covered (suc fuel) j [] l a h =
        same_here j (h j (omega arith) (λ c. nowhere j c))
        ∙ covered fuel (suc j) [] (omega (arith, l)) tt (λ k m c. h k (omega (arith, m)) c)
    covered (suc fuel) j (k ∷ ks) l a h =
        let first = a.0 in
        elim (cases_lt j k) [
          | inl less ↦
              same_here j (h j (omega arith) (λ c. let up : k ≤ j = above k (k ∷ ks) j (omega arith, a.1) c in absurd (omega (arith, up, less))))
              ∙ covered fuel (suc j) (k ∷ ks) (omega (arith, l)) (omega (arith, less), a.1) (λ i m c. h i (omega (arith, m)) c)
          | inr more ↦
              let is : j ≡ k = omega (arith, more, first) in
              changes_next same tell ns olds news j
              ∙ ap (λ i. told_of i ++ changes_from same tell ns olds news (suc j)) is
              ∙ ap (λ t. told_of k ++ t)
              (covered fuel (suc j) ks (omega (arith, l)) (subst (λ i. Ascend (suc i) ks) (sym is) a.1)
              (λ i m c. h i (omega (arith, m)) (λ d. c (in-tail k ks i (λ e. absurd (omega (arith, e, m, is))) d))))
        ]

    pub all_covered : (ks : List ℕ) → Ascend 0 ks → SameBut ks olds news → flat_map told_of ks ≡ changes same tell ns olds news
    all_covered ks a h = sym (covered (length ns) 0 ks (omega arith) a (λ k m c. h k c))

    -- what was told of them, at the end
    pub all_told : (ks : List ℕ) (n : ℕ) (into old : Text) → length ks ≤ n → Ascend 0 ks → SameBut ks olds news → into ++ flat_map told_of (drop n ks) ≡ old ++ flat_map told_of ks
        → into ≡ old ++ changes same tell ns olds news
    all_told ks n into old end a s h =
        sym (append-nil into) ∙ ap (λ js. into ++ flat_map told_of js) (sym (drop_all n ks end)) ∙ h ∙ ap (λ t. old ++ t) (all_covered ks a s)

-- ---- one of them

module _ {L M N A : Type 0} (f : L → M) (g : M → N) (same : A → A → Bool) (tell : N × A → Text) (xs : List L) (olds news : List A) (k : ℕ) where
  abbrev named : Option L → Text
  named o = change_named same tell (option_map (λ x. g (f x)) o) (slice_get olds k) (slice_get news k)

  read : named (slice_get xs k) ≡ change_at same tell (map g (map f xs)) olds news k
  read = ap (λ o. change_named same tell o (slice_get olds k) (slice_get news k)) (sym (named_at f g xs k))

  pub told_one : (x : L) (a b : Option A) → Some x ≡ slice_get xs k → a ≡ slice_get olds k → b ≡ slice_get news k
      → change_of same tell (g (f x)) a b ≡ change_at same tell (map g (map f xs)) olds news k
  told_one x a b at old new = (λ i. change_of same tell (g (f x)) (old i) (new i)) ∙ ap named at ∙ read

  pub told_none : None ≡ slice_get xs k → [] ≡ change_at same tell (map g (map f xs)) olds news k
  told_none at = ap named at ∙ read
