-- Lists of literals by their keys, and the kinds of enumerations by the numbers of their lists.
use Rattle.std.proofs.Common.{◌≡◌, ℕ, suc, Bool, true, false, cond, inl, inr, List, [], ◌∷◌, ◌++◌, map, length, refl, sym, ap, subst, ◌∙◌, arith, Option, Some, None}
use Rattle.std.specs.Prelude.{slice_get, option_map, unwrap_or, Result, Ok, Err, IfOk, OnOk}
use Rattle.std.specs.Cmp.Lexicographic.{nat_list_eq_equiv}
use Rattle.std.proofs.lemmas.List.{map-append}
use Rattle.cif_system.specs.Words.{Member, AreDistinct}
use Rattle.cif_system.proofs.Lists.{some-same, none-some, false-true, slice_get-below}
use Rattle.cif_order.proofs.Lists.{distinct-push}
use Rattle.cif_source.specs.Source.{Text}
use Rattle.cif_source.specs.Components.{same_text, same_path}
use Rattle.cif_source.specs.Kinds.{enum_of}
use Rattle.cif_scope.specs.Places.{slot_in}
use Rattle.cif_scope.specs.Tables.{Beside}
use Rattle.cif_scope.proofs.LookLaws.{same-text}
use Rattle.cif_resolve_cycles.proofs.NumberLaws.{get-front, get-pushed}
use Rattle.cif_types_kinds.specs.declared.kind.Kind.{Kind}
use Rattle.cif_types_kinds.specs.Tables.{kind_in, kind_for}
use Rattle.cif_types_kinds.proofs.SameLaws.{names-self, names-told}
use Rattle.cif_types_table.specs.declared.layout.NamedType.{NamedType}
use Rattle.cif_types_table.specs.declared.layout.NamedType.TheVariants as named
use Rattle.cif_types_table.specs.Lists.{texts_of, place_in, list_number, with_list, lists_after, listed_kinds, marked, key_of}

-- ---- keys

heads : (a b : ℕ) (xs ys : Text) → a ∷ xs ≡ b ∷ ys → a ≡ b
heads a b xs ys h = cc

tails : (a b : ℕ) (xs ys : Text) → a ∷ xs ≡ b ∷ ys → xs ≡ ys
tails a b xs ys h = cc

differ : (a : ℕ) → a ≡ 0 → a ≡ 1 → ⊥
differ a h g = omega arith

apart : (xs ys : Text) → 0 ∷ xs ≡ 1 ∷ ys → ⊥
apart xs ys h = differ 0 refl (heads 0 1 xs ys h)

marked-same : (x y r q : Text) → marked x ++ r ≡ marked y ++ q → (x ≡ y) × (r ≡ q)
marked-same [] [] r q h = (refl, tails 0 0 r q h)
marked-same [] (b ∷ y) r q h = absurd (apart r (b ∷ (marked y ++ q)) h)
marked-same (a ∷ x) [] r q h = absurd (apart q (a ∷ (marked x ++ r)) (sym h))
marked-same (a ∷ x) (b ∷ y) r q h =
    let rest : a ∷ (marked x ++ r) ≡ b ∷ (marked y ++ q) = tails 1 1 (a ∷ (marked x ++ r)) (b ∷ (marked y ++ q)) h in
    let w = marked-same x y r q (tails a b (marked x ++ r) (marked y ++ q) rest) in
    (ap (λ c. c ∷ x) (heads a b (marked x ++ r) (marked y ++ q) rest) ∙ ap (λ z. b ∷ z) w.0, w.1)

marked-some : (y r : Text) → [] ≡ marked y ++ r → ⊥
marked-some [] r h = cc
marked-some (b ∷ y) r h = cc

key-same : (xs ys : List Text) → key_of xs ≡ key_of ys → xs ≡ ys
key-same [] [] h = refl
key-same [] (y ∷ ys) h = absurd (marked-some y (key_of ys) h)
key-same (x ∷ xs) [] h = absurd (marked-some x (key_of xs) (sym h))
key-same (x ∷ xs) (y ∷ ys) h =
    let w = marked-same x y (key_of xs) (key_of ys) h in
    ap (λ z. z ∷ xs) w.0 ∙ ap (λ zs. y ∷ zs) (key-same xs ys w.1)

not-true : (b : Bool) → (b ≡ true → ⊥) → b ≡ false
not-true true h = absurd (h refl)
not-true false h = refl

same-keys : (ys xs : List Text) → same_text (key_of ys) (key_of xs) ≡ same_path ys xs
same-keys ys xs =
    (elim (same_path ys xs) as (λ b. same_path ys xs ≡ b → same_text (key_of ys) (key_of xs) ≡ b) [
      | true ↦ λ e. subst (λ zs. same_text (key_of ys) (key_of zs) ≡ true) (names-told ys xs e) (nat_list_eq_equiv.refl (key_of ys))
      | false ↦ λ e. not-true (same_text (key_of ys) (key_of xs)) (λ h.
          false-true e (subst (λ zs. same_path ys zs ≡ true) (key-same ys xs (same-text (key_of ys) (key_of xs) h)) (names-self ys)))
    ]) refl

pub place-key : (lists : List (List Text)) (xs : List Text) → slot_in (map key_of lists) (key_of xs) ≡ place_in lists xs
place-key [] xs = refl
place-key (ys ∷ lists) xs =
    ap (λ b. cond b (Some 0) (option_map suc (slot_in (map key_of lists) (key_of xs)))) (same-keys ys xs)
    ∙ ap (λ o. cond (same_path ys xs) (Some 0) (option_map suc o)) (place-key lists xs)

-- ---- one more list

abbrev with_at : List (List Text) → List Text → Option ℕ → List (List Text)
with_at lists xs o = elim o [ None ↦ lists ++ xs ∷ [] | Some k ↦ lists ]

module _ (lists : List (List Text)) (xs : List Text) (keys : List Text) (key : Text) (are : keys ≡ map key_of lists) (is : key ≡ key_of xs) where
  placed : slot_in keys key ≡ place_in lists xs
  placed = ap (λ ks. slot_in ks key) are ∙ ap (slot_in (map key_of lists)) is ∙ place-key lists xs

  pub found-list : (k : ℕ) → slot_in keys key ≡ Some k → (with_list lists xs ≡ lists) × (list_number lists xs ≡ k)
  found-list k h =
      let at : place_in lists xs ≡ Some k = sym placed ∙ h in
      (ap (with_at lists xs) at, ap (λ o. unwrap_or o (length lists)) at)

  pub new-list : slot_in keys key ≡ None → (with_list lists xs ≡ lists ++ xs ∷ []) × (list_number lists xs ≡ length lists)
  new-list h =
      let at : place_in lists xs ≡ None = sym placed ∙ h in
      (ap (with_at lists xs) at, ap (λ o. unwrap_or o (length lists)) at)

  pub new-keys : keys ++ key ∷ [] ≡ map key_of (lists ++ xs ∷ [])
  new-keys = ap (λ ks. ks ++ key ∷ []) are ∙ ap (λ k. map key_of lists ++ k ∷ []) is ∙ sym (map-append key_of lists (xs ∷ []))

-- ---- answers

pub on-ok : {A E : Type 0} (r : Result A E) (P : Type 0) → P → OnOk r P
on-ok (Ok x) P p = p
on-ok (Err e) P p = tt

pub number-moved : {E : Type 0} (r : Result ℕ E) (k m : ℕ) → IfOk r (λ n. n ≡ k) → k ≡ m → IfOk r (λ n. n ≡ m)
number-moved (Ok n) k m h e = h ∙ e
number-moved (Err x) k m h e = tt

-- ---- no two lists are equal

one-more : (o : Option ℕ) (k : ℕ) → option_map suc o ≡ Some k → (j : ℕ) × (o ≡ Some j) × (k ≡ suc j)
one-more None k h = absurd (none-some k h)
one-more (Some j) k h = (j, refl, sym (some-same (suc j) k h))

none-more : (o : Option ℕ) → option_map suc o ≡ None → o ≡ None
none-more None h = refl
none-more (Some j) h = absurd (none-some (suc j) (sym h))

place-holds : (lists : List (List Text)) (xs : List Text) (k : ℕ) → place_in lists xs ≡ Some k → slice_get lists k ≡ Some xs
place-holds [] xs k h = absurd (none-some k h)
place-holds (ys ∷ lists) xs k h =
    (elim (same_path ys xs) as (λ b. same_path ys xs ≡ b → cond b (Some 0) (option_map suc (place_in lists xs)) ≡ Some k → slice_get (ys ∷ lists) k ≡ Some xs) [
      | true ↦ λ e g. subst (λ j. slice_get (ys ∷ lists) j ≡ Some xs) (some-same 0 k g) (ap Some (names-told ys xs e))
      | false ↦ λ e g.
          let w = one-more (place_in lists xs) k g in
          subst (λ j. slice_get (ys ∷ lists) j ≡ Some xs) (sym w.2) (place-holds lists xs w.0 w.1)
    ]) refl h

place-absent : (lists : List (List Text)) (xs : List Text) → place_in lists xs ≡ None → Member xs lists → ⊥
place-absent [] xs h m = m
place-absent (ys ∷ lists) xs h m =
    (elim (same_path ys xs) as (λ b. same_path ys xs ≡ b → cond b (Some 0) (option_map suc (place_in lists xs)) ≡ None → ⊥) [
      | true ↦ λ e g. none-some 0 (sym g)
      | false ↦ λ e g.
          elim m [
            | inl w ↦ false-true e (subst (λ zs. same_path ys zs ≡ true) (sym w) (names-self ys))
            | inr w ↦ place-absent lists xs (none-more (place_in lists xs) g) w
          ]
    ]) refl h

with-distinct : (lists : List (List Text)) (xs : List Text) → AreDistinct lists → AreDistinct (with_list lists xs)
with-distinct lists xs d =
    (elim (place_in lists xs) as (λ o. place_in lists xs ≡ o → AreDistinct (with_at lists xs o)) [
      | None ↦ λ e. distinct-push xs lists d (place-absent lists xs e)
      | Some k ↦ λ e. d
    ]) refl

pub lists-distinct : (types : List NamedType) (lists : List (List Text)) → AreDistinct lists → AreDistinct (lists_after lists types)
lists-distinct [] lists d = d
lists-distinct (named.Synonym k ty ∷ types) lists d = lists-distinct types lists d
lists-distinct (named.Enumeration ls ∷ types) lists d = lists-distinct types (with_list lists (texts_of ls.now)) (with-distinct lists (texts_of ls.now) d)

-- ---- numbers stay

with-keeps : (lists : List (List Text)) (xs ys : List Text) (n : ℕ) → slice_get lists n ≡ Some ys → slice_get (with_list lists xs) n ≡ Some ys
with-keeps lists xs ys n h =
    elim (place_in lists xs) as (λ o. slice_get (with_at lists xs o) n ≡ Some ys) [
      | None ↦ get-front lists (xs ∷ []) n (slice_get-below lists n ys h) ∙ h
      | Some k ↦ h
    ]

with-number : (lists : List (List Text)) (xs : List Text) → slice_get (with_list lists xs) (list_number lists xs) ≡ Some xs
with-number lists xs =
    (elim (place_in lists xs) as (λ o. place_in lists xs ≡ o → slice_get (with_at lists xs o) (unwrap_or o (length lists)) ≡ Some xs) [
      | None ↦ λ e. get-pushed lists xs (length lists) refl
      | Some k ↦ λ e. place-holds lists xs k e
    ]) refl

lists-keep : (types : List NamedType) (lists : List (List Text)) (ys : List Text) (n : ℕ) → slice_get lists n ≡ Some ys → slice_get (lists_after lists types) n ≡ Some ys
lists-keep [] lists ys n h = h
lists-keep (named.Synonym k ty ∷ types) lists ys n h = lists-keep types lists ys n h
lists-keep (named.Enumeration ls ∷ types) lists ys n h = lists-keep types (with_list lists (texts_of ls.now)) ys n (with-keeps lists (texts_of ls.now) ys n h)

-- ---- the kinds of enumerations

abbrev pub IsListed : List (List Text) → NamedType → Kind → Type 0
IsListed lists (named.Synonym k ty) j = Unit {0}
IsListed lists (named.Enumeration ls) j = kind_for lists j ≡ enum_of ls.now

pub kinds-listed : (types : List NamedType) (lists : List (List Text)) → Beside (IsListed (lists_after lists types)) types (listed_kinds lists types)
kinds-listed [] lists = tt
kinds-listed (named.Synonym k ty ∷ types) lists = (tt, kinds-listed types lists)
kinds-listed (named.Enumeration ls ∷ types) lists =
    let xs : List Text = texts_of ls.now in (
      ap kind_in (lists-keep types (with_list lists xs) xs (list_number lists xs) (with-number lists xs)),
      kinds-listed types (with_list lists xs),
    )
