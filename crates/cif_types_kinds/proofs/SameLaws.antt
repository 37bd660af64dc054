-- Lists of literals that are numbered apart: two kinds are one where their numbers are.
use Rattle.std.proofs.Common.{◌≡◌, ℕ, zero, suc, ◌<◌, ◌≤◌, Bool, true, false, ◌&&◌, inl, inr, List, [], ◌∷◌, length, Option, Some, None, refl, sym, ap, subst, ◌∙◌, arith}
use Rattle.std.specs.Prelude.{slice_get, nat_eq, nat_lt}
use Rattle.std.specs.Cmp.Lexicographic as words
use Rattle.std.specs.Cmp.Lexicographic.{nat_list_eq_equiv}
use Rattle.std.proofs.lemmas.Bool.Decides.{nat_tests}
use Rattle.std.proofs.lemmas.Option.{slice_get_cases}
use Rattle.cif_system.specs.Words.{Member, AreDistinct}
use Rattle.cif_system.proofs.Lists.{some-same, none-some, false-true}
use Rattle.cif_system.proofs.Picks.{and-left, and-right, at-member}
use Rattle.cif_source.specs.Source.{Text}
use Rattle.cif_source.specs.Components.{same_text, same_path}
use Rattle.cif_source.specs.Kinds as rules
use Rattle.cif_source.specs.Kinds.{same_kind}
use Rattle.cif_types_kinds.specs.declared.kind.Kind.{Kind}
use Rattle.cif_types_kinds.specs.declared.kind.Kind.TheVariants as kind
use Rattle.cif_types_kinds.specs.Tables.{kind_in, kind_for, is_same_among}

-- ---- lists of names

pub names-self : (xs : List Text) → same_path xs xs ≡ true
names-self [] = refl
names-self (x ∷ xs) = ap (λ b. b && same_path xs xs) (nat_list_eq_equiv.refl x) ∙ names-self xs

pub names-told : (xs ys : List Text) → same_path xs ys ≡ true → xs ≡ ys
names-told [] [] h = refl
names-told [] (y ∷ ys) h = absurd (false-true refl h)
names-told (x ∷ xs) [] h = absurd (false-true refl h)
names-told (x ∷ xs) (y ∷ ys) h = ap (λ z. z ∷ xs) (words.same_text x y (sym (and-left (same_text x y) (same_path xs ys) h))) ∙ ap (λ zs. y ∷ zs) (names-told xs ys (and-right (same_text x y) (same_path xs ys) h))

-- ---- their numbers

pub same-place : {A : Type 0} → (xs : List A) (i j : ℕ) (x : A) → AreDistinct xs → slice_get xs i ≡ Some x → slice_get xs j ≡ Some x → i ≡ j
same-place [] i j x d e f = absurd (none-some x e)
same-place (y ∷ xs) zero zero x d e f = refl
same-place (y ∷ xs) zero (suc j) x d e f = absurd (d.0 (subst (λ z. Member z xs) (sym (some-same y x e)) (at-member xs j x f)))
same-place (y ∷ xs) (suc i) zero x d e f = absurd (d.0 (subst (λ z. Member z xs) (sym (some-same y x f)) (at-member xs i x e)))
same-place (y ∷ xs) (suc i) (suc j) x d e f = ap suc (same-place xs i j x d.1 e f)

eq-true : (i j : ℕ) → nat_eq i j ≡ true → i ≡ j
eq-true i j h = grind (arith, nat_tests)

past-false : (i n : ℕ) (b : Bool) → n ≤ i → (b && nat_lt i n) ≡ false
past-false i n b h = grind (arith, nat_tests)

within-true : (i n : ℕ) → i < n → (nat_eq i i && nat_lt i n) ≡ true
within-true i n h = grind (arith, nat_tests)

apart-false : (i j n : ℕ) → nat_eq i j ≡ false → (nat_eq i j && nat_lt i n) ≡ false
apart-false i j n h = ap (λ b. b && nat_lt i n) h

other-names : (xs ys : List Text) → (xs ≡ ys → ⊥) → same_path xs ys ≡ false
other-names xs ys h =
    (elim (same_path xs ys) as (λ b. same_path xs ys ≡ b → b ≡ false) [
      | true ↦ λ e. absurd (h (names-told xs ys e))
      | false ↦ λ e. refl
    ]) refl

numbers-same : (ls : List (List Text)) (i j : ℕ) → AreDistinct ls → (nat_eq i j && nat_lt i (length ls)) ≡ same_kind (kind_in (slice_get ls i)) (kind_in (slice_get ls j))
numbers-same ls i j d =
    elim (slice_get_cases ls i).1 [
      | inr w ↦ past-false i (length ls) (nat_eq i j) w.0 ∙ sym (ap (λ o. same_kind (kind_in o) (kind_in (slice_get ls j))) w.1)
      | inl w ↦ present w.0 w.1 w.2
    ]
  where
    both : (xs ys : List Text) → i < length ls → slice_get ls i ≡ Some xs → slice_get ls j ≡ Some ys → (nat_eq i j && nat_lt i (length ls)) ≡ same_path xs ys
    both xs ys lt e f =
        (elim (nat_eq i j) as (λ b. nat_eq i j ≡ b → (nat_eq i j && nat_lt i (length ls)) ≡ same_path xs ys) [
          | true ↦ λ h.
              let one : i ≡ j = eq-true i j h in
              let same : xs ≡ ys = some-same xs ys (sym e ∙ ap (slice_get ls) one ∙ f) in
              subst (λ k. (nat_eq i k && nat_lt i (length ls)) ≡ true) one (within-true i (length ls) lt) ∙ sym (subst (λ (zs : List Text). same_path xs zs ≡ true) same (names-self xs))
          | false ↦ λ h.
              apart-false i j (length ls) h
              ∙ sym (other-names xs ys (λ same. false-true h (subst (λ k. nat_eq i k ≡ true) (same-place ls i j xs d e (f ∙ ap Some (sym same))) (self i))))
        ]) refl
      where
        self : (k : ℕ) → nat_eq k k ≡ true
        self k = grind (arith, nat_tests)

    present : (xs : List Text) → i < length ls → slice_get ls i ≡ Some xs → (nat_eq i j && nat_lt i (length ls)) ≡ same_kind (kind_in (slice_get ls i)) (kind_in (slice_get ls j))
    present xs lt e =
        subst (λ o. (nat_eq i j && nat_lt i (length ls)) ≡ same_kind (kind_in o) (kind_in (slice_get ls j))) (sym e)
        (elim (slice_get_cases ls j).1 [
          | inr w ↦
              apart-past w.0
              ∙ sym (ap (λ o. same_kind (rules.enum_kind xs) (kind_in o)) w.1)
          | inl w ↦ both xs w.0 lt e w.2 ∙ sym (ap (λ o. same_kind (rules.enum_kind xs) (kind_in o)) w.2)
        ])
      where
        apart-past : length ls ≤ j → (nat_eq i j && nat_lt i (length ls)) ≡ false
        apart-past past = grind (arith, nat_tests, past, lt)

no-enum : (k : rules.Kind) (o : Option (List Text)) → ((xs : List Text) → same_kind k (rules.enum_kind xs) ≡ false) → same_kind k rules.no_kind ≡ false → false ≡ same_kind k (kind_in o)
no-enum k None h g = sym g
no-enum k (Some xs) h g = sym (h xs)

enum-no : (k : rules.Kind) (o : Option (List Text)) → ((xs : List Text) → same_kind (rules.enum_kind xs) k ≡ false) → same_kind rules.no_kind k ≡ false → false ≡ same_kind (kind_in o) k
enum-no k None h g = sym g
enum-no k (Some xs) h g = sym (h xs)

pub same_kinds : (ls : List (List Text)) (j k : Kind) → AreDistinct ls → is_same_among (length ls) j k ≡ same_kind (kind_for ls j) (kind_for ls k)
same_kinds ls kind.Bool kind.Bool d = refl
same_kinds ls kind.Bool kind.Int d = refl
same_kinds ls kind.Bool (kind.Enum j) d = no-enum rules.bool_kind (slice_get ls j) (λ xs. refl) refl
same_kinds ls kind.Bool kind.None d = refl
same_kinds ls kind.Int kind.Bool d = refl
same_kinds ls kind.Int kind.Int d = refl
same_kinds ls kind.Int (kind.Enum j) d = no-enum rules.int_kind (slice_get ls j) (λ xs. refl) refl
same_kinds ls kind.Int kind.None d = refl
same_kinds ls (kind.Enum i) kind.Bool d = enum-no rules.bool_kind (slice_get ls i) (λ xs. refl) refl
same_kinds ls (kind.Enum i) kind.Int d = enum-no rules.int_kind (slice_get ls i) (λ xs. refl) refl
same_kinds ls (kind.Enum i) (kind.Enum j) d = numbers-same ls i j d
same_kinds ls (kind.Enum i) kind.None d = enum-no rules.no_kind (slice_get ls i) (λ xs. refl) refl
same_kinds ls kind.None kind.Bool d = refl
same_kinds ls kind.None kind.Int d = refl
same_kinds ls kind.None (kind.Enum j) d = no-enum rules.no_kind (slice_get ls j) (λ xs. refl) refl
same_kinds ls kind.None kind.None d = refl
