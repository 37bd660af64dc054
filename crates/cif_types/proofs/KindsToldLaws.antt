-- What is told of the kinds of a table are the kinds of what a source declares.
use Rattle.std.proofs.Common.{◌≡◌, ℕ, ◌<◌, ◌≤◌, true, false, inl, inr, List, length, refl, sym, ap, subst, ◌∙◌, arith}
use Rattle.std.specs.Prelude.{slice_get, nat_lt}
use Rattle.std.proofs.lemmas.Bool.Decides.{nat_tests}
use Rattle.std.proofs.lemmas.Option.{slice_get_cases}
use Rattle.cif_system.specs.Words.{AreDistinct}
use Rattle.cif_source.specs.Source.{Text, Source}
use Rattle.cif_source.specs.Components.{Component, Entry}
use Rattle.cif_source.specs.Lookup.{reached}
use Rattle.cif_source.specs.Kinds as rules
use Rattle.cif_source.specs.Kinds.{kind_at}
use Rattle.cif_scope.specs.Tables.{IsBody}
use Rattle.cif_scope.specs.Scopes.{IsEntry}
use Rattle.cif_types_kinds.specs.declared.kind.Kind as table
use Rattle.cif_types_kinds.specs.declared.kind.Kind.TheVariants as entered
use Rattle.cif_types_kinds.specs.Tables.{kind_in, kind_for, kind_at_slot}
use Rattle.cif_types_kinds.proofs.SameLaws.{same-place}
use Rattle.cif_types_kinds.proofs.NameLaws.{slot-kind}
use Rattle.cif_types.specs.Kinds.{AreKindsOf}
use Rattle.cif_types.specs.KindsTold.{IsKind, IsOneWith, lists_of, numbered, kind_told}
use Rattle.cif_types.specs.declared.kinds.Kind.{Kind}
use Rattle.cif_types.specs.declared.kinds.Kind.TheVariants as told
use Rattle.cif_types.specs.declared.kinds.Kinds.{Kinds}

-- ---- a kind of a table

lt-true : (i n : ℕ) → i < n → nat_lt i n ≡ true
lt-true i n h = grind (arith, nat_tests)

lt-false : (i n : ℕ) → n ≤ i → nat_lt i n ≡ false
lt-false i n h = grind (arith, nat_tests)

number-told : (ls : List (List Text)) (i : ℕ) → IsKind ls (kind_in (slice_get ls i)) (numbered (nat_lt i (length ls)) i)
number-told ls i =
    elim (slice_get_cases ls i).1 [
      | inr w ↦ subst (λ o. IsKind ls (kind_in o) (numbered (nat_lt i (length ls)) i)) (sym w.1) (ap (λ b. numbered b i) (lt-false i (length ls) w.0))
      | inl w ↦ subst (λ o. IsKind ls (kind_in o) (numbered (nat_lt i (length ls)) i)) (sym w.2) (i, ap (λ b. numbered b i) (lt-true i (length ls) w.1), w.2)
    ]

kind-told : (ls : List (List Text)) (k : table.Kind) → IsKind ls (kind_for ls k) (kind_told (length ls) k)
kind-told ls entered.Bool = refl
kind-told ls entered.Int = refl
kind-told ls (entered.Enum i) = number-told ls i
kind-told ls entered.None = refl

-- ---- one kind alone

-- the kind of which it is told
abbrev meaning : List (List Text) → Kind → rules.Kind
meaning ls told.Bool = rules.bool_kind
meaning ls told.Int = rules.int_kind
meaning ls (told.Enum i) = kind_in (slice_get ls i)
meaning ls told.NoValue = rules.no_kind

means : (ls : List (List Text)) (p : rules.Kind) (k : Kind) → IsKind ls p k → meaning ls k ≡ p
means ls rules.bool_kind k h = ap (meaning ls) h
means ls rules.int_kind k h = ap (meaning ls) h
means ls (rules.enum_kind xs) k h = ap (meaning ls) h.1 ∙ ap kind_in h.2
means ls rules.no_kind k h = ap (meaning ls) h

one-told : (ls : List (List Text)) (p : rules.Kind) (k r : Kind) → AreDistinct ls → IsKind ls p k → IsKind ls p r → k ≡ r
one-told ls rules.bool_kind k r d h g = h ∙ sym g
one-told ls rules.int_kind k r d h g = h ∙ sym g
one-told ls (rules.enum_kind xs) k r d h g = h.1 ∙ ap told.Enum (same-place ls h.0 g.0 xs d h.2 g.2) ∙ sym g.1
one-told ls rules.no_kind k r d h g = h ∙ sym g

-- ---- a slot of a body

pub kind_in_slot : (ks : Kinds) (b s : ℕ) (t : Source) (c : Component) (e : Entry) → AreKindsOf t ks → IsBody t b c → IsEntry c e s
    → IsKind (lists_of ks) (kind_at (reached (c, e))) (kind_told (length ks.table.lists) (kind_at_slot ks.table b s))
kind_in_slot ks b s t c e are own at =
    subst (λ p. IsKind ks.table.lists p (kind_told (length ks.table.lists) (kind_at_slot ks.table b s))) (slot-kind t ks.table are.table b s c at.0 e own at.1) (kind-told ks.table.lists (kind_at_slot ks.table b s))

pub one_in_slot : (ks : Kinds) (b s : ℕ) (t : Source) (c : Component) (e : Entry) → AreKindsOf t ks → IsBody t b c → IsEntry c e s
    → IsOneWith (lists_of ks) (kind_at (reached (c, e))) (kind_told (length ks.table.lists) (kind_at_slot ks.table b s))
one_in_slot ks b s t c e are own at q k h =
    let p = kind_at (reached (c, e)) in
    let r = kind_told (length ks.table.lists) (kind_at_slot ks.table b s) in
    let here : IsKind ks.table.lists p r = kind_in_slot ks b s t c e are own at in (
      λ same. sym (means ks.table.lists q r (subst (IsKind ks.table.lists q) same h)) ∙ means ks.table.lists p r here,
      λ same. one-told ks.table.lists p k r are.table.distinct (subst (λ x. IsKind ks.table.lists x k) same h) here,
    )
