-- The first fault is due, and where there is none the names fit.
use Rattle.std.proofs.Common.{◌≡◌, ℕ, Bool, true, false, ◌⊎◌, inl, inr, refl, sym, ap, subst, ◌∙◌, Option, Some, None}
use Rattle.std.specs.Prelude.{IsTrue, Result, Ok, Err, IfOk, slice_get}
use Rattle.std.specs.List.{Any}
use Rattle.cif_system.proofs.Lists.{false-true}
use Rattle.cif_source.specs.Source.{InstanceTree, Source}
use Rattle.cif_source.specs.Components.{Component}
use Rattle.cif_source.specs.Lookup.{definition_found}
use Rattle.cif_source.specs.Objects.{bodies}
use Rattle.cif_source.specs.Uses.{Use, uses, sought, is_asked, OwnName, own_ident, own_names, own_sought, is_own_asked}
use Rattle.cif_source.specs.Scoping.{is_missing, is_wrong, instances_of, has_wrong_count, UnknownName, UnknownOwn, UnknownDue, WrongName, WrongOwn, WrongCount, WrongKindDue}
use Rattle.cif_scope.specs.declared.error.ScopeErr.{ScopeErr}
use Rattle.cif_scope.specs.declared.error.ScopeErr.TheVariants.{Unknown, WrongKind}
use Rattle.cif_scope.proofs.IndexLaws.{any-of, of-any}
use Rattle.cif_resolve.specs.Tests.{fault_of, or_later, first_some}
use Rattle.cif_resolve.specs.Faults.{use_told, own_told, count_told, names_told, ScopeDue, KeepsNames}
use Rattle.cif_resolve.proofs.FirstLaws.{later-told, later-none, first-told, first-none, fault-told, fault-none}

not-true : (b : Bool) → b ≡ false → IsTrue b → ⊥
not-true b h i = false-true h i

module _ (t : Source) (k : ℕ) (c : Component) (here : slice_get (bodies t) k ≡ Some c) where
  -- ---- what is told

  unknown-name : (at : ℕ) → UnknownName c at → UnknownDue t at
  unknown-name at u = any-of (λ d. UnknownName d at ⊎ UnknownOwn d at) (bodies t) k c here (inl u)

  unknown-own : (at : ℕ) → UnknownOwn c at → UnknownDue t at
  unknown-own at u = any-of (λ d. UnknownName d at ⊎ UnknownOwn d at) (bodies t) k c here (inr u)

  abbrev Wrong : ℕ → Component → Type 0
  Wrong at d = WrongName d at ⊎ WrongOwn d at ⊎ WrongCount d at

  wrong-name : (at : ℕ) → WrongName c at → WrongKindDue t at
  wrong-name at u = any-of (Wrong at) (bodies t) k c here (inl u)

  wrong-own : (at : ℕ) → WrongOwn c at → WrongKindDue t at
  wrong-own at u = any-of (Wrong at) (bodies t) k c here (inr (inl u))

  wrong-count : (at : ℕ) → WrongCount c at → WrongKindDue t at
  wrong-count at u = any-of (Wrong at) (bodies t) k c here (inr (inr u))

  use-due : (e : ScopeErr) → first_some (use_told c) (uses c) ≡ Some e → ScopeDue t e
  use-due e h =
      let w = first-told (use_told c) (uses c) e h in
      elim (fault-told w.1.name.at (is_missing (sought c w.1)) (is_wrong (is_asked w.1.asks) (sought c w.1)) e w.3) [
        | inl g ↦ subst (λ d. ScopeDue t d) g.0 (unknown-name w.1.name.at (any-of (λ (u : Use). (u.name.at ≡ w.1.name.at) × IsTrue (is_missing (sought c u))) (uses c) w.0 w.1 w.2 (refl, g.1)))
        | inr g ↦ subst (λ d. ScopeDue t d) g.0
            (wrong-name w.1.name.at (any-of (λ (u : Use). (u.name.at ≡ w.1.name.at) × IsTrue (is_wrong (is_asked u.asks) (sought c u))) (uses c) w.0 w.1 w.2 (refl, g.1)))
      ]

  own-due : (e : ScopeErr) → first_some (own_told c) (own_names c) ≡ Some e → ScopeDue t e
  own-due e h =
      let w = first-told (own_told c) (own_names c) e h in
      elim (fault-told (own_ident w.1).at (is_missing (own_sought c w.1)) (is_wrong (is_own_asked w.1) (own_sought c w.1)) e w.3) [
        | inl g ↦ subst (λ d. ScopeDue t d) g.0
            (unknown-own (own_ident w.1).at (any-of (λ (n : OwnName). ((own_ident n).at ≡ (own_ident w.1).at) × IsTrue (is_missing (own_sought c n))) (own_names c) w.0 w.1 w.2 (refl, g.1)))
        | inr g ↦ subst (λ d. ScopeDue t d) g.0
            (wrong-own (own_ident w.1).at (any-of (λ (n : OwnName). ((own_ident n).at ≡ (own_ident w.1).at) × IsTrue (is_wrong (is_own_asked n) (own_sought c n))) (own_names c) w.0 w.1 w.2 (refl, g.1)))
      ]

  count-due : (e : ScopeErr) → first_some (count_told c) (instances_of c) ≡ Some e → ScopeDue t e
  count-due e h =
      let w = first-told (count_told c) (instances_of c) e h in
      elim (fault-told w.1.name.at false (has_wrong_count w.1 (definition_found c w.1)) e w.3) [
        | inl g ↦ absurd (false-true refl g.1)
        | inr g ↦ subst (λ d. ScopeDue t d) g.0
            (wrong-count w.1.name.at (any-of (λ (i : InstanceTree). (i.name.at ≡ w.1.name.at) × IsTrue (has_wrong_count i (definition_found c i))) (instances_of c) w.0 w.1 w.2 (refl, g.1)))
      ]

  body-due : (e : ScopeErr) → names_told c ≡ Some e → ScopeDue t e
  body-due e h =
      elim (later-told (first_some (use_told c) (uses c)) (or_later (first_some (own_told c) (own_names c)) (first_some (count_told c) (instances_of c))) e h) [
        | inl g ↦ use-due e g
        | inr g ↦ elim (later-told (first_some (own_told c) (own_names c)) (first_some (count_told c) (instances_of c)) e g) [ inl f ↦ own-due e f | inr f ↦ count-due e f ]
      ]

-- ---- where nothing is told

module _ (c : Component) (none : names_told c ≡ None) where
  abbrev by_own : Option ScopeErr
  by_own = first_some (own_told c) (own_names c)

  abbrev by_count : Option ScopeErr
  by_count = first_some (count_told c) (instances_of c)

  use-none : first_some (use_told c) (uses c) ≡ None
  use-none = (later-none (first_some (use_told c) (uses c)) (or_later by_own by_count) none).0

  rest-none : (by_own ≡ None) × (by_count ≡ None)
  rest-none = later-none by_own by_count (later-none (first_some (use_told c) (uses c)) (or_later by_own by_count) none).1

  use-fits : (j : ℕ) (u : Use) → slice_get (uses c) j ≡ Some u → (is_missing (sought c u) ≡ false) × (is_wrong (is_asked u.asks) (sought c u) ≡ false)
  use-fits j u g = fault-none u.name.at (is_missing (sought c u)) (is_wrong (is_asked u.asks) (sought c u)) (first-none (use_told c) (uses c) use-none j u g)

  own-name-fits : (j : ℕ) (n : OwnName) → slice_get (own_names c) j ≡ Some n → (is_missing (own_sought c n) ≡ false) × (is_wrong (is_own_asked n) (own_sought c n) ≡ false)
  own-name-fits j n g = fault-none (own_ident n).at (is_missing (own_sought c n)) (is_wrong (is_own_asked n) (own_sought c n)) (first-none (own_told c) (own_names c) rest-none.0 j n g)

  no-unknown-name : (at : ℕ) → UnknownName c at → ⊥
  no-unknown-name at h = let w = of-any (λ (u : Use). (u.name.at ≡ at) × IsTrue (is_missing (sought c u))) (uses c) h in not-true (is_missing (sought c w.1)) (use-fits w.0 w.1 w.2).0 w.3.1

  no-unknown-own : (at : ℕ) → UnknownOwn c at → ⊥
  no-unknown-own at h = let w = of-any (λ (n : OwnName). ((own_ident n).at ≡ at) × IsTrue (is_missing (own_sought c n))) (own_names c) h in not-true (is_missing (own_sought c w.1)) (own-name-fits w.0 w.1 w.2).0 w.3.1

  no-wrong-name : (at : ℕ) → WrongName c at → ⊥
  no-wrong-name at h =
      let w = of-any (λ (u : Use). (u.name.at ≡ at) × IsTrue (is_wrong (is_asked u.asks) (sought c u))) (uses c) h in
      not-true (is_wrong (is_asked w.1.asks) (sought c w.1)) (use-fits w.0 w.1 w.2).1 w.3.1

  no-wrong-own : (at : ℕ) → WrongOwn c at → ⊥
  no-wrong-own at h =
      let w = of-any (λ (n : OwnName). ((own_ident n).at ≡ at) × IsTrue (is_wrong (is_own_asked n) (own_sought c n))) (own_names c) h in
      not-true (is_wrong (is_own_asked w.1) (own_sought c w.1)) (own-name-fits w.0 w.1 w.2).1 w.3.1

  no-wrong-count : (at : ℕ) → WrongCount c at → ⊥
  no-wrong-count at h =
      let w = of-any (λ (i : InstanceTree). (i.name.at ≡ at) × IsTrue (has_wrong_count i (definition_found c i))) (instances_of c) h in
      not-true (has_wrong_count w.1 (definition_found c w.1)) (fault-none w.1.name.at false (has_wrong_count w.1 (definition_found c w.1)) (first-none (count_told c) (instances_of c) rest-none.1 w.0 w.1 w.2)).1 w.3.1

-- ---- all bodies

module _ (t : Source) where
  pub told-due : (e : ScopeErr) → first_some names_told (bodies t) ≡ Some e → ScopeDue t e
  told-due e h = let w = first-told names_told (bodies t) e h in body-due t w.0 w.1 w.2 e w.3

  pub none-fit : first_some names_told (bodies t) ≡ None → KeepsNames t
  none-fit h = record {
    known = λ at due.
        let w = of-any (λ c. UnknownName c at ⊎ UnknownOwn c at) (bodies t) due in
        let none : names_told w.1 ≡ None = first-none names_told (bodies t) h w.0 w.1 w.2 in
        elim w.3 [ inl g ↦ no-unknown-name w.1 none at g | inr g ↦ no-unknown-own w.1 none at g ];
    fitting = λ at due.
        let w = of-any (λ c. WrongName c at ⊎ WrongOwn c at ⊎ WrongCount c at) (bodies t) due in
        let none : names_told w.1 ≡ None = first-none names_told (bodies t) h w.0 w.1 w.2 in
        elim w.3 [ inl g ↦ no-wrong-name w.1 none at g | inr g ↦ elim g [ inl f ↦ no-wrong-own w.1 none at f | inr f ↦ no-wrong-count w.1 none at f ] ];
  }
