-- A declaration stands at its number among those of its sort.
use Rattle.std.proofs.Common.{◌≡◌, ℕ, suc, ◌+◌, ◌≤◌, Bool, true, false, cond, List, [], ◌∷◌, length, Some, refl, sym, ◌∙◌, ap, subst, arith}
use Rattle.std.specs.Prelude.{◌&&◌, ◌||◌, not, slice_get}
use Rattle.std.specs.List.{list_any, position_or_len}
use Rattle.std.specs.Cmp.Lexicographic.{pointwise}
use Rattle.std.proofs.lemmas.Cmp.{nat_list_eq_equiv}
use Rattle.cif_system.specs.Words.{Member}
use Rattle.cif_system.proofs.Lists.{false-true, filter-member, filter-within}
use Rattle.cif_system.proofs.Picks.{and-left, and-right, at-member}
use Rattle.cif_source.specs.Source.{Text, DeclTree, Source}
use Rattle.cif_source.specs.Components.{Component, body_of, params_of, path_of, same_text, param_entries, body_entries}
use Rattle.cif_source.specs.Objects.{components_of, most_objects, decls_of, Declared, declarations, of_sort, is_declared, declares, number_in}
use Rattle.cif_source.specs.Scoping.{DuplicateDue}
use Rattle.cif_inst_model.proofs.KeptLaws.{has_twice, member-passes}
use Rattle.cif_inst_model.proofs.PathLaws.{names, names-append, not-twice-right, path-told}
use Rattle.cif_inst_model.proofs.FoundLaws.{declaration-listed}
use Rattle.cif_inst_model.proofs.RuleLaws.{declaration-cases}
use Rattle.cif_inst_model.proofs.DistinctLaws.{ScopesAreSingle, paths-differ, declared-once}
use Rattle.cif_inst_model.proofs.SingleLaws.{scopes-single}

-- what stands at the first place that passes
position-found : {A : Type 0} (p : A → Bool) (xs : List A) → list_any p xs ≡ true → (y : A) × (slice_get xs (position_or_len p xs) ≡ Some y) × (p y ≡ true)
position-found {A = A} p [] h = absurd (false-true refl h)
position-found {A = A} p (x ∷ xs) h =
    (elim (p x) as (λ b. p x ≡ b → (b || list_any p xs) ≡ true → (y : A) × (slice_get (x ∷ xs) (cond (not b) (1 + position_or_len p xs) 0) ≡ Some y) × (p y ≡ true)) [
      | true ↦ λ e g. (x, refl, e)
      | false ↦ λ e g.
          let rest = position-found p xs g in
          (rest.0, ap (slice_get (x ∷ xs)) (let e : 1 + position_or_len p xs ≡ suc (position_or_len p xs) = omega arith in e) ∙ rest.1, rest.2)
    ]) refl h

path-self : (p : List Text) → pointwise same_text p p ≡ true
path-self [] = refl
path-self (x ∷ p) = ap (λ b. b && pointwise same_text p p) (nat_list_eq_equiv.refl x) ∙ path-self p

-- what declares a name is declared under it
pub declared-as : (c : Component) (d : DeclTree) (x : Text) → declares x d ≡ true → is_declared c x (c, d) ≡ true
declared-as c d x h = ap (λ b. b && pointwise same_text (path_of c) (path_of c)) h ∙ path-self (path_of c)

abbrev SameDeclared : Declared → Declared → Type 0
SameDeclared d e = d ≡ e

module _ (t : Source) (few : length (components_of t) ≤ most_objects) (single : (at first : ℕ) → DuplicateDue t at first → ⊥) where
  scopes : ScopesAreSingle t
  scopes = scopes-single t few single

  body-single : (c : Component) → Member c (components_of t) → has_twice (names (body_entries (body_of c))) ≡ false
  body-single c m =
      not-twice-right (names (param_entries (params_of c))) (names (body_entries (body_of c)))
      (ap has_twice (sym (names-append (param_entries (params_of c)) (body_entries (body_of c)))) ∙ scopes c m)

  -- two declarations of one name by one component are one
  pub one-declared : (x : Text) (d e : Declared) → Member d (declarations t) → Member e (declarations t) → declares x d.1 ≡ true → declares x e.1 ≡ true → path_of d.0 ≡ path_of e.0 → SameDeclared d e
  one-declared x d e m k f g same =
      let here = declaration-cases t d m in
      let there = declaration-cases t e k in
      let place : d.0 ≡ e.0 = paths-differ t scopes d.0 e.0 here.0 there.0 same in
      let one : d.1 ≡ e.1 = declared-once x (body_of e.0) (body-single e.0 there.0) d.1 e.1 (at place here.1) there.1 f g in
      λ i. (place i, one i)
    where
      at : d.0 ≡ e.0 → Member d.1 (decls_of d.0) → Member d.1 (decls_of e.0)
      at place m = subst (λ p. Member d.1 (decls_of p)) place m

  pub stands-at-number : (sort : DeclTree → Bool) (c : Component) (d : DeclTree) → Member c (components_of t) → Member d (decls_of c) → sort d ≡ true → (x : Text) → declares x d ≡ true
      → slice_get (of_sort sort t) (number_in (of_sort sort t) c x) ≡ Some (c, d)
  stands-at-number sort c d m k is x h =
      let this : Declared = (c, d) in
      let listed : Member this (declarations t) = declaration-listed t few c d m k in
      let y = position-found (is_declared c x) (of_sort sort t) (member-passes (is_declared c x) (of_sort sort t) this (filter-member (λ (e : Declared). sort e.1) (declarations t) this listed is) (declared-as c d x h)) in
      let there = filter-within (λ (e : Declared). sort e.1) (declarations t) y.0 (at-member (of_sort sort t) (number_in (of_sort sort t) c x) y.0 y.1) in
      y.1 ∙ ap Some (one-declared x y.0 this there listed (and-left (declares x y.0.1) _ y.2) h (path-told (path_of y.0.0) (path_of c) (and-right (declares x y.0.1) _ y.2)))
