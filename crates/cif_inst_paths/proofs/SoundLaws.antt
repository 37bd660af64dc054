-- What is given of a source of which nets are made, and its components by their numbers.
use Rattle.std.proofs.Common.{◌≡◌, ℕ, zero, suc, ◌+◌, ◌≤◌, ◌<◌, inl, inr, List, [], ◌∷◌, length, get_or, Some, refl, sym, ap, subst, arith}
use Rattle.std.specs.Prelude.{slice_get}
use Rattle.cif_system.specs.Words.{Member}
use Rattle.cif_system.proofs.Picks.{at-member}
use Rattle.cif_source.specs.Source.{Source}
use Rattle.cif_source.specs.Components.{Component, as_written}
use Rattle.cif_source.specs.Objects.{components_of, most_objects}
use Rattle.cif_source.specs.BodyRules.{MismatchDue}
use Rattle.cif_scope.specs.Scopes.{KeepsScoping}
use Rattle.cif_scope.specs.Tables.{IsBody, Beside}
use Rattle.cif_scope.proofs.Places.{beside-at}
use Rattle.cif_inst_components.specs.declared.components.Component.{Component as Numbered}
use Rattle.cif_inst_components.specs.Numbers.{IsNumber, IsComponent}
use Rattle.cif_inst_names.specs.Looking.{or_whole, component_of, source_for}
use Rattle.cif_inst_names.specs.declared.looking.Looking.{Looking}
use Rattle.cif_inst_paths.specs.Names.{AreMatchedNames}
use Rattle.cif_inst_paths.specs.Rows.{number_of, body_number}

-- ---- components

-- what is read at a place of a list is one of it
pub item-listed : {A : Type 0} (xs : List A) (i : ℕ) (x : A) → i < length xs → x ≡ get_or xs i x → Member x xs
item-listed [] i x below is = absurd (omega (arith, below))
item-listed (y ∷ ys) zero x below is = inl is
item-listed (y ∷ ys) (suc i) x below is = inr (item-listed ys i x (omega (arith, below)) is)

at-or : (t : Source) (cs : List Component) (k : ℕ) → k < length cs → slice_get cs k ≡ Some (or_whole t (slice_get cs k))
at-or t [] k h = absurd (omega (arith, h))
at-or t (c ∷ cs) zero h = refl
at-or t (c ∷ cs) (suc k) h = at-or t cs k (omega (arith, h))

pub component-is : (t : Source) (k : ℕ) → k < length (components_of t) → IsNumber t k (component_of t k)
component-is t k h = at-or t (components_of t) k h

pub component-listed : (t : Source) (k : ℕ) → k < length (components_of t) → Member (component_of t k) (components_of t)
component-listed t k h = at-member (components_of t) k (component_of t k) (component-is t k h)

-- the number of its body is that of the body as which it is written
pub body-numbered : (t : Source) (all : List Numbered) → Beside (IsComponent t) (components_of t) all → (k : ℕ) (c : Component) → IsNumber t k c → IsBody t (body_number all k) (as_written c)
body-numbered t all rows k c own =
    let r = beside-at (IsComponent t) (components_of t) all k c rows own in
    subst (λ j. IsBody t j (as_written c)) (sym (ap number_of r.1)) r.2.body

-- ---- the components from one on

module _ (t : Source) where
  -- they are those from component k on
  abbrev pub From : List Component → ℕ → Type 0
  From cs k = (j : ℕ) (c : Component) → slice_get cs j ≡ Some c → IsNumber t (k + j) c

  pub from-next : (c : Component) (cs : List Component) (k : ℕ) → From (c ∷ cs) k → From cs (k + 1)
  from-next c cs k at j x g = subst (λ i. IsNumber t i x) (let e : k + suc j ≡ k + 1 + j = omega arith in e) (at (suc j) x g)

  pub from-here : (c : Component) (cs : List Component) (k : ℕ) → From (c ∷ cs) k → IsNumber t k c
  from-here c cs k at = subst (λ j. IsNumber t j c) (let e : k + 0 ≡ k = omega arith in e) (at 0 c refl)

  pub all-components : From (components_of t) 0
  all-components j c g = subst (λ i. IsNumber t i c) (let e : j ≡ 0 + j = omega arith in e) g

-- ---- a source of which nets are made

pub record IsSound (t : Source) : Type 0 where
  pub few : length (components_of t) ≤ most_objects
  pub scoping : KeepsScoping t
  pub matched : (at : ℕ) → MismatchDue t at → ⊥

pub names-sound : (l : Looking) → AreMatchedNames l → IsSound (source_for l)
names-sound l h = record {
  few = h.names.components.few;
  scoping = h.names.scopes.rules;
  matched = h.matched;
}
