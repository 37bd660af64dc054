-- What the numbers of components say of a source.
use Rattle.std.proofs.Common.{◌≡◌, ℕ, ◌<◌, ◌≤◌, List, length, map, refl, sym, ap, ◌∙◌, subst}
use Rattle.std.specs.Prelude.{filter_map}
use Rattle.cif_source.specs.Source.{Source}
use Rattle.cif_source.specs.Objects.{components_of, most_objects}
use Rattle.cif_source.specs.InstanceRules.{TooManyObjectsDue}
use Rattle.cif_scope.specs.declared.scopes.Scopes.{Scopes}
use Rattle.cif_scope.specs.Tables.{Beside}
use Rattle.cif_scope.specs.Scopes.{AreScopesOf}
use Rattle.cif_scope.specs.declared.written.Written.{Written}
use Rattle.cif_scope.specs.Written.{body_of_written, written_bodies}
use Rattle.cif_inst_components.specs.declared.components.Component.{Component}
use Rattle.cif_inst_components.specs.declared.components.Components.{Components}
use Rattle.cif_inst_components.specs.declared.error.ComponentsErr.{ComponentsErr}
use Rattle.cif_inst_components.specs.declared.error.ComponentsErr.TheVariants.{TooManyObjects, Memory}
use Rattle.cif_inst_components.specs.declared.kids.Kid.{Kid}
use Rattle.cif_inst_components.specs.Kids.{all_kids}
use Rattle.cif_inst_components.specs.Sizes.{written_size}
use Rattle.cif_inst_components.specs.Listing.{listed, all_objects}
use Rattle.cif_inst_components.specs.Numbers.{IsComponent, IsOuter, AreComponentsOf, stands_of, due}
use Rattle.cif_inst_components.proofs.ListLaws.{all-is}
use Rattle.cif_inst_components.proofs.SizeLaws.{count-few, count-many, few-components, none-due}

-- what is due for an error
pub refused : (t : Source) (e : ComponentsErr) → ((count : ℕ) → e ≡ TooManyObjects count → TooManyObjectsDue t count) → due t e
refused t (TooManyObjects count) h = h count refl
refused t Memory h = tt

-- the sizes of the bodies as the code has them
pub sizes-are : (t : Source) (items now : List Written) (sizes slice : List ℕ) → map body_of_written items ≡ written_bodies t → now ≡ items → sizes ≡ map written_size (map body_of_written now) → slice ≡ sizes
    → slice ≡ map written_size (written_bodies t)
sizes-are t items now sizes slice w n z l = l ∙ z ∙ ap (λ (ws : List Written). map written_size (map body_of_written ws)) n ∙ ap (map written_size) w

module _ (t : Source) (s : Scopes) (are : AreScopesOf t s) (kids : List (List Kid)) (sizes : List ℕ) (k : kids ≡ all_kids s) (z : sizes ≡ map written_size (written_bodies t)) where
  counted : all_objects (map written_size (written_bodies t)) (listed (all_kids s)) ≡ all_objects sizes (listed kids)
  counted = ap (λ (l : List ℕ). all_objects l (listed (all_kids s))) (sym z) ∙ ap (λ (l : List (List Kid)). all_objects sizes (listed l)) (sym k)

  pub too-many : (count : ℕ) → count ≡ 100001 → 100001 ≤ all_objects sizes (listed kids) → TooManyObjectsDue t count
  too-many count e l = count-many t (listed (all_kids s)) count (all-is t s are.numbers) (subst (λ n. 100001 ≤ n) (sym counted) l) e

  module _ (all : List Component) (l : all ≡ listed kids) where
    pub listed-is : all ≡ listed (all_kids s)
    listed-is = l ∙ ap listed k

    pub all-components : Beside (IsComponent t) (components_of t) all
    all-components = subst (λ cs. Beside (IsComponent t) (components_of t) cs) (sym listed-is) (all-is t s are.numbers)

    module _ (few : all_objects sizes all < 100001) where
      few-objects : all_objects (map written_size (written_bodies t)) all < 100001
      few-objects = subst (λ (x : List ℕ). all_objects x all < 100001) z few

      pub not-too-many : (count : ℕ) → TooManyObjectsDue t count → ⊥
      not-too-many count h = none-due t count (count-few t all all-components few-objects) h

      pub few-listed : length (components_of t) ≤ most_objects
      few-listed = few-components t (count-few t all all-components few-objects)

      pub numbered : (n : Components) → n.all ≡ all → n.children ≡ filter_map stands_of all → Beside (IsOuter t) (components_of t) n.outers → AreComponentsOf t n
      numbered n a c o = record {
        few = few-listed;
        all = subst (λ cs. Beside (IsComponent t) (components_of t) cs) (sym a) all-components;
        outers = o;
        children = c ∙ ap (filter_map stands_of) (sym a);
      }
