-- What an instance is passed: the parameters of its definition, and the arguments of a component before it.
use Rattle.std.proofs.Common.{◌≡◌, ℕ, zero, suc, ◌<◌, List, [], ◌∷◌, map, Option, Some, None, refl, sym, ◌∙◌, ap, subst}
use Rattle.std.specs.Prelude.{slice_get, flat_map, filter_map, option_map}
use Rattle.cif_system.proofs.Lists.{none-some}
use Rattle.cif_source.specs.Source.{ParamTree, InstanceTree, SourceItem, decl_item, component_item, definition_item, instance_item, Source}
use Rattle.cif_source.specs.Components.{Component, whole, part, blank, copy, as_written, body_of, params_of, Entry, inner, instance}
use Rattle.cif_source.specs.Objects.{items_in, bodies}
use Rattle.cif_source.specs.Scoping.{as_instance, instances_of}
use Rattle.cif_scope.specs.declared.scope.What.{What}
use Rattle.cif_scope.specs.declared.scopes.Scopes.{Scopes}
use Rattle.cif_scope.specs.Looks.{what_at}
use Rattle.cif_scope.specs.Tables.{IsBody, IsWhat}
use Rattle.cif_scope.specs.Scopes.{AreScopesOf, IsEntry}
use Rattle.cif_scope.specs.Written.{WrittenBody, written_bodies}
use Rattle.cif_scope.proofs.Places.{beside-at}
use Rattle.cif_scope.proofs.LookLaws.{get-map}
use Rattle.cif_scope.proofs.FindLaws.{what-of}
use Rattle.cif_scope.proofs.DefinitionLaws.{IsWritten, bodies-written}
use Rattle.cif_inst_components.specs.declared.components.Component.{Component as Row}
use Rattle.cif_inst_components.specs.declared.components.Components.{Components}
use Rattle.cif_inst_components.specs.declared.components.Place.{Place}
use Rattle.cif_inst_components.specs.Numbers.{IsNumber, StandsAt, AreComponentsOf}
use Rattle.cif_inst_components.proofs.FindChildren.{row-for, stands-before}
use Rattle.cif_inst_parameters.specs.Passing.{and_then, item_instances, instances_inside, body_instances, instance_at, params_at, Passed, passed_by, passed_of, passed_at, passed_to}

-- the instances of a body, by their numbers
instances-at : (is : List SourceItem) (r : ℕ) (i : InstanceTree) → slice_get (filter_map as_instance is) r ≡ Some i → slice_get (flat_map item_instances is) r ≡ Some i
instances-at [] r i h = absurd (none-some i h)
instances-at (decl_item d ∷ is) r i h = instances-at is r i h
instances-at (component_item n b ∷ is) r i h = instances-at is r i h
instances-at (definition_item n ps b ∷ is) r i h = instances-at is r i h
instances-at (instance_item j ∷ is) zero i h = h
instances-at (instance_item j ∷ is) (suc r) i h = instances-at is r i h

params-written : (c : Component) → params_of (as_written c) ≡ params_of c
params-written (whole is) = refl
params-written (part o n b) = refl
params-written (blank o n ps b) = refl
params-written (copy o n ps b g i) = refl

abbrev pub passing : ℕ → List ParamTree → InstanceTree → Passed
passing giver ps i = record { giver = giver; params = ps; args = i.args }

-- only an instance is passed arguments, by a component before it
abbrev pub IsPassed : Source → ℕ → Component → Option Passed → Type 0
IsPassed t k (whole is) o = o ≡ None
IsPassed t k (part p n b) o = o ≡ None
IsPassed t k (blank p n ps b) o = ⊥
IsPassed t k (copy p n ps b g i) o = (j : ℕ) × (o ≡ Some (passing j ps i)) × IsNumber t j g × (j < k)

module _ (t : Source) (s : Scopes) (cs : Components) (scopes : AreScopesOf t s) (are : AreComponentsOf t cs) where
  abbrev all_instances : List (List InstanceTree)
  all_instances = map body_instances (written_bodies t)

  written-for : (k : ℕ) (c : Component) → IsBody t k (as_written c) → (w : WrittenBody) × (slice_get (written_bodies t) k ≡ Some w) × IsWritten (as_written c) w
  written-for k c h = beside-at IsWritten (bodies t) (written_bodies t) k (as_written c) (bodies-written t) h

  instance-for : (k r : ℕ) (c : Component) (i : InstanceTree) → IsBody t k (as_written c) → slice_get (instances_of (as_written c)) r ≡ Some i → instance_at all_instances k r ≡ Some i
  instance-for k r c i own h =
      let w = written-for k c own in
      ap (λ o. and_then o (λ (of_body : List InstanceTree). slice_get of_body r)) (get-map body_instances (written_bodies t) k w.0 w.1)
      ∙ subst (λ b. slice_get (instances_inside b) r ≡ Some i) w.2.1 (instances-at (items_in (body_of (as_written c))) r i h)

  params-for : (k : ℕ) (c : Component) → IsBody t k (as_written c) → params_at (written_bodies t) k ≡ Some (params_of c)
  params-for k c own =
      let w = written-for k c own in
      ap (option_map (λ (x : WrittenBody). x.params)) w.1 ∙ ap Some (sym w.2.0 ∙ params-written c)

  abbrev by_place : ℕ → Place → Option Passed
  by_place own q = passed_at s cs.all (written_bodies t) all_instances own q

  abbrev by_what : (own k : ℕ) → Place → Option What → Option Passed
  by_what own k q w = passed_of s cs.all (written_bodies t) all_instances own k q w

  -- what is said of a place of a component
  place-is : (own : ℕ) (q : Place) (g : Component) (e : Entry) → IsNumber t q.component g → IsEntry g e q.slot
      → (b : ℕ) × (w : What) × IsBody t b (as_written g) × IsWhat t (as_written g) e w × (by_place own q ≡ by_what own b q (Some w))
  place-is own q g e num entry =
      let r = row-for t s scopes are.few cs.all are.all q.component g num in
      let w = what-of t s.table scopes.numbers.table scopes.numbers.indexed r.0.body q.slot g e r.2.body entry in (
        r.0.body,
        w.0,
        r.2.body,
        w.2,
        ap (λ o. and_then o (λ (x : Row). by_what own x.body q (what_at s.table x.body q.slot))) r.1 ∙ ap (by_what own r.0.body q) w.1,
      )

  stands-passed : (k : ℕ) (c : Component) (r : Row) → IsNumber t k c → IsBody t r.body (as_written c) → (o : Option Place) → StandsAt t c o → IsPassed t k c (and_then o (by_place r.body))
  stands-passed k (whole is) r own body o st = ap (λ q. and_then q (by_place r.body)) st
  stands-passed k (part p n b) r own body o st =
      let at = place-is r.body st.0 p (inner n b) st.2 st.3 in
      ap (λ q. and_then q (by_place r.body)) st.1 ∙ at.4 ∙ ap (λ w. by_what r.body at.0 st.0 (Some w)) at.3.1
  stands-passed k (blank p n ps b) r own body o st = st
  stands-passed k (copy p n ps b g i) r own body o st =
      let at = place-is r.body st.0 g (instance i) st.2 st.3 in
      let e = ap (λ q. and_then q (by_place r.body)) st.1 ∙ at.4 ∙ ap (λ w. by_what r.body at.0 st.0 (Some w)) at.3.1
      ∙ ap (λ o. and_then o (passed_by s cs.all (written_bodies t) all_instances st.0.component at.0 at.3.0)) (params-for r.body (copy p n ps b g i) body)
      ∙ ap (option_map (passing st.0.component ps)) (instance-for at.0 at.3.0 g i at.2 at.3.2) in
      (st.0.component, e, st.2, stands-before t s scopes are.few cs.all are.all st.0.component k g (copy p n ps b g i) st.2 own refl)

  pub passed-is : (k : ℕ) (c : Component) → IsNumber t k c → IsPassed t k c (passed_to s cs.all (written_bodies t) all_instances k)
  passed-is k c own =
      let r = row-for t s scopes are.few cs.all are.all k c own in
      subst (IsPassed t k c) (sym (ap (λ o. and_then o (λ (x : Row). and_then x.stands (by_place x.body))) r.1)) (stands-passed k c r.0 own r.2.body r.0.stands r.2.stands)
