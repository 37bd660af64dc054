-- The definitions that are looked up by numbers are those of the instances.
use Rattle.std.proofs.Common.{◌≡◌, ℕ, suc, ◌+◌, false, List, [], ◌∷◌, refl, sym, ap, subst, ◌∙◌, arith, Some}
use Rattle.std.specs.Prelude.{slice_get, flat_map, filter_map}
use Rattle.cif_source.specs.Source.{InstanceTree, SourceItem, decl_item, component_item, definition_item, instance_item, SourceBody, group_body, automaton_body, Source, no_source, source}
use Rattle.cif_source.specs.Components.{Component, whole, part, blank, body_of, params_of, as_written, Entry, declared, literal, location, inner, definition, instance, parameter}
use Rattle.cif_source.specs.Lookup.{Reached, reached, missing, blocked, definition_found}
use Rattle.cif_source.specs.Objects.{bodies, bodies_in, bodies_at, bodies_under, items_in}
use Rattle.cif_source.specs.Scoping.{as_instance, instances_of}
use Rattle.cif_scope.specs.declared.scope.What.{What}
use Rattle.cif_scope.specs.declared.looked.Looked.{Looked}
use Rattle.cif_scope.specs.declared.looked.Looked.TheVariants.{At, Missing, Blocked}
use Rattle.cif_scope.specs.declared.table.Table.{Table}
use Rattle.cif_scope.specs.Tables.{IsBody, Beside, IsWhat, IsTable}
use Rattle.cif_scope.specs.Looks.{look}
use Rattle.cif_scope.specs.Scopes.{IsIndexed, Defines, IsDefinitionOf, AreDefinitions}
use Rattle.cif_scope.specs.Written.{WrittenBody, written_in, written_at, written_under, written_bodies, definition_what, definition_looked, definition_by, item_definitions, definitions_in, definitions_from}
use Rattle.cif_scope.proofs.Places.{beside-append}
use Rattle.cif_scope.proofs.BodyLaws.{body-written}
use Rattle.cif_scope.proofs.LookLaws.{Agrees}
use Rattle.cif_scope.proofs.WrittenLaws.{written, definition-written}
use Rattle.cif_scope.proofs.FindLaws.{what-of, written-is}

-- ---- bodies as written

abbrev pub IsWritten : Component → WrittenBody → Type 0
IsWritten c w = (params_of c ≡ w.params) × (body_of c ≡ w.body)

mutual
  written_in-is : (c : Component) (is : Source) → Beside IsWritten (bodies_in c is) (written_in is)
  written_in-is c no_source = tt
  written_in-is c (source i is) = beside-append IsWritten (bodies_at c i) (bodies_in c is) (written_at i) (written_in is) (written_at-is c i) (written_in-is c is)

  written_at-is : (c : Component) (i : SourceItem) → Beside IsWritten (bodies_at c i) (written_at i)
  written_at-is c (decl_item d) = tt
  written_at-is c (component_item n b) = ((refl, refl), written_under-is (part c n b) b)
  written_at-is c (definition_item n ps b) = ((refl, refl), written_under-is (blank c n ps b) b)
  written_at-is c (instance_item i) = tt

  written_under-is : (c : Component) (b : SourceBody) → Beside IsWritten (bodies_under c b) (written_under b)
  written_under-is c (group_body is) = written_in-is c is
  written_under-is c (automaton_body a) = tt

pub bodies-written : (t : Source) → Beside IsWritten (bodies t) (written_bodies t)
bodies-written t = ((refl, refl), written_in-is (whole t) t)

-- ---- definitions

module _ (t : Source) (tb : Table) (table : IsTable t tb.scopes) (ix : IsIndexed tb) where
  -- what is found, and what is read in its slot
  defines-at : (o : Component) (e : Entry) (w : What) → IsWhat t (as_written o) e w → Defines t (reached (as_written o, e)) (definition_what (Some w))
  defines-at o (definition n ps b) w h = (h.0, ap (λ v. definition_what (Some v)) h.1, h.2)
  defines-at o (declared x) w h = ap (λ v. definition_what (Some v)) h.1
  defines-at o (literal j ls) w h = ap (λ v. definition_what (Some v)) h
  defines-at o (location j) w h = ap (λ v. definition_what (Some v)) h
  defines-at o (inner n b) w h = ap (λ v. definition_what (Some v)) h.1
  defines-at o (instance i) w h = ap (λ v. definition_what (Some v)) h.1
  defines-at o (parameter j p) w h = ap (λ v. definition_what (Some v)) h

  defines : (r : Reached) (l : Looked) → Agrees t r l → Defines t (written r) (definition_looked tb l)
  defines (reached (o, e)) (At k s) h =
      let w = what-of t tb table ix k s o e h.0 h.1 in
      subst (λ q. Defines t (reached (as_written o, e)) (definition_what q)) (sym w.1) (defines-at o e w.0 w.2)
  defines (reached (o, e)) Missing h = absurd h
  defines (reached (o, e)) Blocked h = absurd h
  defines missing (At k s) h = absurd h
  defines missing Missing h = refl
  defines missing Blocked h = absurd h
  defines blocked (At k s) h = absurd h
  defines blocked Missing h = absurd h
  defines blocked Blocked h = refl

  definition-is : (c : Component) (k : ℕ) (i : InstanceTree) → IsBody t k c → IsDefinitionOf t c i (definition_by tb k i)
  definition-is c k i own =
      let same : written (definition_found c i) ≡ definition_found c i = definition-written c i ∙ ap (λ d. definition_found d i) (body-written t tb.scopes table c k own) in
      subst (λ r. Defines t r (definition_by tb k i)) same (defines (definition_found c i) (look tb [] false k i.def) (written-is t tb table ix [] c k i.def own))

  items-defined : (c : Component) (k : ℕ) (is : List SourceItem) → IsBody t k c → Beside (IsDefinitionOf t c) (filter_map as_instance is) (flat_map (item_definitions tb k) is)
  items-defined c k [] own = tt
  items-defined c k (decl_item d ∷ is) own = items-defined c k is own
  items-defined c k (component_item n b ∷ is) own = items-defined c k is own
  items-defined c k (definition_item n ps b ∷ is) own = items-defined c k is own
  items-defined c k (instance_item i ∷ is) own = (definition-is c k i own, items-defined c k is own)

  body-defined : (c : Component) (k : ℕ) (b : SourceBody) → IsBody t k c → body_of c ≡ b → Beside (IsDefinitionOf t c) (instances_of c) (definitions_in tb k b)
  body-defined c k b own e = subst (λ d. Beside (IsDefinitionOf t c) (instances_of c) (definitions_in tb k d)) e (items-defined c k (items_in (body_of c)) own)

  all-defined : (k : ℕ) (cs : List Component) (ws : List WrittenBody) → Beside IsWritten cs ws → ((j : ℕ) (c : Component) → slice_get cs j ≡ Some c → IsBody t (k + j) c)
      → Beside (λ c ds. Beside (IsDefinitionOf t c) (instances_of c) ds) cs (definitions_from tb k ws)
  all-defined k [] [] h own = tt
  all-defined k [] (w ∷ ws) h own = absurd h
  all-defined k (c ∷ cs) [] h own = absurd h
  all-defined k (c ∷ cs) (w ∷ ws) h own =
      let e : k + 0 ≡ k = omega arith in
      (body-defined c k w.body (subst (λ n. IsBody t n c) e (own 0 c refl)) h.0.1, all-defined (k + 1) cs ws h.1 (λ j d g. further j d g))
    where
      further : (j : ℕ) (d : Component) → slice_get cs j ≡ Some d → IsBody t ((k + 1) + j) d
      further j d g = let e : k + suc j ≡ (k + 1) + j = omega arith in subst (λ n. IsBody t n d) e (own (suc j) d g)

  pub definitions-are : AreDefinitions t (definitions_from tb 0 (written_bodies t))
  definitions-are = all-defined 0 (bodies t) (written_bodies t) (bodies-written t) (λ j c g. let e : j ≡ 0 + j = omega arith in subst (λ n. IsBody t n c) e g)
