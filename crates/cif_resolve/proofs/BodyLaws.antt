-- The faults of bodies by numbers are those of the components.
use Rattle.std.proofs.Common.{◌≡◌, ℕ, ◌+◌, false, not, List, [], ◌∷◌, ◌++◌, append-nil, refl, sym, ap, subst, ◌∙◌, length, Option, Some, None}
use Rattle.std.specs.Prelude.{slice_get, flat_map, filter_map, nat_eq}
use Rattle.cif_source.specs.Source.{ParamTree, InstanceTree, SourceItem, decl_item, component_item, definition_item, instance_item, SourceBody, group_body, automaton_body, Source, no_source, source, list_of_items}
use Rattle.cif_ast.specs.declared.names.Ident.{Ident}
use Rattle.cif_source.specs.Components.{Component, blank, body_of, params_of, Entry, declared, literal, location, inner, definition, instance, parameter}
use Rattle.cif_source.specs.Lookup.{Reached, reached, missing, blocked, definition_found}
use Rattle.cif_source.specs.Objects.{bodies, items_in, decls_in, locs_in}
use Rattle.cif_source.specs.Uses.{Use, uses, asking, definition_asked, decl_uses, param_uses, args_uses, params_at, item_uses, body_uses, OwnName, own_names, decl_own_names, location_own_names}
use Rattle.cif_source.specs.Scoping.{as_instance, instances_of, has_wrong_count}
use Rattle.cif_scope.specs.declared.scopes.Scopes.{Scopes}
use Rattle.cif_scope.specs.declared.error.ScopeErr.{ScopeErr}
use Rattle.cif_scope.specs.Tables.{IsBody, Beside}
use Rattle.cif_scope.specs.Looks.{definition_at}
use Rattle.cif_scope.specs.Scopes.{Defines, AreNumbered}
use Rattle.cif_scope.specs.Written.{WrittenBody, written_bodies}
use Rattle.cif_scope.proofs.Places.{beside-at, Sits, sits-head, sits-tail, sits-whole}
use Rattle.cif_scope.proofs.DefinitionLaws.{IsWritten, bodies-written}
use Rattle.cif_resolve_cycles.proofs.BodyNeeds.{definition-is}
use Rattle.cif_resolve.specs.Tests.{fault_of, or_later, first_some, used_fault, own_fault}
use Rattle.cif_resolve.specs.Bodies.{body_numbered, definition_of, params_in, instance_uses, uses_in, uses_under, uses_of, own_in, own_under, count_fault, counts_in, counts_under, body_fault, faults_from}
use Rattle.cif_resolve.specs.Faults.{use_told, own_told, count_told, names_told}
use Rattle.cif_resolve.proofs.FirstLaws.{first-same}
use Rattle.cif_resolve.proofs.TestLaws.{used-told, own-told}

-- ---- definitions of instances

module _ (t : Source) where
  -- the body that is numbered, where a definition is found
  numbered : (k : ℕ) (o : Component) (n : Ident) (ps : List ParamTree) (b : SourceBody) → IsBody t k (blank o n ps b) → (w : WrittenBody) × (slice_get (written_bodies t) k ≡ Some w) × (ps ≡ w.params)
  numbered k o n ps b h = let w = beside-at IsWritten (bodies t) (written_bodies t) k (blank o n ps b) (bodies-written t) h in (w.0, w.1, w.2.0)

  params-are : (r : Reached) (d : Option ℕ) → Defines t r d → params_in (body_numbered (written_bodies t) d) ≡ params_at r
  params-are (reached (o, definition n ps b)) d h =
      let w = numbered h.0 o n ps b h.2 in
      ap (λ e. params_in (body_numbered (written_bodies t) e)) h.1 ∙ ap params_in w.1 ∙ sym w.2
  params-are (reached (o, declared x)) d h = ap (λ e. params_in (body_numbered (written_bodies t) e)) h
  params-are (reached (o, literal j ls)) d h = ap (λ e. params_in (body_numbered (written_bodies t) e)) h
  params-are (reached (o, location j)) d h = ap (λ e. params_in (body_numbered (written_bodies t) e)) h
  params-are (reached (o, inner n b)) d h = ap (λ e. params_in (body_numbered (written_bodies t) e)) h
  params-are (reached (o, instance i)) d h = ap (λ e. params_in (body_numbered (written_bodies t) e)) h
  params-are (reached (o, parameter j p)) d h = ap (λ e. params_in (body_numbered (written_bodies t) e)) h
  params-are missing d h = ap (λ e. params_in (body_numbered (written_bodies t) e)) h
  params-are blocked d h = ap (λ e. params_in (body_numbered (written_bodies t) e)) h

  abbrev counted : InstanceTree → Option ℕ → Option ScopeErr
  counted i d = count_fault i (body_numbered (written_bodies t) d)

  count-is : (i : InstanceTree) (r : Reached) (d : Option ℕ) → Defines t r d → counted i d ≡ fault_of i.name.at false (has_wrong_count i r)
  count-is i (reached (o, definition n ps b)) d h =
      let w = numbered h.0 o n ps b h.2 in
      ap (counted i) h.1 ∙ ap (count_fault i) w.1 ∙ ap (λ (qs : List ParamTree). fault_of i.name.at false (not (nat_eq (length i.args) (length qs)))) (sym w.2)
  count-is i (reached (o, declared x)) d h = ap (counted i) h
  count-is i (reached (o, literal j ls)) d h = ap (counted i) h
  count-is i (reached (o, location j)) d h = ap (counted i) h
  count-is i (reached (o, inner n b)) d h = ap (counted i) h
  count-is i (reached (o, instance j)) d h = ap (counted i) h
  count-is i (reached (o, parameter j p)) d h = ap (counted i) h
  count-is i missing d h = ap (counted i) h
  count-is i blocked d h = ap (counted i) h

-- ---- names of the own scope

own-in-is : (is : Source) → own_in is ≡ flat_map decl_own_names (decls_in (group_body is))
own-in-is no_source = refl
own-in-is (source (decl_item d) is) = ap (λ l. decl_own_names d ++ l) (own-in-is is)
own-in-is (source (component_item n b) is) = own-in-is is
own-in-is (source (definition_item n ps b) is) = own-in-is is
own-in-is (source (instance_item i) is) = own-in-is is

own-under-is : (b : SourceBody) → own_under b ≡ flat_map decl_own_names (decls_in b) ++ flat_map location_own_names (locs_in b)
own-under-is (group_body is) = own-in-is is ∙ sym (append-nil (flat_map decl_own_names (decls_in (group_body is))))
own-under-is (automaton_body a) = refl

-- ---- a body

module _ (t : Source) (s : Scopes) (are : AreNumbered t s) (c : Component) (k : ℕ) (own : IsBody t k c) where
  -- the instances of the items are those of the component from number r on
  abbrev Stand : ℕ → Source → Type 0
  Stand r is = Sits (instances_of c) r (filter_map as_instance (list_of_items is))

  instance-uses : (r : ℕ) (i : InstanceTree) (is : Source) → Stand r (source (instance_item i) is) → instance_uses i (definition_of s (written_bodies t) k r) ≡ item_uses c (instance_item i)
  instance-uses r i is h =
      ap (λ ps. asking definition_asked (i.def ∷ []) ++ args_uses i.args ps)
      (params-are t (definition_found c i) (definition_at s.definitions k r) (definition-is t s are c k own r i (sits-head (instances_of c) r i (filter_map as_instance (list_of_items is)) h)))

  uses-in : (is : Source) (r : ℕ) → Stand r is → uses_in s (written_bodies t) k r is ≡ flat_map (item_uses c) (list_of_items is)
  uses-in no_source r h = refl
  uses-in (source (decl_item d) is) r h = ap (λ l. decl_uses d ++ l) (uses-in is r h)
  uses-in (source (component_item n b) is) r h = uses-in is r h
  uses-in (source (definition_item n ps b) is) r h = uses-in is r h
  uses-in (source (instance_item i) is) r h =
      ap (λ l. l ++ uses_in s (written_bodies t) k (r + 1) is) (instance-uses r i is h)
      ∙ ap (λ l. item_uses c (instance_item i) ++ l) (uses-in is (r + 1) (sits-tail (instances_of c) r i (filter_map as_instance (list_of_items is)) h))

  stand-whole : (is : Source) → body_of c ≡ group_body is → Stand 0 is
  stand-whole is e = subst (λ b. Sits (instances_of c) 0 (filter_map as_instance (items_in b))) e (sits-whole (instances_of c))

  uses-under : (b : SourceBody) → body_of c ≡ b → uses_under s (written_bodies t) k b ≡ body_uses c b
  uses-under (group_body is) e = uses-in is 0 (stand-whole is e)
  uses-under (automaton_body a) e = refl

  uses-are : (w : WrittenBody) → IsWritten c w → uses_of s (written_bodies t) k w ≡ uses c
  uses-are w h =
      ap (λ ps. flat_map param_uses ps ++ uses_under s (written_bodies t) k w.body) (sym h.0)
      ∙ ap (λ l. flat_map param_uses (params_of c) ++ l) (uses-under w.body h.1 ∙ ap (body_uses c) (sym h.1))

  own-are : (w : WrittenBody) → IsWritten c w → own_under w.body ≡ own_names c
  own-are w h = own-under-is w.body ∙ ap (λ b. flat_map decl_own_names (decls_in b) ++ flat_map location_own_names (locs_in b)) (sym h.1)

  counts-in : (is : Source) (r : ℕ) → Stand r is → counts_in s (written_bodies t) k r is ≡ first_some (count_told c) (filter_map as_instance (list_of_items is))
  counts-in no_source r h = refl
  counts-in (source (decl_item d) is) r h = counts-in is r h
  counts-in (source (component_item n b) is) r h = counts-in is r h
  counts-in (source (definition_item n ps b) is) r h = counts-in is r h
  counts-in (source (instance_item i) is) r h =
      ap (λ o. or_later o (counts_in s (written_bodies t) k (r + 1) is))
      (count-is t i (definition_found c i) (definition_at s.definitions k r) (definition-is t s are c k own r i (sits-head (instances_of c) r i (filter_map as_instance (list_of_items is)) h)))
      ∙ ap (or_later (count_told c i)) (counts-in is (r + 1) (sits-tail (instances_of c) r i (filter_map as_instance (list_of_items is)) h))

  counts-under : (b : SourceBody) → body_of c ≡ b → counts_under s (written_bodies t) k b ≡ first_some (count_told c) (filter_map as_instance (items_in b))
  counts-under (group_body is) e = counts-in is 0 (stand-whole is e)
  counts-under (automaton_body a) e = refl

  counts-are : (w : WrittenBody) → IsWritten c w → counts_under s (written_bodies t) k w.body ≡ first_some (count_told c) (instances_of c)
  counts-are w h = counts-under w.body h.1 ∙ ap (λ b. first_some (count_told c) (filter_map as_instance (items_in b))) (sym h.1)

  body-told : (w : WrittenBody) → IsWritten c w → body_fault s (written_bodies t) k w ≡ names_told c
  body-told w h =
      ap (λ us. or_later (first_some (used_fault s k) us) (or_later (first_some (own_fault s k) (own_under w.body)) (counts_under s (written_bodies t) k w.body))) (uses-are w h)
      ∙ ap (λ o. or_later o (or_later (first_some (own_fault s k) (own_under w.body)) (counts_under s (written_bodies t) k w.body))) (first-same (used_fault s k) (use_told c) (used-told t s are c k own) (uses c))
      ∙ ap (λ ns. or_later (first_some (use_told c) (uses c)) (or_later (first_some (own_fault s k) ns) (counts_under s (written_bodies t) k w.body))) (own-are w h)
      ∙ ap (λ o. or_later (first_some (use_told c) (uses c)) (or_later o (counts_under s (written_bodies t) k w.body))) (first-same (own_fault s k) (own_told c) (own-told t s are c k own) (own_names c))
      ∙ ap (λ o. or_later (first_some (use_told c) (uses c)) (or_later (first_some (own_told c) (own_names c)) o)) (counts-are w h)

-- ---- all bodies

module _ (t : Source) (s : Scopes) (are : AreNumbered t s) where
  faults-told : (cs : List Component) (vs : List WrittenBody) (k : ℕ) → Beside IsWritten cs vs → Sits (bodies t) k cs → faults_from s (written_bodies t) k vs ≡ first_some names_told cs
  faults-told [] [] k h g = refl
  faults-told [] (v ∷ vs) k h g = absurd h
  faults-told (c ∷ cs) [] k h g = absurd h
  faults-told (c ∷ cs) (v ∷ vs) k h g =
      ap (λ o. or_later o (faults_from s (written_bodies t) (k + 1) vs)) (body-told t s are c k (sits-head (bodies t) k c cs g) v h.0)
      ∙ ap (or_later (names_told c)) (faults-told cs vs (k + 1) h.1 (sits-tail (bodies t) k c cs g))

  pub all-told : faults_from s (written_bodies t) 0 (written_bodies t) ≡ first_some names_told (bodies t)
  all-told = faults-told (bodies t) (written_bodies t) 0 (bodies-written t) (sits-whole (bodies t))
