-- Rules that a made source keeps since it has nothing that they are about.
use Rattle.std.proofs.Common.{◌≡◌, ◌≢◌, ℕ, Bool, true, false, List, [], ◌∷◌, ◌++◌, Option, None, refl, ap, subst, ◌∙◌, inl, inr}
use Rattle.std.specs.Prelude.{map, flat_map, filter_map, IsTrue}
use Rattle.std.specs.List.{Any, AllByRecursion, Contains}
use Rattle.cif_ast.specs.Tree.{Tree, UpdateTree}
use Rattle.cif_ast.specs.declared.names.Ident.{Ident}
use Rattle.cif_ast.specs.declared.names.Name.{Name}
use Rattle.cif_system.specs.Words.{Before, Chain, one, more}
use Rattle.std.proofs.lemmas.Grind.{flat_map-append}
use Rattle.cif_source.specs.Source.{TypeTree, DeclTree, EdgeTree}
use Rattle.cif_source.specs.Components.{Component, StandingInstance, whole, Entry, Entries, scope_of, item_entries}
use Rattle.cif_source.specs.Lookup.{ScopeEntry, reached, found, definition_found}
use Rattle.cif_source.specs.Objects.{decls_of, item_decls}
use Rattle.cif_source.specs.Uses.{names_in}
use Rattle.cif_source.specs.Constants.{constants_of, Bounds, decl_types, bounds_in, bounds_of, decl_constants, typed_constants}
use Rattle.cif_source.specs.Scoping.{is_wrong, found_written, DefinitionCycleDue, ReachesItself, ReachesDefinition, ReachesType, instances_within, names_of}
use Rattle.cif_source.specs.BodyRules.{is_constant, NotConstantDue, HasInitials, InitialsDue, edges_of, targets_of_all, LeadsElsewhere, NotOwnDue, lists_of, AssignsTwice, AssignedTwiceDue, alg_of, algs_of, definition_counts, EquationsDue}
use Rattle.cif_maker_laws.proofs.Bodies.{any_none, made, plant_of, items_for, in_no_body, each_item}

pub no_member : {A : Type 0} (P : A → Type 0) → Any P [] → ⊥
no_member P a = any_none P [] tt a

-- the declaration has no bound, no constant and no first value
abbrev HasNoConstant : DeclTree → Type 0
HasNoConstant d = (flat_map bounds_in (decl_types d) ≡ []) × (decl_constants d ≡ [])

no_bounds : (ds : List DeclTree) → AllByRecursion HasNoConstant ds → flat_map bounds_in (flat_map decl_types ds) ≡ []
no_bounds [] h = refl
no_bounds (d ∷ ds) h = flat_map-append bounds_in (decl_types d) (flat_map decl_types ds) ∙ ap (λ u. u ++ flat_map bounds_in (flat_map decl_types ds)) h.0.0 ∙ no_bounds ds h.1

no_typed : (ds : List DeclTree) → AllByRecursion HasNoConstant ds → flat_map decl_constants ds ≡ []
no_typed [] h = refl
no_typed (d ∷ ds) h = ap (λ u. u ++ flat_map decl_constants ds) h.0.1 ∙ no_typed ds h.1

module _ (seed size : ℕ) where
  -- ---- initial locations

  pub one_initial : (at count : ℕ) → InitialsDue (made seed size) at count → ⊥
  one_initial at count = in_no_body seed size (λ c. HasInitials c at count) (λ h. let w : false ≡ true = h.automaton in cc) (λ i h. h.other h.counted)

  -- ---- assigned variables

  pub own_targets : (at : ℕ) → NotOwnDue (made seed size) at → ⊥
  own_targets at = in_no_body seed size (λ c. Any (Elsewhere c) (flat_map (λ (e : EdgeTree). targets_of_all e.updates) (edges_of c)))
      (λ a. no_member (Elsewhere (whole (made seed size))) a)
      (λ i a. any_none (Elsewhere (plant_of seed size i)) (flat_map (λ (e : EdgeTree). targets_of_all e.updates) (edges_of (plant_of seed size i))) ((λ h. h.1 refl), tt) a)
    where
      Elsewhere : Component → Name → Type 0
      Elsewhere c nm = (nm.at ≡ at) × LeadsElsewhere c (found c nm)

  one_update : (c : Component) (u : UpdateTree) (at : ℕ) (earlier later : UpdateTree) → Before earlier later (u ∷ []) → ⊥
  one_update c u at earlier later (inl b) = b.1
  one_update c u at earlier later (inr b) = b

  pub assigned_once : (at : ℕ) → AssignedTwiceDue (made seed size) at → ⊥
  assigned_once at = in_no_body seed size (λ c. Any (λ us. AssignsTwice c us at) (flat_map lists_of (edges_of c)))
      (λ a. no_member (λ us. AssignsTwice (whole (made seed size)) us at) a)
      (λ i a. any_none (λ us. AssignsTwice (plant_of seed size i) us at) (flat_map lists_of (edges_of (plant_of seed size i)))
      ((λ h. one_update (plant_of seed size i) _ at h.earlier h.later h.order), ((λ h. h.order), tt)) a)

  -- ---- constants

  constant_block : (b : Bool) (i : ℕ) → AllByRecursion HasNoConstant (flat_map item_decls (items_for seed size b i))
  constant_block true i = ((refl, refl), ((refl, refl), ((refl, refl), ((refl, refl), tt))))
  constant_block false i = ((refl, refl), ((refl, refl), ((refl, refl), tt)))

  no_constant : AllByRecursion HasNoConstant (decls_of (whole (made seed size)))
  no_constant = each_item seed size HasNoConstant item_decls constant_block

  pub whole_bounds : bounds_of (whole (made seed size)) ≡ []
  whole_bounds = no_bounds (decls_of (whole (made seed size))) no_constant

  pub whole_typed : typed_constants (whole (made seed size)) ≡ []
  whole_typed = no_typed (decls_of (whole (made seed size))) no_constant

  pub whole_constants : constants_of (whole (made seed size)) ≡ []
  whole_constants =
      ap (λ bs. flat_map (λ (b : Bounds). b.0 ∷ b.1 ∷ []) bs ++ map (λ (v : TypeTree × Tree). v.1) (typed_constants (whole (made seed size)))) whole_bounds
      ∙ ap (λ vs. map (λ (v : TypeTree × Tree). v.1) vs) whole_typed

  pub constant_parts : (at : ℕ) → NotConstantDue (made seed size) at → ⊥
  constant_parts at = in_no_body seed size (λ c. Any (Wrong c) (flat_map names_in (constants_of c)))
      (λ a. no_member (Wrong (whole (made seed size))) (subst (λ es. Any (Wrong (whole (made seed size))) (flat_map names_in es)) whole_constants a))
      (λ i a. no_member (Wrong (plant_of seed size i)) a)
    where
      Wrong : Component → Name → Type 0
      Wrong c nm = (nm.at ≡ at) × IsTrue (is_wrong is_constant (found c nm))

  -- ---- definitions of algebraic variables

  no_algs : (ds : List DeclTree) → AllByRecursion (λ d. alg_of d ≡ None) ds → filter_map alg_of ds ≡ []
  no_algs [] h = refl
  no_algs (d ∷ ds) h = rw h.0 (no_algs ds h.1)

  pub no_equations : (at count : ℕ) → EquationsDue (made seed size) at count → ⊥
  no_equations at count = in_no_body seed size (λ c. Any (Wrong c) (algs_of c))
      (λ a. no_member (Wrong (whole (made seed size))) (subst (λ xs. Any (Wrong (whole (made seed size))) xs) (no_algs (decls_of (whole (made seed size))) none) a))
      (λ i a. no_member (Wrong (plant_of seed size i)) a)
    where
      Wrong : Component → Ident × Option Tree → Type 0
      Wrong c a = (a.0.at ≡ at) × Contains (definition_counts c a.0.text a.1) count × (count ≢ 1)

      block : (b : Bool) (i : ℕ) → AllByRecursion (λ d. alg_of d ≡ None) (flat_map item_decls (items_for seed size b i))
      block true i = (refl, (refl, (refl, (refl, tt))))
      block false i = (refl, (refl, (refl, tt)))

      none : AllByRecursion (λ d. alg_of d ≡ None) (decls_of (whole (made seed size)))
      none = each_item seed size (λ d. alg_of d ≡ None) item_decls block

  -- ---- definitions that reach themselves

  abbrev Finds : ScopeEntry → StandingInstance → Type 0
  Finds y i = definition_found i.0 i.1 ≡ reached y

  abbrev Names : Component → ScopeEntry → Name → Type 0
  Names c y nm = found_written c nm ≡ reached y

  -- no definition, type or constant
  Reaches-nothing : Component → Ident × Entry → Type 0
  Reaches-nothing c e = (instances_within (c, e.1) ≡ []) × (names_of e.1 ≡ [])

  pub no_chain : {A : Type 0} (R : A → A → Type 0) (x z : A) → ((y : A) → R x y → ⊥) → Chain R x z → ⊥
  no_chain R x z h (one r) = h z r
  no_chain R x z h (more {y = y} r c) = h y r

  reaches_not : (c : Component) (e : Ident × Entry) → Reaches-nothing c e → ReachesItself (c, e.1) → ⊥
  unfolding Reaches-nothing
  reaches_not c e h (inl d) = no_chain ReachesDefinition (c, e.1) (c, e.1) (λ y r. no_member (Finds y) (subst (λ is. Any (Finds y) is) h.0 r)) d
  reaches_not c e h (inr d) = no_chain ReachesType (c, e.1) (c, e.1) (λ y r. no_member (Names c y) (subst (λ ns. Any (Names c y) ns) h.1 r)) d

  pub no_cycle : (at : ℕ) → DefinitionCycleDue (made seed size) at → ⊥
  unfolding Reaches-nothing
  no_cycle at = in_no_body seed size (λ c. Any (Cycle c) (scope_of c))
      (λ a. any_none (Cycle (whole (made seed size))) (scope_of (whole (made seed size))) (not_reached (whole (made seed size)) (scope_of (whole (made seed size))) entries) a)
      (λ i a. any_none (Cycle (plant_of seed size i)) (scope_of (plant_of seed size i)) (not_reached (plant_of seed size i) (scope_of (plant_of seed size i)) ((refl, refl), ((refl, refl), ((refl, refl), tt)))) a)
    where
      Cycle : Component → Ident × Entry → Type 0
      Cycle c e = (e.0.at ≡ at) × ReachesItself (c, e.1)

      not_reached : (c : Component) (es : Entries) → AllByRecursion (Reaches-nothing c) es → AllByRecursion (λ e. Cycle c e → ⊥) es
      not_reached c [] h = tt
      not_reached c (e ∷ es) h = ((λ w. reaches_not c e h.0 w.1), not_reached c es h.1)

      block : (b : Bool) (i : ℕ) → AllByRecursion (Reaches-nothing (whole (made seed size))) (flat_map item_entries (items_for seed size b i))
      block true i = ((refl, refl), ((refl, refl), ((refl, refl), ((refl, refl), tt))))
      block false i = ((refl, refl), ((refl, refl), ((refl, refl), ((refl, refl), tt))))

      entries : AllByRecursion (Reaches-nothing (whole (made seed size))) (scope_of (whole (made seed size)))
      entries = each_item seed size (Reaches-nothing (whole (made seed size))) item_entries block
