-- The rules on kinds, constants, locations and updates, each with the fields of its refusal. They are about each body as
-- written, that of a definition which nobody instantiates too (CIF 3 language reference, "Expressions", "Constants",
-- "Automata", "Algebraic variables").
use Rattle.std.specs.Prelude.{◌≡◌, ◌≢◌, ℕ, ◌⊎◌, Bool, true, false, IsTrue, List, [], ◌∷◌, ◌++◌, map, filter, flat_map, filter_map, length, Option, Some, None, option_map}
use Rattle.std.specs.List.{Any, Contains}
use Rattle.cif_ast.specs.Tree.{Tree, UpdateTree, assignment, selection, UpdateTrees, no_updates, updates, UpdateBranches, no_update_branches, update_branches}
use Rattle.cif_ast.specs.declared.names.Ident.{Ident}
use Rattle.cif_ast.specs.declared.names.Name.{Name}
use Rattle.cif_source.specs.Source.{Text, EdgeTree, UseTree, LocationTree, DeclTree, alg_decl, const_decl, group_body, automaton_body, Source, list_of_updates, tree_at}
use Rattle.cif_system.specs.Words.{Before}
use Rattle.cif_source.specs.Components.{Component, body_of, written_name, Entry, declared, literal}
use Rattle.cif_source.specs.Lookup.{ScopeEntry, Reached, reached, missing, blocked, found}
use Rattle.cif_source.specs.Objects.{bodies, decls_of, locs_of, is_automaton}
use Rattle.cif_source.specs.Value.{own_definitions, location_definitions}
use Rattle.cif_source.specs.Uses.{names_in}
use Rattle.cif_source.specs.Scoping.{is_wrong}
use Rattle.cif_source.specs.Kinds.{Demand, kind_of, same_kind}
use Rattle.cif_source.specs.Constants.{constants_of}
use Rattle.cif_source.specs.Demands.{demands, is_unfit, event_channel, Argument, arguments_in, is_unfit_for}

abbrev pub edges_of : Component → List EdgeTree
edges_of c = flat_map (λ (l : LocationTree). l.edges) (locs_of c)

-- ---- kinds

-- the expression there has another kind than its position asks for, or it is a `?` and nothing is received
abbrev pub BadValue : Component → ℕ → Type 0
BadValue c at = Any (λ (d : Demand). (tree_at d.value ≡ at) × (same_kind (kind_of c d.received_kind d.value) d.kind ≡ false)) (demands c)

-- the use of the event there does not fit what is sent along it
abbrev pub BadUse : Component → ℕ → Type 0
BadUse c at = Any (λ (u : UseTree). (u.name.at ≡ at) × IsTrue (is_unfit u.role (event_channel c u.name))) (flat_map (λ (e : EdgeTree). e.uses) (edges_of c))

-- the argument there does not fit its parameter
abbrev pub BadArgument : Component → ℕ → Type 0
BadArgument c at = Any (λ (a : Argument). (tree_at a.value ≡ at) × IsTrue (is_unfit_for c a.definition a.value a.param)) (arguments_in c)

abbrev pub MismatchDue : Source → ℕ → Type 0
MismatchDue t at = Any (λ c. BadValue c at ⊎ BadUse c at ⊎ BadArgument c at) (bodies t)

-- ---- constants

abbrev pub is_constant : Entry → Bool
is_constant (declared (const_decl ty n e)) = true
is_constant (literal k ls) = true
is_constant _ = false

-- the name there stands in a bound of a type, the value of a constant or a first value, and is no constant and no literal
abbrev pub NotConstantDue : Source → ℕ → Type 0
NotConstantDue t at = Any (λ c. Any (λ (nm : Name). (nm.at ≡ at) × IsTrue (is_wrong is_constant (found c nm))) (flat_map names_in (constants_of c))) (bodies t)

-- ---- initial locations

-- where the name of a component stands, in the body as written
abbrev pub name_at : Component → Option ℕ
name_at c = option_map (λ (n : Ident). n.at) (written_name c)

abbrev pub initial_count : Component → ℕ
initial_count a = length (filter (λ (l : LocationTree). l.initial) (locs_of a))

-- the automaton whose name stands there has so many initial locations, and not one
pub record HasInitials (a : Component) (at count : ℕ) : Type 0 where
  pub automaton : IsTrue (is_automaton (body_of a))
  pub named : name_at a ≡ Some at
  pub counted : count ≡ initial_count a
  pub other : count ≢ 1

abbrev pub InitialsDue : Source → ℕ → ℕ → Type 0
InitialsDue t at count = Any (λ a. HasInitials a at count) (bodies t)

-- ---- assigned variables

-- the names that are assigned, at any depth
abbrev mutual
  pub targets_of_all : UpdateTrees → List Name
  targets_of_all no_updates = []
  targets_of_all (updates u us) = targets_of u ++ targets_of_all us

  pub targets_of : UpdateTree → List Name
  targets_of (assignment nm e) = nm ∷ []
  targets_of (selection bs us) = targets_of_branches bs ++ targets_of_all us

  pub targets_of_branches : UpdateBranches → List Name
  targets_of_branches no_update_branches = []
  targets_of_branches (update_branches cs us bs) = targets_of_all us ++ targets_of_branches bs

-- the name leads to another component, as a name does that passes an instance
abbrev pub LeadsElsewhere : Component → Reached → Type 0
LeadsElsewhere c (reached p) = p.0 ≢ c
LeadsElsewhere c missing = ⊥
LeadsElsewhere c blocked = ⊥

-- the variable that is assigned there is not declared in the same body
abbrev pub NotOwnDue : Source → ℕ → Type 0
NotOwnDue t at = Any (λ c. Any (λ (nm : Name). (nm.at ≡ at) × LeadsElsewhere c (found c nm)) (flat_map (λ (e : EdgeTree). targets_of_all e.updates) (edges_of c))) (bodies t)

-- the lists of updates within updates, at any depth
abbrev mutual
  pub lists_in_all : UpdateTrees → List UpdateTrees
  lists_in_all no_updates = []
  lists_in_all (updates u us) = lists_in u ++ lists_in_all us

  pub lists_in : UpdateTree → List UpdateTrees
  lists_in (assignment nm e) = []
  lists_in (selection bs us) = lists_in_branches bs ++ us ∷ lists_in_all us

  pub lists_in_branches : UpdateBranches → List UpdateTrees
  lists_in_branches no_update_branches = []
  lists_in_branches (update_branches cs us bs) = us ∷ lists_in_all us ++ lists_in_branches bs

-- the list of updates of an edge, and those within it
abbrev pub lists_of : EdgeTree → List UpdateTrees
lists_of e = e.updates ∷ lists_in_all e.updates

-- two updates of one list assign one variable, and the later name stands there
pub record AssignsTwice (c : Component) (us : UpdateTrees) (at : ℕ) : Type 0 where
  pub earlier : UpdateTree
  pub later : UpdateTree
  pub order : Before earlier later (list_of_updates us)
  pub earlier_name : Name
  pub later_name : Name
  pub earlier_assigns : Contains (targets_of earlier) earlier_name
  pub later_assigns : Contains (targets_of later) later_name
  pub later_at : later_name.at ≡ at
  pub variable : ScopeEntry
  pub earlier_found : found c earlier_name ≡ reached variable
  pub later_found : found c later_name ≡ reached variable

abbrev pub AssignedTwiceDue : Source → ℕ → Type 0
AssignedTwiceDue t at = Any (λ c. Any (λ us. AssignsTwice c us at) (flat_map lists_of (edges_of c))) (bodies t)

-- ---- definitions of algebraic variables

abbrev pub alg_of : DeclTree → Option (Ident × Option Tree)
alg_of (alg_decl ty n e) = Some (n, e)
alg_of _ = None

-- the algebraic variables of a component, each with its declared value
abbrev pub algs_of : Component → List (Ident × Option Tree)
algs_of c = filter_map alg_of (decls_of c)

-- how many definitions the variable x has: once for a group, and for each location of an automaton
abbrev pub definition_counts : Component → Text → Option Tree → List ℕ
definition_counts c x e = elim (body_of c) [
  | group_body is ↦ length (own_definitions c x e) ∷ []
  | automaton_body a ↦ map (λ l. length (own_definitions c x e ++ location_definitions x l)) a.locs
]

-- the algebraic variable whose name stands there has so many definitions, and not one
abbrev pub EquationsDue : Source → ℕ → ℕ → Type 0
EquationsDue t at count = Any (λ c. Any (λ (a : Ident × Option Tree). (a.0.at ≡ at) × Contains (definition_counts c a.0.text a.1) count × (count ≢ 1)) (algs_of c)) (bodies t)
