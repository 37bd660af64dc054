-- The names that a body writes, each with the sort that its position asks for (CIF 3 language reference, "Scoping").
use Rattle.std.specs.Prelude.{Bool, true, false, List, [], ◌∷◌, ◌++◌, map, flat_map, filter_map, Option, Some, None, unwrap_or}
use Rattle.std.specs.Option.{option_map, option_to_list}
use Rattle.cif_ast.specs.Tree.{Tree, node, Shape, truth, number, named, received, paren, negative, positive, negation, absolute, least, greatest, sum, product, comparison, all_of, any_of, implication, equivalence, choice, Trees, no_trees, trees, Terms, no_terms, terms, Factors, no_factors, factors, Branches, no_branches, branches, UpdateTree, assignment, selection, UpdateTrees, no_updates, updates, UpdateBranches, no_update_branches, update_branches}
use Rattle.cif_ast.specs.declared.names.Ident.{Ident}
use Rattle.cif_ast.specs.declared.names.Name.{Name}
use Rattle.cif_source.specs.Source.{TypeTree, bool_type, int_type, range_type, named_type, ChannelTree, no_type, void_type, value_type, RoleTree, syncs, sends, receives, UseTree, EdgeTree, EquationTree, LocationTree, InvariantTree, always, needs, disables, DeclTree, type_decl, enum_decl, event_decl, const_decl, alg_decl, input_decl, disc_decl, equation_decl, invariant_decl, marked_decl, ParamTree, event_param, alg_param, location_param, SourceItem, decl_item, instance_item, SourceBody, group_body, automaton_body, list_of_items}
use Rattle.cif_source.specs.Components.{Component, body_of, params_of, Entry, declared, literal, location, definition, parameter}
use Rattle.cif_source.specs.Objects.{decls_of, locs_of}
use Rattle.cif_source.specs.Lookup.{Reached, reached, missing, in_scope, found, looked_up, inside_written, definition_found}

-- ---- a bare name

abbrev pub bare_shape : Shape → Option Name
bare_shape (truth b) = None
bare_shape (number z) = None
bare_shape (named nm) = Some nm
bare_shape received = None
bare_shape (paren e) = None
bare_shape (negative e) = None
bare_shape (positive e) = None
bare_shape (negation e) = None
bare_shape (absolute e) = None
bare_shape (least a b) = None
bare_shape (greatest a b) = None
bare_shape (sum e es) = None
bare_shape (product e es) = None
bare_shape (comparison a op b) = None
bare_shape (all_of es) = None
bare_shape (any_of es) = None
bare_shape (implication a b) = None
bare_shape (equivalence a b) = None
bare_shape (choice bs e) = None

-- the name that an expression is, where it is nothing else
abbrev pub bare_name : Tree → Option Name
bare_name (node form at) = bare_shape form

-- ---- in expressions

abbrev mutual
  pub names_in : Tree → List Name
  names_in (node form at) = shape_names form

  pub shape_names : Shape → List Name
  shape_names (truth b) = []
  shape_names (number z) = []
  shape_names (named nm) = nm ∷ []
  shape_names received = []
  shape_names (paren e) = names_in e
  shape_names (negative e) = names_in e
  shape_names (positive e) = names_in e
  shape_names (negation e) = names_in e
  shape_names (absolute e) = names_in e
  shape_names (least a b) = names_in a ++ names_in b
  shape_names (greatest a b) = names_in a ++ names_in b
  shape_names (sum e es) = names_in e ++ term_names es
  shape_names (product e es) = names_in e ++ factor_names es
  shape_names (comparison a op b) = names_in a ++ names_in b
  shape_names (all_of es) = names_in_all es
  shape_names (any_of es) = names_in_all es
  shape_names (implication a b) = names_in a ++ names_in b
  shape_names (equivalence a b) = names_in a ++ names_in b
  shape_names (choice bs e) = branch_names bs ++ names_in e

  pub term_names : Terms → List Name
  term_names no_terms = []
  term_names (terms minus e es) = names_in e ++ term_names es

  pub factor_names : Factors → List Name
  factor_names no_factors = []
  factor_names (factors op e es) = names_in e ++ factor_names es

  pub names_in_all : Trees → List Name
  names_in_all no_trees = []
  names_in_all (trees e es) = names_in e ++ names_in_all es

  pub branch_names : Branches → List Name
  branch_names no_branches = []
  branch_names (branches cs e bs) = names_in_all cs ++ names_in e ++ branch_names bs

-- ---- in bodies

-- what a position asks for
pub data Asked : Type 0 where
  event_asked location_asked type_asked definition_asked variable_asked value_asked any_asked : Asked

pub record Use : Type 0 where
  pub name : Name
  pub asks : Asked

abbrev pub asking : Asked → List Name → List Use
asking a nms = map (λ nm. record { name = nm; asks = a }) nms

abbrev pub value_uses : Tree → List Use
value_uses e = asking value_asked (names_in e)

abbrev pub type_uses : TypeTree → List Use
type_uses bool_type = []
type_uses int_type = []
type_uses (range_type lower upper) = value_uses lower ++ value_uses upper
type_uses (named_type nm) = asking type_asked (nm ∷ [])

abbrev pub channel_uses : ChannelTree → List Use
channel_uses no_type = []
channel_uses void_type = []
channel_uses (value_type ty) = type_uses ty

abbrev pub optional_uses : Option Tree → List Use
optional_uses e = flat_map value_uses (option_to_list e)

abbrev pub invariant_uses : InvariantTree → List Use
invariant_uses (always p) = value_uses p
invariant_uses (needs nms p) = asking event_asked nms ++ value_uses p
invariant_uses (disables p nms) = value_uses p ++ asking event_asked nms

abbrev pub decl_uses : DeclTree → List Use
decl_uses (type_decl n ty) = type_uses ty
decl_uses (enum_decl n ls) = []
decl_uses (event_decl k h n) = channel_uses h
decl_uses (const_decl ty n e) = type_uses ty ++ value_uses e
decl_uses (alg_decl ty n e) = type_uses ty ++ optional_uses e
decl_uses (input_decl ty n) = type_uses ty
decl_uses (disc_decl ty n e) = type_uses ty ++ optional_uses e
decl_uses (equation_decl q) = value_uses q.value
decl_uses (invariant_decl i) = invariant_uses i
decl_uses (marked_decl p) = value_uses p

abbrev pub param_uses : ParamTree → List Use
param_uses (event_param k h n) = channel_uses h
param_uses (alg_param ty n) = type_uses ty
param_uses (location_param n) = []

-- a bare name as an argument asks for what its parameter is
abbrev pub arg_uses : Tree → ParamTree → List Use
arg_uses (node (named nm) at) (event_param k h n) = asking event_asked (nm ∷ [])
arg_uses (node (named nm) at) (location_param n) = asking location_asked (nm ∷ [])
arg_uses e p = value_uses e

-- a bare name without a parameter, past the last one or where the definition is not found, asks for no sort
abbrev pub stray_uses : Tree → List Use
stray_uses (node (named nm) at) = asking any_asked (nm ∷ [])
stray_uses e = value_uses e

abbrev pub args_uses : List Tree → List ParamTree → List Use
args_uses [] ps = []
args_uses (e ∷ es) [] = stray_uses e ++ args_uses es []
args_uses (e ∷ es) (p ∷ ps) = arg_uses e p ++ args_uses es ps

abbrev pub params_at : Reached → List ParamTree
params_at (reached (o, definition n ps b)) = ps
params_at _ = []

abbrev pub item_uses : Component → SourceItem → List Use
item_uses c (decl_item d) = decl_uses d
item_uses c (instance_item i) = asking definition_asked (i.def ∷ []) ++ args_uses i.args (params_at (definition_found c i))
item_uses c _ = []

abbrev pub role_uses : RoleTree → List Use
role_uses syncs = []
role_uses (sends e) = optional_uses e
role_uses receives = []

abbrev pub event_uses : UseTree → List Use
event_uses u = asking event_asked (u.name ∷ []) ++ role_uses u.role

abbrev mutual
  pub updates_uses : UpdateTrees → List Use
  updates_uses no_updates = []
  updates_uses (updates u us) = update_uses u ++ updates_uses us

  pub update_uses : UpdateTree → List Use
  update_uses (assignment nm e) = asking variable_asked (nm ∷ []) ++ value_uses e
  update_uses (selection bs us) = branches_uses bs ++ updates_uses us

  pub branches_uses : UpdateBranches → List Use
  branches_uses no_update_branches = []
  branches_uses (update_branches cs us bs) = asking value_asked (names_in_all cs) ++ updates_uses us ++ branches_uses bs

abbrev pub edge_uses : EdgeTree → List Use
edge_uses e = flat_map event_uses e.uses ++ flat_map value_uses e.guards ++ updates_uses e.updates

abbrev pub location_uses : LocationTree → List Use
location_uses l = flat_map value_uses l.marked ++ flat_map (λ (q : EquationTree). value_uses q.value) l.equations ++ flat_map edge_uses l.edges

abbrev pub body_uses : Component → SourceBody → List Use
body_uses c (group_body is) = flat_map (item_uses c) (list_of_items is)
body_uses c (automaton_body a) =
    flat_map decl_uses a.decls
    ++ asking event_asked (unwrap_or a.alphabet [])
    ++ asking event_asked (unwrap_or a.monitor [])
    ++ flat_map location_uses a.locs

-- the names that a body writes, without those in its components and definitions
abbrev pub uses : Component → List Use
uses c = flat_map param_uses (params_of c) ++ body_uses c (body_of c)

-- what is declared is of the asked sort
abbrev pub is_asked : Asked → Entry → Bool
is_asked event_asked (declared (event_decl k h n)) = true
is_asked event_asked (parameter i (event_param k h n)) = true
is_asked location_asked (location k) = true
is_asked location_asked (parameter i (location_param n)) = true
is_asked type_asked (declared (type_decl n ty)) = true
is_asked type_asked (declared (enum_decl n ls)) = true
is_asked definition_asked (definition n ps b) = true
is_asked variable_asked (declared (disc_decl ty n e)) = true
is_asked value_asked (declared (const_decl ty n e)) = true
is_asked value_asked (declared (alg_decl ty n e)) = true
is_asked value_asked (declared (input_decl ty n)) = true
is_asked value_asked (declared (disc_decl ty n e)) = true
is_asked value_asked (parameter i (alg_param ty n)) = true
is_asked value_asked (parameter i (location_param n)) = true
is_asked value_asked (location k) = true
is_asked value_asked (literal k ls) = true
is_asked any_asked e = true
is_asked _ _ = false

-- a definition is not reached through an instance
abbrev pub definition_sought : Component → Name → Reached
definition_sought c nm = elim (found c nm) [ missing ↦ missing | _ ↦ looked_up inside_written c nm ]

abbrev pub sought : Component → Use → Reached
sought c u = elim u.asks [ definition_asked ↦ definition_sought c u.name | _ ↦ found c u.name ]

-- ---- names of the own scope

-- a name that is looked up in its own scope alone: the target of an edge, or the left side of an equation
pub data OwnName : Type 0 where
  target : Ident → OwnName
  left_side : Ident → OwnName

abbrev pub own_ident : OwnName → Ident
own_ident (target n) = n
own_ident (left_side n) = n

abbrev pub own_sought : Component → OwnName → Reached
own_sought c n = in_scope c (own_ident n).text

abbrev pub is_own_asked : OwnName → Entry → Bool
is_own_asked (target n) (location k) = true
is_own_asked (left_side n) (declared (alg_decl ty m e)) = true
is_own_asked _ _ = false

abbrev pub decl_own_names : DeclTree → List OwnName
decl_own_names (equation_decl q) = left_side q.name ∷ []
decl_own_names _ = []

abbrev pub edge_target : EdgeTree → Option OwnName
edge_target e = option_map target e.target

abbrev pub location_own_names : LocationTree → List OwnName
location_own_names l = map (λ (q : EquationTree). left_side q.name) l.equations ++ filter_map edge_target l.edges

abbrev pub own_names : Component → List OwnName
own_names c = flat_map decl_own_names (decls_of c) ++ flat_map location_own_names (locs_of c)
