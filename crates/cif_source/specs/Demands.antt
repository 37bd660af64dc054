-- What the positions of a body ask for: the kinds of expressions, how events are used, and the arguments of instances (CIF 3
-- language reference, "Expressions", "Channels", "Component definition and instantiation").
use Rattle.std.specs.Prelude.{Bool, true, false, not, ◌||◌, List, [], ◌∷◌, ◌++◌, map, flat_map, zip, Option, Some, None, if◌then◌else◌}
use Rattle.std.specs.Option.{option_to_list}
use Rattle.cif_ast.specs.Tree.{Tree, node, named, UpdateTree, assignment, selection, UpdateTrees, no_updates, updates, UpdateBranches, no_update_branches, update_branches}
use Rattle.cif_ast.specs.declared.names.Name.{Name}
use Rattle.cif_ast.specs.declared.declarations.Class.{Class}
use Rattle.cif_ast.specs.declared.declarations.Class.TheVariants as class
use Rattle.cif_system.specs.Step.{same_class}
use Rattle.cif_source.specs.Source.{ChannelTree, no_type, void_type, value_type, RoleTree, syncs, sends, receives, UseTree, EdgeTree, EquationTree, LocationTree, InvariantTree, always, needs, disables, DeclTree, event_decl, const_decl, alg_decl, disc_decl, equation_decl, invariant_decl, marked_decl, ParamTree, event_param, alg_param, location_param, InstanceTree, list_of_trees}
use Rattle.cif_source.specs.Components.{Component, blank, declared, definition, parameter}
use Rattle.cif_source.specs.Lookup.{Reached, reached, found, in_scope, definition_found}
use Rattle.cif_source.specs.Objects.{decls_of, locs_of}
use Rattle.cif_source.specs.Step.{class_of}
use Rattle.cif_source.specs.Scoping.{instances_of}
use Rattle.cif_source.specs.Kinds.{Kind, bool_kind, int_kind, no_kind, same_kind, type_kind, kind_at, Demand, demand, operands}
use Rattle.cif_source.specs.Constants.{bound_values}

-- what the expression is asked for, and what its operands are
abbrev pub demanded : Component → Kind → Kind → Tree → List Demand
demanded c r k e = demand r k e ∷ operands c r e

-- where nothing is received
abbrev pub asked_for : Component → Kind → Tree → List Demand
asked_for c k e = demanded c no_kind k e

-- ---- events

-- what is sent along an event: it is no channel, a channel without a value, or one with values of a kind
pub data ChannelKind : Type 0 where
  not_channel void_channel : ChannelKind
  channel_for : Kind → ChannelKind

abbrev pub same_channel : ChannelKind → ChannelKind → Bool
same_channel not_channel not_channel = true
same_channel void_channel void_channel = true
same_channel (channel_for j) (channel_for k) = same_kind j k
same_channel _ _ = false

abbrev pub channel_kind : Component → ChannelTree → ChannelKind
channel_kind c no_type = not_channel
channel_kind c void_type = void_channel
channel_kind c (value_type ty) = channel_for (type_kind c ty)

abbrev pub channel_at : Reached → ChannelKind
channel_at (reached (c, declared (event_decl k h n))) = channel_kind c h
channel_at (reached (c, parameter i (event_param k h n))) = channel_kind c h
channel_at _ = not_channel

abbrev pub event_channel : Component → Name → ChannelKind
event_channel c nm = channel_at (found c nm)

-- a use without `!` and `?` fits every event, a value asks for a channel with values, `!` alone for a void channel, and `?`
-- for a channel
abbrev pub is_unfit : RoleTree → ChannelKind → Bool
is_unfit syncs h = false
is_unfit (sends (Some e)) (channel_for k) = false
is_unfit (sends (Some e)) h = true
is_unfit (sends None) void_channel = false
is_unfit (sends None) h = true
is_unfit receives not_channel = true
is_unfit receives h = false

-- a sent value has the kind of its channel
abbrev pub sent_demands : Component → ChannelKind → Tree → List Demand
sent_demands c (channel_for k) e = asked_for c k e
sent_demands c h e = operands c no_kind e

abbrev pub use_demands : Component → UseTree → List Demand
use_demands c u = elim u.role [ syncs ↦ [] | sends e ↦ flat_map (sent_demands c (event_channel c u.name)) (option_to_list e) | receives ↦ [] ]

abbrev pub carried_kind : ChannelKind → Kind
carried_kind (channel_for k) = k
carried_kind _ = no_kind

abbrev pub received_by : Component → UseTree → Kind
received_by c u = elim u.role [ syncs ↦ no_kind | sends e ↦ no_kind | receives ↦ carried_kind (event_channel c u.name) ]

abbrev pub one_kind : Kind → Kind → Kind
one_kind j k = if same_kind j k then j else no_kind

-- the one kind that all uses of an edge receive
abbrev pub edge_received : Component → List UseTree → Kind
edge_received c [] = no_kind
edge_received c (u ∷ []) = received_by c u
edge_received c (u ∷ v ∷ us) = one_kind (received_by c u) (edge_received c (v ∷ us))

-- ---- edges and locations

-- an assigned value has the kind of its variable
abbrev mutual
  pub updates_demands : Component → Kind → UpdateTrees → List Demand
  updates_demands c r no_updates = []
  updates_demands c r (updates u us) = update_demands c r u ++ updates_demands c r us

  pub update_demands : Component → Kind → UpdateTree → List Demand
  update_demands c r (assignment nm e) = demanded c r (kind_at (found c nm)) e
  update_demands c r (selection bs us) = branches_demands c r bs ++ updates_demands c r us

  pub branches_demands : Component → Kind → UpdateBranches → List Demand
  branches_demands c r no_update_branches = []
  branches_demands c r (update_branches cs us bs) = flat_map (demanded c r bool_kind) (list_of_trees cs) ++ updates_demands c r us ++ branches_demands c r bs

-- `?` stands in updates alone
abbrev pub edge_demands : Component → EdgeTree → List Demand
edge_demands c e =
    flat_map (use_demands c) e.uses
    ++ flat_map (asked_for c bool_kind) e.guards
    ++ updates_demands c (edge_received c e.uses) e.updates

-- the value of an algebraic variable of the same body
abbrev pub equation_demands : Component → EquationTree → List Demand
equation_demands c q = asked_for c (kind_at (in_scope c q.name.text)) q.value

abbrev pub location_demands : Component → LocationTree → List Demand
location_demands c l = flat_map (asked_for c bool_kind) l.marked ++ flat_map (equation_demands c) l.equations ++ flat_map (edge_demands c) l.edges

-- ---- declarations

abbrev pub predicate_of : InvariantTree → Tree
predicate_of (always p) = p
predicate_of (needs nms p) = p
predicate_of (disables p nms) = p

abbrev pub optional_demands : Component → Kind → Option Tree → List Demand
optional_demands c k e = flat_map (asked_for c k) (option_to_list e)

abbrev pub decl_demands : Component → DeclTree → List Demand
decl_demands c (const_decl ty n e) = asked_for c (type_kind c ty) e
decl_demands c (alg_decl ty n e) = optional_demands c (type_kind c ty) e
decl_demands c (disc_decl ty n e) = optional_demands c (type_kind c ty) e
decl_demands c (equation_decl q) = equation_demands c q
decl_demands c (invariant_decl i) = asked_for c bool_kind (predicate_of i)
decl_demands c (marked_decl p) = asked_for c bool_kind p
decl_demands c _ = []

-- ---- arguments

-- an argument with its parameter, and the definition in which the parameter's type is read
pub record Argument : Type 0 where
  pub value : Tree
  pub param : ParamTree
  pub definition : Component

abbrev pub arguments_at : InstanceTree → Reached → List Argument
arguments_at i (reached (o, definition n ps b)) = map (λ x. record { value = x.0; param = x.1; definition = blank o n ps b }) (zip i.args ps)
arguments_at i _ = []

abbrev pub arguments_in : Component → List Argument
arguments_in c = flat_map (λ i. arguments_at i (definition_found c i)) (instances_of c)

-- an argument for an `alg` parameter has its kind; any other is asked for no kind, and its operands are as ever
abbrev pub argument_demands : Component → Argument → List Demand
argument_demands c a = elim a.param [
  | event_param k h n ↦ operands c no_kind a.value
  | alg_param ty n ↦ asked_for c (type_kind a.definition ty) a.value
  | location_param n ↦ operands c no_kind a.value
]

-- the event has the class, where one is asked; a parameter `event` that is passed on has none
abbrev pub has_asked_class : Class → Reached → Bool
has_asked_class class.Plain r = true
has_asked_class k (reached (c, declared (event_decl j h n))) = same_class (class_of k) (class_of j)
has_asked_class k (reached (c, parameter i (event_param j h n))) = same_class (class_of k) (class_of j)
has_asked_class k _ = false

-- an argument for an event or a location is a bare name, and an event has the channel and the class of its parameter
abbrev pub is_unfit_for : Component → Component → Tree → ParamTree → Bool
is_unfit_for c d (node (named nm) at) (event_param k h n) = not (same_channel (event_channel c nm) (channel_kind d h)) || not (has_asked_class k (found c nm))
is_unfit_for c d e (event_param k h n) = true
is_unfit_for c d (node (named nm) at) (location_param n) = false
is_unfit_for c d e (location_param n) = true
is_unfit_for c d e (alg_param ty n) = false

-- ---- all of a body

-- the expressions that a body writes with the kinds that are asked for; those in its components and definitions left out
abbrev pub demands : Component → List Demand
demands c =
    flat_map (asked_for c int_kind) (bound_values c)
    ++ flat_map (decl_demands c) (decls_of c)
    ++ flat_map (argument_demands c) (arguments_in c)
    ++ flat_map (location_demands c) (locs_of c)
