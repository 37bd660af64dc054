-- The first place at which the expressions of a body break what is asked of them, in the order in which they are read.
use Rattle.std.specs.Prelude.{ℕ, ◌+◌, List, [], ◌∷◌, Option, Some, None, unwrap_or}
use Rattle.cif_ast.specs.Tree.{Tree, UpdateTree, assignment, selection, UpdateTrees, no_updates, updates, UpdateBranches, no_update_branches, update_branches}
use Rattle.cif_ast.specs.declared.names.Ident.{Ident}
use Rattle.cif_source.specs.Source.{TypeTree, bool_type, int_type, range_type, named_type, ChannelTree, no_type, void_type, value_type, syncs, sends, receives, UseTree, EdgeTree, EquationTree, LocationTree, DeclTree, type_decl, enum_decl, event_decl, const_decl, alg_decl, input_decl, disc_decl, equation_decl, invariant_decl, marked_decl, ParamTree, event_param, alg_param, location_param, InstanceTree, SourceItem, decl_item, component_item, definition_item, instance_item, SourceBody, group_body, automaton_body, AutomatonTree, Source, no_source, source}
use Rattle.cif_source.specs.Components.{Component}
use Rattle.cif_source.specs.Lookup.{in_scope, found}
use Rattle.cif_source.specs.Kinds.{Kind, bool_kind, int_kind, no_kind, kind_at}
use Rattle.cif_source.specs.Demands.{ChannelKind, not_channel, void_channel, channel_for, event_channel, received_by, one_kind, predicate_of}
use Rattle.cif_scope.specs.declared.scope.What.{What}
use Rattle.cif_scope.specs.declared.scope.What.TheVariants as what
use Rattle.cif_scope.specs.declared.scope.ParamSort.TheVariants as param
use Rattle.cif_scope.specs.declared.scopes.Scopes.{Scopes}
use Rattle.cif_scope.specs.Looks.{what_at, definition_at}
use Rattle.cif_scope.specs.Drafts.{next_instance}
use Rattle.cif_scope.specs.Written.{WrittenBody}
use Rattle.cif_types_kinds.specs.declared.table.KindTable.{KindTable}
use Rattle.cif_types_kinds.specs.Tables.{kind_for, kind_at_slot}
use Rattle.cif_types_kinds.specs.Faults.{or_later, then_asked, fault, truth_fault}

abbrev pub first_told : {A : Type 0} → (A → Option ℕ) → List A → Option ℕ
first_told f [] = None
first_told f (x ∷ xs) = or_later (f x) (first_told f xs)

-- an expression that is asked for a kind
abbrev pub value_told : Component → Kind → Kind → Tree → Option ℕ
value_told c r k e = then_asked c r k e (fault c r e)

abbrev pub optional_told : Component → Kind → Kind → Option Tree → Option ℕ
optional_told c r k None = None
optional_told c r k (Some e) = value_told c r k e

-- the value of what the body itself declares under the name
abbrev pub own_told : Component → Kind → Ident → Tree → Option ℕ
own_told c r n e = value_told c r (kind_at (in_scope c n.text)) e

-- ---- types

abbrev pub type_told : Component → Kind → TypeTree → Option ℕ
type_told c r bool_type = None
type_told c r int_type = None
type_told c r (range_type lower upper) = or_later (value_told c r int_kind lower) (value_told c r int_kind upper)
type_told c r (named_type nm) = None

abbrev pub channel_told : Component → Kind → ChannelTree → Option ℕ
channel_told c r no_type = None
channel_told c r void_type = None
channel_told c r (value_type ty) = type_told c r ty

abbrev pub param_told : Component → Kind → ParamTree → Option ℕ
param_told c r (event_param k h n) = channel_told c r h
param_told c r (alg_param ty n) = type_told c r ty
param_told c r (location_param n) = None

abbrev pub decl_type_told : Component → Kind → DeclTree → Option ℕ
decl_type_told c r (type_decl n ty) = type_told c r ty
decl_type_told c r (enum_decl n ls) = None
decl_type_told c r (event_decl k h n) = channel_told c r h
decl_type_told c r (const_decl ty n e) = type_told c r ty
decl_type_told c r (alg_decl ty n e) = type_told c r ty
decl_type_told c r (input_decl ty n) = type_told c r ty
decl_type_told c r (disc_decl ty n e) = type_told c r ty
decl_type_told c r (equation_decl q) = None
decl_type_told c r (invariant_decl i) = None
decl_type_told c r (marked_decl p) = None

-- ---- declarations

abbrev pub decl_told : Component → Kind → DeclTree → Option ℕ
decl_told c r (type_decl n ty) = None
decl_told c r (enum_decl n ls) = None
decl_told c r (event_decl k h n) = None
decl_told c r (const_decl ty n e) = own_told c r n e
decl_told c r (alg_decl ty n e) = optional_told c r (kind_at (in_scope c n.text)) e
decl_told c r (input_decl ty n) = None
decl_told c r (disc_decl ty n e) = optional_told c r (kind_at (in_scope c n.text)) e
decl_told c r (equation_decl q) = own_told c r q.name q.value
decl_told c r (invariant_decl i) = value_told c r bool_kind (predicate_of i)
decl_told c r (marked_decl p) = value_told c r bool_kind p

-- ---- edges

abbrev pub sent_told : Component → Kind → ChannelKind → Tree → Option ℕ
sent_told c r (channel_for k) e = value_told c r k e
sent_told c r void_channel e = fault c r e
sent_told c r not_channel e = fault c r e

abbrev pub optional_sent_told : Component → Kind → ChannelKind → Option Tree → Option ℕ
optional_sent_told c r h None = None
optional_sent_told c r h (Some e) = sent_told c r h e

abbrev pub use_told : Component → Kind → UseTree → Option ℕ
use_told c r u = elim u.role [ syncs ↦ None | sends e ↦ optional_sent_told c r (event_channel c u.name) e | receives ↦ None ]

-- k is the one kind that the uses before these receive, where there are any
abbrev pub joined : Option Kind → Kind → Option Kind
joined None k = Some k
joined (Some j) k = Some (one_kind j k)

abbrev pub received_from : Component → Option Kind → List UseTree → Option Kind
received_from c k [] = k
received_from c k (u ∷ us) = received_from c (joined k (received_by c u)) us

abbrev mutual
  pub updates_told : Component → Kind → UpdateTrees → Option ℕ
  updates_told c r no_updates = None
  updates_told c r (updates u us) = or_later (update_told c r u) (updates_told c r us)

  pub update_told : Component → Kind → UpdateTree → Option ℕ
  update_told c r (assignment nm e) = value_told c r (kind_at (found c nm)) e
  update_told c r (selection bs us) = or_later (update_branches_told c r bs) (updates_told c r us)

  pub update_branches_told : Component → Kind → UpdateBranches → Option ℕ
  update_branches_told c r no_update_branches = None
  update_branches_told c r (update_branches cs us bs) = or_later (truth_fault c r cs) (or_later (updates_told c r us) (update_branches_told c r bs))

abbrev pub edge_told : Component → Kind → EdgeTree → Option ℕ
edge_told c r e =
    or_later (first_told (use_told c r) e.uses)
    (or_later (first_told (value_told c r bool_kind) e.guards)
    (updates_told c (unwrap_or (received_from c None e.uses) no_kind) e.updates))

abbrev pub equation_told : Component → Kind → EquationTree → Option ℕ
equation_told c r q = own_told c r q.name q.value

abbrev pub location_told : Component → Kind → LocationTree → Option ℕ
location_told c r l =
    or_later (first_told (value_told c r bool_kind) l.marked) (or_later (first_told (equation_told c r) l.equations) (first_told (edge_told c r) l.edges))

-- ---- arguments

-- an argument of a parameter, of the kind k where that is algebraic; there may be no parameter
abbrev pub argument_told : Component → Kind → Kind → Option What → Tree → Option ℕ
argument_told c r k None e = None
argument_told c r k (Some (what.Parameter param.Algebraic)) e = value_told c r k e
argument_told c r k (Some (what.Parameter param.Event)) e = fault c r e
argument_told c r k (Some (what.Parameter param.Location)) e = fault c r e
argument_told c r k (Some (what.Declared d)) e = None
argument_told c r k (Some (what.Literal j)) e = None
argument_told c r k (Some (what.Location j)) e = None
argument_told c r k (Some (what.Component j)) e = None
argument_told c r k (Some (what.Definition j n)) e = None
argument_told c r k (Some (what.Instance j)) e = None

module _ (s : Scopes) (tb : KindTable) where
  -- the arguments from place k on, for the parameters of body j
  abbrev pub arguments_told : Component → Kind → (j k : ℕ) → List Tree → Option ℕ
  arguments_told c r j k [] = None
  arguments_told c r j k (e ∷ es) = or_later (argument_told c r (kind_for tb.lists (kind_at_slot tb j k)) (what_at s.table j k) e) (arguments_told c r j (k + 1) es)

  abbrev pub instance_told : Component → Kind → Option ℕ → InstanceTree → Option ℕ
  instance_told c r None i = None
  instance_told c r (Some j) i = arguments_told c r j 0 i.args

  -- an item of body b, where k is the number of its next instance
  abbrev pub item_instance_told : Component → Kind → (b k : ℕ) → SourceItem → Option ℕ
  item_instance_told c r b k (decl_item d) = None
  item_instance_told c r b k (component_item n x) = None
  item_instance_told c r b k (definition_item n ps x) = None
  item_instance_told c r b k (instance_item i) = instance_told c r (definition_at s.definitions b k) i

  abbrev pub instances_told : Component → Kind → (b k : ℕ) → Source → Option ℕ
  instances_told c r b k no_source = None
  instances_told c r b k (source i is) = or_later (item_instance_told c r b k i) (instances_told c r b (next_instance k i) is)

-- ---- bodies

abbrev pub item_told : (DeclTree → Option ℕ) → SourceItem → Option ℕ
item_told f (decl_item d) = f d
item_told f (component_item n x) = None
item_told f (definition_item n ps x) = None
item_told f (instance_item i) = None

-- the declarations among these items
abbrev pub decls_told : (DeclTree → Option ℕ) → Source → Option ℕ
decls_told f no_source = None
decls_told f (source i is) = or_later (item_told f i) (decls_told f is)

abbrev pub group_told : Scopes → KindTable → Component → Kind → ℕ → Source → Option ℕ
group_told s tb c r b is = or_later (decls_told (decl_type_told c r) is) (or_later (decls_told (decl_told c r) is) (instances_told s tb c r b 0 is))

abbrev pub automaton_told : Component → Kind → AutomatonTree → Option ℕ
automaton_told c r a =
    or_later (first_told (decl_type_told c r) a.decls) (or_later (first_told (decl_told c r) a.decls) (first_told (location_told c r) a.locs))

abbrev pub inside_told : Scopes → KindTable → Component → Kind → ℕ → SourceBody → Option ℕ
inside_told s tb c r b (group_body is) = group_told s tb c r b is
inside_told s tb c r b (automaton_body a) = automaton_told c r a

-- all of a body
abbrev pub body_told : Scopes → KindTable → Component → Kind → ℕ → WrittenBody → Option ℕ
body_told s tb c r b w = or_later (first_told (param_told c r) w.params) (inside_told s tb c r b w.body)
