-- Helper of the code: the events of components, with their channels.
use Rattle.std.specs.Prelude.{◌≡◌, ℕ, ◌+◌, List, [], ◌∷◌, ◌++◌, map}
use Rattle.cif_ast.specs.declared.names.Ident.{Ident}
use Rattle.cif_ast.specs.declared.declarations.Class.{Class}
use Rattle.cif_system.specs.Words.{Member}
use Rattle.cif_source.specs.Source.{Text, TypeTree, ChannelTree, value_type, DeclTree, type_decl, enum_decl, event_decl, const_decl, alg_decl, input_decl, disc_decl, equation_decl, invariant_decl, marked_decl, SourceItem, decl_item, component_item, definition_item, instance_item, SourceBody, group_body, automaton_body, Source, no_source, source}
use Rattle.cif_source.specs.Step.{class_of}
use Rattle.cif_source.specs.Constants.{types_of}
use Rattle.cif_net_model.specs.Net.{NetEvent}
use Rattle.cif_inst_model.specs.Types.{net_channel}
use Rattle.cif_inst_names.specs.Looking.{component_of}
use Rattle.cif_inst_paths.specs.Rows.{RowTree}
use Rattle.cif_inst.specs.Typing.{typed_component, IsHome}
use Rattle.cif_inst.specs.declared.typing.Typing.{Typing}

-- one of them, with the number of its component and what its path begins with
pub record EventTree : Type 0 where
  pub component : ℕ
  pub prefix : Text
  pub class : Class
  pub chan : ChannelTree
  pub name : Ident

-- of component k, whose paths begin with p
abbrev pub decl_events : ℕ → Text → DeclTree → List EventTree
decl_events k p (event_decl c h n) = record { component = k; prefix = p; class = c; chan = h; name = n } ∷ []
decl_events k p (type_decl n ty) = []
decl_events k p (enum_decl n ls) = []
decl_events k p (const_decl ty n e) = []
decl_events k p (alg_decl ty n e) = []
decl_events k p (input_decl ty n) = []
decl_events k p (disc_decl ty n e) = []
decl_events k p (equation_decl q) = []
decl_events k p (invariant_decl i) = []
decl_events k p (marked_decl e) = []

abbrev pub decls_events : ℕ → Text → List DeclTree → List EventTree
decls_events k p [] = []
decls_events k p (d ∷ ds) = decl_events k p d ++ decls_events k p ds

abbrev pub item_events : ℕ → Text → SourceItem → List EventTree
item_events k p (decl_item d) = decl_events k p d
item_events k p (component_item n b) = []
item_events k p (definition_item n ps b) = []
item_events k p (instance_item i) = []

abbrev pub items_events : ℕ → Text → Source → List EventTree
items_events k p no_source = []
items_events k p (source i is) = item_events k p i ++ items_events k p is

abbrev pub body_events : ℕ → Text → SourceBody → List EventTree
body_events k p (group_body is) = items_events k p is
body_events k p (automaton_body a) = decls_events k p a.decls

-- those of the components from number k on
abbrev pub rows_events : ℕ → List RowTree → List EventTree
rows_events k [] = []
rows_events k (r ∷ rs) = body_events k r.0 r.1 ++ rows_events (k + 1) rs

-- ---- in the net

abbrev pub made_event : Source → EventTree → NetEvent
made_event t e = record { path = e.prefix ++ e.name.text; class = class_of e.class; chan = net_channel (component_of t e.component) e.chan }

-- the events that these components declare
abbrev pub all_events : Source → List RowTree → List NetEvent
all_events t rows = map (made_event t) (rows_events 0 rows)

-- ---- where they stand

-- a component writes the type of its values
pub record StandsIn (y : Typing) (e : EventTree) : Type 0 where
  pub home : IsHome y e.component
  pub written : (ty : TypeTree) → e.chan ≡ value_type ty → Member ty (types_of (typed_component y e.component))

abbrev pub StandAll : Typing → List EventTree → Type 0
StandAll y es = (e : EventTree) → Member e es → StandsIn y e
