-- The first argument of an instance that does not fit its parameter.
use Rattle.std.specs.Prelude.{◌≡◌, ℕ, ◌+◌, Bool, true, false, ◌&&◌, List, [], ◌∷◌, map, Option, Some, None, option_map, slice_get, Result, Ok, Err}
use Rattle.cif_ast.specs.Tree.{Tree}
use Rattle.cif_ast.specs.declared.names.Name.{Name}
use Rattle.cif_ast.specs.declared.declarations.Class.{Class}
use Rattle.cif_source.specs.Source.{tree_at, ParamTree, event_param, alg_param, location_param, param_tree, InstanceTree, SourceItem, decl_item, component_item, definition_item, instance_item, SourceBody, group_body, automaton_body, Source, no_source, source}
use Rattle.cif_source.specs.Components.{Component}
use Rattle.cif_source.specs.Lookup.{found}
use Rattle.cif_source.specs.Uses.{bare_name}
use Rattle.cif_source.specs.Demands.{ChannelKind, same_channel, event_channel, has_asked_class}
use Rattle.cif_source.specs.BodyRules.{BadArgument}
use Rattle.cif_scope.specs.declared.scopes.Scopes.{Scopes}
use Rattle.cif_scope.specs.declared.written.Written.{Written}
use Rattle.cif_scope.specs.Drafts.{next_instance}
use Rattle.cif_scope.specs.Looks.{definition_at}
use Rattle.cif_scope.specs.Written.{body_of_written, written_bodies}
use Rattle.cif_types_kinds.specs.declared.error.KindErr.{KindErr}
use Rattle.cif_types_kinds.specs.declared.error.KindErr.TheVariants.{Mismatch, Memory}
use Rattle.cif_types_kinds.specs.declared.reading.Reading.{Reading}
use Rattle.cif_types_kinds.specs.declared.table.KindTable.{KindTable}
use Rattle.cif_types_kinds.specs.Tables.{channel_for, channel_at_slot}
use Rattle.cif_types_kinds.specs.Readings.{source_for}
use Rattle.cif_types_kinds.specs.Faults.{unless, or_later}
use Rattle.cif_types_arguments.specs.Classes.{params_at}

-- all bodies of the source to which the body belongs, as written
abbrev pub AreWrittenIn : Reading → List Written → Type 0
AreWrittenIn r all = map body_of_written all ≡ written_bodies (source_for r)

-- ---- one argument

-- the name finds an event with the channel h and the class k, where one is asked
abbrev pub fits_event : Component → ChannelKind → Class → Name → Bool
fits_event c h k nm = same_channel (event_channel c nm) h && has_asked_class k (found c nm)

-- an argument that is a bare name, or another expression, fits a parameter with the channel h
abbrev pub fits : Component → ChannelKind → ParamTree → Option Name → Bool
fits c h (event_param k g n) o = elim o [ None ↦ false | Some nm ↦ fits_event c h k nm ]
fits c h (alg_param ty n) o = true
fits c h (location_param n) o = elim o [ None ↦ false | Some nm ↦ true ]

-- what is told of an argument; there may be no parameter
abbrev pub fault_told : Component → ChannelKind → Option ParamTree → Tree → Option ℕ
fault_told c h None e = None
fault_told c h (Some p) e = unless (fits c h p (bare_name e)) (tree_at e)

-- ---- instances

module _ (tb : KindTable) (all : List Written) (c : Component) where
  -- an argument for the parameter in slot k of body j
  abbrev pub argument_told : (j k : ℕ) → Tree → Option ℕ
  argument_told j k e = fault_told c (channel_for tb.lists (channel_at_slot tb j k)) (option_map param_tree (slice_get (params_at all j) k)) e

  -- the arguments from place k on, for the parameters of body j
  abbrev pub arguments_told : (j k : ℕ) → List Tree → Option ℕ
  arguments_told j k [] = None
  arguments_told j k (e ∷ es) = or_later (argument_told j k e) (arguments_told j (k + 1) es)

  abbrev pub instance_told : Option ℕ → InstanceTree → Option ℕ
  instance_told None i = None
  instance_told (Some j) i = arguments_told j 0 i.args

  module _ (s : Scopes) where
    -- an item of body b, where k is the number of its next instance
    abbrev pub item_told : (b k : ℕ) → SourceItem → Option ℕ
    item_told b k (decl_item d) = None
    item_told b k (component_item n x) = None
    item_told b k (definition_item n ps x) = None
    item_told b k (instance_item i) = instance_told (definition_at s.definitions b k) i

    abbrev pub items_told : (b k : ℕ) → Source → Option ℕ
    items_told b k no_source = None
    items_told b k (source i is) = or_later (item_told b k i) (items_told b (next_instance k i) is)

    -- the instances of body b
    abbrev pub inside_told : ℕ → SourceBody → Option ℕ
    inside_told b (group_body is) = items_told b 0 is
    inside_told b (automaton_body a) = None

-- ---- the whole

-- each argument fits, or the error tells one that does not, or want of memory
abbrev pub ChecksArguments : {A : Type 0} → Component → Result A KindErr → Type 0
ChecksArguments c (Ok x) = (at : ℕ) → BadArgument c at → ⊥
ChecksArguments c (Err (Mismatch at)) = BadArgument c at
ChecksArguments c (Err Memory) = Unit {0}
