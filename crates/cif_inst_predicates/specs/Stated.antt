-- Helper of the code: the invariants that components state, in the order of the source.
use Rattle.std.specs.Prelude.{ℕ, ◌+◌, ◌<◌, length, List, [], ◌∷◌, ◌++◌, flat_map}
use Rattle.cif_source.specs.Source.{InvariantTree, DeclTree, type_decl, enum_decl, event_decl, const_decl, alg_decl, input_decl, disc_decl, equation_decl, invariant_decl, marked_decl, SourceItem, decl_item, component_item, definition_item, instance_item, SourceBody, group_body, automaton_body, Source, no_source, source}
use Rattle.cif_system.specs.Words.{Member}
use Rattle.cif_source.specs.Objects.{components_of}
use Rattle.cif_inst_names.specs.Looking.{source_for}
use Rattle.cif_inst_names.specs.declared.looking.Looking.{Looking}
use Rattle.cif_inst_paths.specs.Rows.{RowTree}

-- one of them, with the number of its component
abbrev pub StatedTree : Type 0
StatedTree = ℕ × InvariantTree

-- of component k
abbrev pub decl_stated : ℕ → DeclTree → List StatedTree
decl_stated k (invariant_decl i) = (k, i) ∷ []
decl_stated k (type_decl n ty) = []
decl_stated k (enum_decl n ls) = []
decl_stated k (event_decl c h n) = []
decl_stated k (const_decl ty n e) = []
decl_stated k (alg_decl ty n e) = []
decl_stated k (input_decl ty n) = []
decl_stated k (disc_decl ty n e) = []
decl_stated k (equation_decl q) = []
decl_stated k (marked_decl e) = []

abbrev pub item_stated : ℕ → SourceItem → List StatedTree
item_stated k (decl_item d) = decl_stated k d
item_stated k (component_item n b) = []
item_stated k (definition_item n ps b) = []
item_stated k (instance_item i) = []

abbrev pub items_stated : ℕ → Source → List StatedTree
items_stated k no_source = []
items_stated k (source i is) = item_stated k i ++ items_stated k is

abbrev pub body_stated : ℕ → SourceBody → List StatedTree
body_stated k (group_body is) = items_stated k is
body_stated k (automaton_body a) = flat_map (decl_stated k) a.decls

-- those of the rows from component k on
abbrev pub rows_stated : ℕ → List RowTree → List StatedTree
rows_stated k [] = []
rows_stated k (r ∷ rs) = body_stated k r.1 ++ rows_stated (k + 1) rs

-- their components are some of the source's
abbrev pub StandBelow : Looking → List StatedTree → Type 0
StandBelow l ss = (s : StatedTree) → Member s ss → s.0 < length (components_of (source_for l))
