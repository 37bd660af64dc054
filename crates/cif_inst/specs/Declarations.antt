-- Helper of the code: the inputs, discrete variables and algebraic variables that components declare.
use Rattle.std.specs.Prelude.{ℕ, ◌+◌, List, [], ◌∷◌, ◌++◌, Option, None}
use Rattle.cif_ast.specs.Tree.{Tree}
use Rattle.cif_ast.specs.declared.names.Ident.{Ident}
use Rattle.cif_source.specs.Source.{Text, TypeTree, DeclTree, type_decl, enum_decl, event_decl, const_decl, alg_decl, input_decl, disc_decl, equation_decl, invariant_decl, marked_decl, SourceItem, decl_item, component_item, definition_item, instance_item, SourceBody, group_body, automaton_body, Source, no_source, source}
use Rattle.cif_inst_paths.specs.Rows.{RowTree}
use Rattle.cif_inst.specs.declared.declarations.Sort.{Sort}
use Rattle.cif_inst.specs.declared.declarations.Sort.TheVariants as sort

-- one of them, with the number of its component, what its path begins with, and the value that it is declared with
pub record DatumTree : Type 0 where
  pub component : ℕ
  pub prefix : Text
  pub name : Ident
  pub type_of : TypeTree
  pub value : Option Tree

abbrev pub datum : ℕ → Text → Ident → TypeTree → Option Tree → DatumTree
datum k p n ty e = record { component = k; prefix = p; name = n; type_of = ty; value = e }

-- of component k, whose paths begin with p
abbrev pub decl_data : Sort → ℕ → Text → DeclTree → List DatumTree
decl_data s k p (input_decl ty n) = elim s [ sort.Input ↦ datum k p n ty None ∷ [] | sort.Discrete ↦ [] | sort.Algebraic ↦ [] ]
decl_data s k p (disc_decl ty n e) = elim s [ sort.Input ↦ [] | sort.Discrete ↦ datum k p n ty e ∷ [] | sort.Algebraic ↦ [] ]
decl_data s k p (alg_decl ty n e) = elim s [ sort.Input ↦ [] | sort.Discrete ↦ [] | sort.Algebraic ↦ datum k p n ty e ∷ [] ]
decl_data s k p (event_decl c h n) = []
decl_data s k p (type_decl n ty) = []
decl_data s k p (enum_decl n ls) = []
decl_data s k p (const_decl ty n e) = []
decl_data s k p (equation_decl q) = []
decl_data s k p (invariant_decl i) = []
decl_data s k p (marked_decl e) = []

abbrev pub decls_data : Sort → ℕ → Text → List DeclTree → List DatumTree
decls_data s k p [] = []
decls_data s k p (d ∷ ds) = decl_data s k p d ++ decls_data s k p ds

abbrev pub item_data : Sort → ℕ → Text → SourceItem → List DatumTree
item_data s k p (decl_item d) = decl_data s k p d
item_data s k p (component_item n b) = []
item_data s k p (definition_item n ps b) = []
item_data s k p (instance_item i) = []

abbrev pub items_data : Sort → ℕ → Text → Source → List DatumTree
items_data s k p no_source = []
items_data s k p (source i is) = item_data s k p i ++ items_data s k p is

abbrev pub body_data : Sort → ℕ → Text → SourceBody → List DatumTree
body_data s k p (group_body is) = items_data s k p is
body_data s k p (automaton_body a) = decls_data s k p a.decls

-- those of the components from number k on
abbrev pub rows_data : Sort → ℕ → List RowTree → List DatumTree
rows_data s k [] = []
rows_data s k (r ∷ rs) = body_data s k r.0 r.1 ++ rows_data s (k + 1) rs
