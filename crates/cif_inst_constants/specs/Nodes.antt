-- Helper of the code: the constants of bodies as the nodes of a graph, what each needs, and their values in an order of the graph.
use Rattle.std.specs.Prelude.{ℕ, ℤ, true, List, [], ◌∷◌, flat_map, slice_get, slice_set, Option, Some, None, Result, Ok, Err, option_map}
use Rattle.std.specs.Option.{option_to_list}
use Rattle.cif_ast.specs.Tree.{Tree}
use Rattle.cif_ast.specs.View.{view}
use Rattle.cif_source.specs.Source.{DeclTree, type_decl, enum_decl, event_decl, const_decl, alg_decl, input_decl, disc_decl, equation_decl, invariant_decl, marked_decl, decl_tree, tree_at}
use Rattle.cif_source.specs.Objects.{decls_in}
use Rattle.cif_source.specs.Uses.{Use, decl_uses}
use Rattle.cif_scope.specs.declared.scopes.Scopes.{Scopes}
use Rattle.cif_scope.specs.Looks.{look}
use Rattle.cif_inst_constants.specs.Used.{NumberedBody}
use Rattle.cif_inst_constants.specs.Numbers.{number_found}
use Rattle.cif_inst_constants.specs.Named.{table_value}
use Rattle.cif_inst_constants.specs.Outcomes.{evaluated}
use Rattle.cif_inst_constants.specs.declared.nodes.Constant.{Constant}

-- a constant of a body: its declaration and its value
pub record Node : Type 0 where
  pub body : ℕ
  pub decl : DeclTree
  pub value : Tree

abbrev pub node_of : Constant → Node
node_of c = record { body = c.body; decl = decl_tree c.decl.now; value = view c.value.now }

abbrev pub decl_nodes : ℕ → DeclTree → List Node
decl_nodes k (const_decl ty n e) = record { body = k; decl = const_decl ty n e; value = e } ∷ []
decl_nodes k (type_decl n ty) = []
decl_nodes k (enum_decl n ls) = []
decl_nodes k (event_decl c h n) = []
decl_nodes k (alg_decl ty n e) = []
decl_nodes k (input_decl ty n) = []
decl_nodes k (disc_decl ty n e) = []
decl_nodes k (equation_decl q) = []
decl_nodes k (invariant_decl i) = []
decl_nodes k (marked_decl p) = []

abbrev pub body_nodes : NumberedBody → List Node
body_nodes b = flat_map (decl_nodes b.number) (decls_in b.written.body)

-- those of all these bodies
abbrev pub nodes_in : List NumberedBody → List Node
nodes_in bs = flat_map body_nodes bs

-- ---- needs

abbrev pub use_need : Scopes → List (List ℕ) → ℕ → Use → List ℕ
use_need s numbers k u = option_to_list (number_found s numbers (look s.table s.definitions true k u.name))

abbrev pub uses_needs : Scopes → List (List ℕ) → ℕ → List Use → List ℕ
uses_needs s numbers k us = flat_map (use_need s numbers k) us

-- the constants that its type and value name
abbrev pub node_needs : Scopes → List (List ℕ) → Node → List ℕ
node_needs s numbers n = uses_needs s numbers n.body (decl_uses n.decl)

-- ---- values

-- of a constant, from the values of those that it names
abbrev pub node_value : Scopes → List (List ℕ) → List ℤ → Node → Option ℤ
node_value s numbers vs n = evaluated (table_value s numbers vs n.body) n.value

-- with the value of a constant, or where it is faulty
abbrev pub filled_by : Node → List ℤ → ℕ → Option ℤ → Result (List ℤ) ℕ
filled_by n vs m None = Err (tree_at n.value)
filled_by n vs m (Some z) = Ok (slice_set vs m z)

abbrev pub filled_at : Scopes → List (List ℕ) → List ℤ → ℕ → Option Node → Result (List ℤ) ℕ
filled_at s numbers vs m None = Ok vs
filled_at s numbers vs m (Some n) = filled_by n vs m (node_value s numbers vs n)

abbrev pub filled_on : Result (List ℤ) ℕ → (List ℤ → Result (List ℤ) ℕ) → Result (List ℤ) ℕ
filled_on (Ok vs) go = go vs
filled_on (Err at) go = Err at

-- with the values of these constants, one after the other, or where the first faulty one stands; `node` gives constants by
-- their numbers
abbrev pub filled : Scopes → List (List ℕ) → (ℕ → Option Node) → List ℤ → List ℕ → Result (List ℤ) ℕ
filled s numbers node vs [] = Ok vs
filled s numbers node vs (m ∷ ms) = filled_on (filled_at s numbers vs m (node m)) (λ us. filled s numbers node us ms)

-- ---- what the code has

abbrev pub node_in : List Constant → ℕ → Option Node
node_in cs m = option_map node_of (slice_get cs m)

-- the values that stand after a step, or where it ends
abbrev pub told : Result (Unit {0}) ℕ → List ℤ → Result (List ℤ) ℕ
told (Ok u) vs = Ok vs
told (Err at) vs = Err at
