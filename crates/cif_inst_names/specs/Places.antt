-- Helper of the code: where expressions and the values of an edge stand.
use Rattle.std.specs.Prelude.{ℕ, List, [], ◌∷◌, Some, None}
use Rattle.cif_ast.specs.declared.names.Name.{Name}
use Rattle.cif_source.specs.Source.{RoleTree, tree_at}
use Rattle.cif_net_expr.specs.Tree.{NetExprs, no_net_exprs, net_exprs}
use Rattle.cif_net_model.specs.Exprs.{expr_at}
use Rattle.cif_inst_model.specs.Flat.{sent_tree}

-- the place of the first expression
abbrev pub first_at : NetExprs → ℕ
first_at no_net_exprs = 0
first_at (net_exprs e es) = expr_at e

abbrev pub name_place : Name → ℕ
name_place nm = nm.at

abbrev pub sent_place : RoleTree → List ℕ
sent_place r = elim (sent_tree r) [ None ↦ [] | Some e ↦ tree_at e ∷ [] ]
