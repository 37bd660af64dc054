-- What tree of plain data a value of the types of `src/` stands for. Each step sees one level, with its parts seen.
use Rattle.std.specs.Prelude.{Bool, List, [], ◌∷◌, map}
use Rattle.cif_ast.specs.Tree.{Tree, node, Shape, truth, number, named, received, paren, negative, positive, negation, absolute, least, greatest, sum, product, comparison, all_of, any_of, implication, equivalence, choice, Trees, no_trees, trees, Terms, no_terms, terms, Factors, no_factors, factors, Branches, no_branches, branches, UpdateTree, assignment, selection, UpdateTrees, no_updates, updates, UpdateBranches, no_update_branches, update_branches, ItemTree, declaration, component, definition, instance, ItemTrees, no_items, items, BodyTree, group, automaton}
use Rattle.cif_ast.specs.declared.names.Ident.{Ident}
use Rattle.cif_ast.specs.declared.declarations.Param.{Param}
use Rattle.cif_ast.specs.declared.expressions.MulOp.{MulOp}
use Rattle.cif_ast.specs.declared.expressions.Expr.{Expr}
use Rattle.cif_ast.specs.declared.expressions.Form.{Form}
use Rattle.cif_ast.specs.declared.expressions.Term.{Term}
use Rattle.cif_ast.specs.declared.expressions.Factor.{Factor}
use Rattle.cif_ast.specs.declared.expressions.Branch.{Branch}
use Rattle.cif_ast.specs.declared.expressions.Form.TheOpen.{Form-F, Branch-F, Expr-F, Factor-F, Term-F}
use Rattle.cif_ast.specs.declared.expressions.Form.TheOpen as E
use Rattle.cif_ast.specs.declared.expressions.Form.TheFolds.{fold-Form, fold-Branch, fold-Expr, fold-Factor, fold-Term}
use Rattle.cif_ast.specs.declared.edges.Update.{Update}
use Rattle.cif_ast.specs.declared.edges.UpdateBranch.{UpdateBranch}
use Rattle.cif_ast.specs.declared.edges.Update.TheOpen.{Update-F, UpdateBranch-F}
use Rattle.cif_ast.specs.declared.edges.Update.TheOpen as U
use Rattle.cif_ast.specs.declared.edges.Update.TheFolds.{fold-Update, fold-UpdateBranch}
use Rattle.cif_ast.specs.declared.components.Body.{Body}
use Rattle.cif_ast.specs.declared.components.Item.{Item}
use Rattle.cif_ast.specs.declared.components.Comp.{Comp}
use Rattle.cif_ast.specs.declared.components.Def.{Def}
use Rattle.cif_ast.specs.declared.components.Body.TheOpen.{Body-F, Item-F, Comp-F, Def-F}
use Rattle.cif_ast.specs.declared.components.Body.TheOpen as B
use Rattle.cif_ast.specs.declared.components.Body.TheFolds.{fold-Body, fold-Item, fold-Comp, fold-Def}

-- ---- expressions

abbrev pub trees_of : List Tree → Trees
trees_of [] = no_trees
trees_of (t ∷ ts) = trees t (trees_of ts)

abbrev pub terms_of : List (Bool × Tree) → Terms
terms_of [] = no_terms
terms_of (t ∷ ts) = terms t.0 t.1 (terms_of ts)

abbrev pub factors_of : List (MulOp × Tree) → Factors
factors_of [] = no_factors
factors_of (f ∷ fs) = factors f.0 f.1 (factors_of fs)

abbrev pub branches_of : List (Trees × Tree) → Branches
branches_of [] = no_branches
branches_of (b ∷ bs) = branches b.0 b.1 (branches_of bs)

abbrev pub form_step : Form-F Shape (Trees × Tree) Tree (MulOp × Tree) (Bool × Tree) → Shape
form_step (E.Bool b) = truth b
form_step (E.Int z) = number z
form_step (E.Named n) = named n
form_step E.Received = received
form_step (E.Paren e) = paren e
form_step (E.Neg e) = negative e
form_step (E.Plus e) = positive e
form_step (E.Not e) = negation e
form_step (E.Abs e) = absolute e
form_step (E.Min a b) = least a b
form_step (E.Max a b) = greatest a b
form_step (E.Sum e rest) = sum e (terms_of rest)
form_step (E.Product e rest) = product e (factors_of rest)
form_step (E.Compare a op b) = comparison a op b
form_step (E.And es) = all_of (trees_of es)
form_step (E.Or es) = any_of (trees_of es)
form_step (E.Implies a b) = implication a b
form_step (E.Iff a b) = equivalence a b
form_step (E.If bs e) = choice (branches_of bs) e

abbrev pub branch_step : Branch-F Shape (Trees × Tree) Tree (MulOp × Tree) (Bool × Tree) → Trees × Tree
branch_step b = (trees_of b.conds, b.value)

abbrev pub expr_step : Expr-F Shape (Trees × Tree) Tree (MulOp × Tree) (Bool × Tree) → Tree
expr_step e = node e.form e.at

abbrev pub factor_step : Factor-F Shape (Trees × Tree) Tree (MulOp × Tree) (Bool × Tree) → MulOp × Tree
factor_step f = (f.op, f.value)

abbrev pub term_step : Term-F Shape (Trees × Tree) Tree (MulOp × Tree) (Bool × Tree) → Bool × Tree
term_step t = (t.minus, t.value)

abbrev pub view_form : Form → Shape
view_form = fold-Form _ _ _ _ _ form_step branch_step expr_step factor_step term_step

-- the tree that an expression stands for
abbrev pub view : Expr → Tree
view = fold-Expr _ _ _ _ _ form_step branch_step expr_step factor_step term_step

abbrev pub view_branch : Branch → Trees × Tree
view_branch = fold-Branch _ _ _ _ _ form_step branch_step expr_step factor_step term_step

abbrev pub view_factor : Factor → MulOp × Tree
view_factor = fold-Factor _ _ _ _ _ form_step branch_step expr_step factor_step term_step

abbrev pub view_term : Term → Bool × Tree
view_term = fold-Term _ _ _ _ _ form_step branch_step expr_step factor_step term_step

abbrev pub view_exprs : List Expr → Trees
view_exprs es = trees_of (map view es)

abbrev pub view_branches : List Branch → Branches
view_branches bs = branches_of (map view_branch bs)

abbrev pub view_factors : List Factor → Factors
view_factors fs = factors_of (map view_factor fs)

abbrev pub view_terms : List Term → Terms
view_terms ts = terms_of (map view_term ts)

-- ---- updates

abbrev pub updates_of : List UpdateTree → UpdateTrees
updates_of [] = no_updates
updates_of (u ∷ us) = updates u (updates_of us)

abbrev pub update_branches_of : List (Trees × UpdateTrees) → UpdateBranches
update_branches_of [] = no_update_branches
update_branches_of (b ∷ bs) = update_branches b.0 b.1 (update_branches_of bs)

abbrev pub update_step : Update-F UpdateTree (Trees × UpdateTrees) → UpdateTree
update_step (U.Set x e) = assignment x (view e)
update_step (U.If bs us) = selection (update_branches_of bs) (updates_of us)

abbrev pub update_branch_step : UpdateBranch-F UpdateTree (Trees × UpdateTrees) → Trees × UpdateTrees
update_branch_step b = (view_exprs b.conds, updates_of b.updates)

abbrev pub view_update : Update → UpdateTree
view_update = fold-Update _ _ update_step update_branch_step

abbrev pub view_update_branch : UpdateBranch → Trees × UpdateTrees
view_update_branch = fold-UpdateBranch _ _ update_step update_branch_step

abbrev pub view_updates : List Update → UpdateTrees
view_updates us = updates_of (map view_update us)

abbrev pub view_update_branches : List UpdateBranch → UpdateBranches
view_update_branches bs = update_branches_of (map view_update_branch bs)

-- ---- items

abbrev pub item_trees_of : List ItemTree → ItemTrees
item_trees_of [] = no_items
item_trees_of (i ∷ is) = items i (item_trees_of is)

abbrev pub body_step : Body-F BodyTree ItemTree (Ident × BodyTree) (Ident × List Param × BodyTree) → BodyTree
body_step (B.Group is) = group (item_trees_of is)
body_step (B.Auto a) = automaton a

abbrev pub item_step : Item-F BodyTree ItemTree (Ident × BodyTree) (Ident × List Param × BodyTree) → ItemTree
item_step (B.Decl d) = declaration d
item_step (B.Comp c) = component c.0 c.1
item_step (B.Def d) = definition d.0 d.1 d.2
item_step (B.Inst i) = instance i

abbrev pub comp_step : Comp-F BodyTree ItemTree (Ident × BodyTree) (Ident × List Param × BodyTree) → Ident × BodyTree
comp_step c = (c.name, c.body)

abbrev pub def_step : Def-F BodyTree ItemTree (Ident × BodyTree) (Ident × List Param × BodyTree) → Ident × List Param × BodyTree
def_step d = (d.name, d.params, d.body)

abbrev pub view_body : Body → BodyTree
view_body = fold-Body _ _ _ _ body_step item_step comp_step def_step

abbrev pub view_item : Item → ItemTree
view_item = fold-Item _ _ _ _ body_step item_step comp_step def_step

abbrev pub view_comp : Comp → Ident × BodyTree
view_comp = fold-Comp _ _ _ _ body_step item_step comp_step def_step

abbrev pub view_def : Def → Ident × List Param × BodyTree
view_def = fold-Def _ _ _ _ body_step item_step comp_step def_step

abbrev pub view_items : List Item → ItemTrees
view_items is = item_trees_of (map view_item is)
