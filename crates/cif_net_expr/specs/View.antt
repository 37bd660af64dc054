-- What tree of plain data a value of the types of `src/` stands for. Each step sees one level, with its parts seen.
use Rattle.std.specs.Prelude.{Bool, List, [], ◌∷◌, map}
use Rattle.cif_net_expr.specs.Tree.{CmpOp, eq, ne, lt, le, gt, ge, MulOp, times, divided, modulo, NetExpr, net_expr, NetForm, n_truth, n_number, n_loc, n_var, n_input, n_alg, n_received, n_minus, n_plus, n_not, n_abs, n_min, n_max, n_sum, n_product, n_compare, n_and, n_or, n_implies, n_iff, n_if, NetExprs, no_net_exprs, net_exprs, NetTerms, no_net_terms, net_terms, NetFactors, no_net_factors, net_factors, NetBranches, no_net_branches, net_branches, NetUpdate, net_set, net_choose, NetUpdates, no_net_updates, net_updates, NetUpdateBranches, no_net_update_branches, net_update_branches}
use Rattle.cif_net_expr.specs.declared.expressions.CmpOp as declared_cmp
use Rattle.cif_net_expr.specs.declared.expressions.CmpOp.TheVariants as cmp
use Rattle.cif_net_expr.specs.declared.expressions.MulOp as declared_mul
use Rattle.cif_net_expr.specs.declared.expressions.MulOp.TheVariants as mul
use Rattle.cif_net_expr.specs.declared.expressions.NetExpr as declared_expr
use Rattle.cif_net_expr.specs.declared.expressions.NetForm as declared_form
use Rattle.cif_net_expr.specs.declared.expressions.NetTerm.{NetTerm}
use Rattle.cif_net_expr.specs.declared.expressions.NetFactor.{NetFactor}
use Rattle.cif_net_expr.specs.declared.expressions.NetBranch.{NetBranch}
use Rattle.cif_net_expr.specs.declared.expressions.NetForm.TheOpen.{NetForm-F, NetBranch-F, NetExpr-F, NetFactor-F, NetTerm-F}
use Rattle.cif_net_expr.specs.declared.expressions.NetForm.TheOpen as E
use Rattle.cif_net_expr.specs.declared.expressions.NetForm.TheFolds.{fold-NetForm, fold-NetBranch, fold-NetExpr, fold-NetFactor, fold-NetTerm}
use Rattle.cif_net_expr.specs.declared.updates.NetUpdate as declared_update
use Rattle.cif_net_expr.specs.declared.updates.NetUpdateBranch.{NetUpdateBranch}
use Rattle.cif_net_expr.specs.declared.updates.NetUpdate.TheOpen.{NetUpdate-F, NetUpdateBranch-F}
use Rattle.cif_net_expr.specs.declared.updates.NetUpdate.TheOpen as U
use Rattle.cif_net_expr.specs.declared.updates.NetUpdate.TheFolds.{fold-NetUpdate, fold-NetUpdateBranch}

-- ---- operators

abbrev pub view_cmp : declared_cmp.CmpOp → CmpOp
view_cmp cmp.Eq = eq
view_cmp cmp.Ne = ne
view_cmp cmp.Lt = lt
view_cmp cmp.Le = le
view_cmp cmp.Gt = gt
view_cmp cmp.Ge = ge

abbrev pub view_mul : declared_mul.MulOp → MulOp
view_mul mul.Times = times
view_mul mul.Div = divided
view_mul mul.Mod = modulo

-- ---- expressions

abbrev pub exprs_of : List NetExpr → NetExprs
exprs_of [] = no_net_exprs
exprs_of (e ∷ es) = net_exprs e (exprs_of es)

abbrev pub terms_of : List (Bool × NetExpr) → NetTerms
terms_of [] = no_net_terms
terms_of (t ∷ ts) = net_terms t.0 t.1 (terms_of ts)

abbrev pub factors_of : List (MulOp × NetExpr) → NetFactors
factors_of [] = no_net_factors
factors_of (f ∷ fs) = net_factors f.0 f.1 (factors_of fs)

abbrev pub branches_of : List (NetExpr × NetExpr) → NetBranches
branches_of [] = no_net_branches
branches_of (b ∷ bs) = net_branches b.0 b.1 (branches_of bs)

abbrev pub form_step : NetForm-F NetForm (NetExpr × NetExpr) NetExpr (MulOp × NetExpr) (Bool × NetExpr) → NetForm
form_step (E.Bool b) = n_truth b
form_step (E.Int z) = n_number z
form_step (E.Loc a p) = n_loc a p
form_step (E.Var k) = n_var k
form_step (E.Input k) = n_input k
form_step (E.Alg k) = n_alg k
form_step E.Received = n_received
form_step (E.Neg e) = n_minus e
form_step (E.Plus e) = n_plus e
form_step (E.Not e) = n_not e
form_step (E.Abs e) = n_abs e
form_step (E.Min a b) = n_min a b
form_step (E.Max a b) = n_max a b
form_step (E.Sum e rest) = n_sum e (terms_of rest)
form_step (E.Product e rest) = n_product e (factors_of rest)
form_step (E.Compare a op b) = n_compare a (view_cmp op) b
form_step (E.And es) = n_and (exprs_of es)
form_step (E.Or es) = n_or (exprs_of es)
form_step (E.Implies a b) = n_implies a b
form_step (E.Iff a b) = n_iff a b
form_step (E.If bs e) = n_if (branches_of bs) e

abbrev pub branch_step : NetBranch-F NetForm (NetExpr × NetExpr) NetExpr (MulOp × NetExpr) (Bool × NetExpr) → NetExpr × NetExpr
branch_step b = (b.cond, b.value)

abbrev pub expr_step : NetExpr-F NetForm (NetExpr × NetExpr) NetExpr (MulOp × NetExpr) (Bool × NetExpr) → NetExpr
expr_step e = net_expr e.form e.at

abbrev pub factor_step : NetFactor-F NetForm (NetExpr × NetExpr) NetExpr (MulOp × NetExpr) (Bool × NetExpr) → MulOp × NetExpr
factor_step f = (view_mul f.op, f.value)

abbrev pub term_step : NetTerm-F NetForm (NetExpr × NetExpr) NetExpr (MulOp × NetExpr) (Bool × NetExpr) → Bool × NetExpr
term_step t = (t.minus, t.value)

abbrev pub view_form : declared_form.NetForm → NetForm
view_form = fold-NetForm _ _ _ _ _ form_step branch_step expr_step factor_step term_step

-- the expression of plain data that an expression stands for
abbrev pub view : declared_expr.NetExpr → NetExpr
view = fold-NetExpr _ _ _ _ _ form_step branch_step expr_step factor_step term_step

abbrev pub view_branch : NetBranch → NetExpr × NetExpr
view_branch = fold-NetBranch _ _ _ _ _ form_step branch_step expr_step factor_step term_step

abbrev pub view_factor : NetFactor → MulOp × NetExpr
view_factor = fold-NetFactor _ _ _ _ _ form_step branch_step expr_step factor_step term_step

abbrev pub view_term : NetTerm → Bool × NetExpr
view_term = fold-NetTerm _ _ _ _ _ form_step branch_step expr_step factor_step term_step

abbrev pub view_exprs : List declared_expr.NetExpr → NetExprs
view_exprs es = exprs_of (map view es)

abbrev pub view_branches : List NetBranch → NetBranches
view_branches bs = branches_of (map view_branch bs)

abbrev pub view_factors : List NetFactor → NetFactors
view_factors fs = factors_of (map view_factor fs)

abbrev pub view_terms : List NetTerm → NetTerms
view_terms ts = terms_of (map view_term ts)

-- ---- updates

abbrev pub updates_of : List NetUpdate → NetUpdates
updates_of [] = no_net_updates
updates_of (u ∷ us) = net_updates u (updates_of us)

abbrev pub update_branches_of : List (NetExpr × NetUpdates) → NetUpdateBranches
update_branches_of [] = no_net_update_branches
update_branches_of (b ∷ bs) = net_update_branches b.0 b.1 (update_branches_of bs)

abbrev pub update_step : NetUpdate-F NetUpdate (NetExpr × NetUpdates) → NetUpdate
update_step (U.Set x e) = net_set x (view e)
update_step (U.If bs us) = net_choose (update_branches_of bs) (updates_of us)

abbrev pub update_branch_step : NetUpdateBranch-F NetUpdate (NetExpr × NetUpdates) → NetExpr × NetUpdates
update_branch_step b = (view b.cond, updates_of b.updates)

abbrev pub view_update : declared_update.NetUpdate → NetUpdate
view_update = fold-NetUpdate _ _ update_step update_branch_step

abbrev pub view_update_branch : NetUpdateBranch → NetExpr × NetUpdates
view_update_branch = fold-NetUpdateBranch _ _ update_step update_branch_step

abbrev pub view_updates : List declared_update.NetUpdate → NetUpdates
view_updates us = updates_of (map view_update us)

abbrev pub view_update_branches : List NetUpdateBranch → NetUpdateBranches
view_update_branches bs = update_branches_of (map view_update_branch bs)
