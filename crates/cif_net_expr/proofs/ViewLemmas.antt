-- What `view` and its kin give, one level at a time, at values as the code builds them.
-- `views` has all of these equations.
use Rattle.std.proofs.Common.{◌≡◌, ℕ, ℤ, Bool, List}
use Rattle.cif_net_expr.specs.Tree.{net_expr, n_truth, n_number, n_loc, n_var, n_input, n_alg, n_received, n_minus, n_plus, n_not, n_abs, n_min, n_max, n_sum, n_product, n_compare, n_and, n_or, n_implies, n_iff, n_if, net_set, net_choose}
use Rattle.cif_net_expr.specs.View.{view_cmp, view_mul, view, view_form, view_term, view_factor, view_branch, view_exprs, view_terms, view_factors, view_branches, view_update, view_update_branch, view_updates, view_update_branches}
use Rattle.cif_net_expr.specs.declared.expressions.MulOp.{MulOp}
use Rattle.cif_net_expr.specs.declared.expressions.CmpOp.{CmpOp}
use Rattle.cif_net_expr.specs.declared.expressions.NetExpr.{NetExpr, roll-NetExpr}
use Rattle.cif_net_expr.specs.declared.expressions.NetTerm.{NetTerm, roll-NetTerm}
use Rattle.cif_net_expr.specs.declared.expressions.NetFactor.{NetFactor, roll-NetFactor}
use Rattle.cif_net_expr.specs.declared.expressions.NetBranch.{NetBranch, roll-NetBranch}
use Rattle.cif_net_expr.specs.declared.expressions.NetForm.{NetForm}
use Rattle.cif_net_expr.specs.declared.expressions.NetForm.TheVariants as form
use Rattle.cif_net_expr.specs.declared.expressions.NetForm.TheFolds as forms
use Rattle.cif_net_expr.specs.declared.updates.NetUpdate.{NetUpdate}
use Rattle.cif_net_expr.specs.declared.updates.NetUpdateBranch.{NetUpdateBranch, roll-NetUpdateBranch}
use Rattle.cif_net_expr.specs.declared.updates.NetUpdate.TheVariants as update
use Rattle.cif_net_expr.specs.declared.updates.NetUpdate.TheFolds as change

-- ---- expressions

pub view-expr : (f : NetForm) (at : ℕ) → view (roll-NetExpr (record { form = f; at = at })) ≡ net_expr (view_form f) at
view-expr f at = search (forms.the_lemmas)

pub view_form-Bool : (b : Bool) → view_form (form.Bool b) ≡ n_truth b
view_form-Bool b = search (forms.the_lemmas)

pub view_form-Int : (z : ℤ) → view_form (form.Int z) ≡ n_number z
view_form-Int z = search (forms.the_lemmas)

pub view_form-Loc : (a : ℕ) (p : ℕ) → view_form (form.Loc a p) ≡ n_loc a p
view_form-Loc a p = search (forms.the_lemmas)

pub view_form-Var : (k : ℕ) → view_form (form.Var k) ≡ n_var k
view_form-Var k = search (forms.the_lemmas)

pub view_form-Input : (k : ℕ) → view_form (form.Input k) ≡ n_input k
view_form-Input k = search (forms.the_lemmas)

pub view_form-Alg : (k : ℕ) → view_form (form.Alg k) ≡ n_alg k
view_form-Alg k = search (forms.the_lemmas)

pub view_form-Received : view_form form.Received ≡ n_received
view_form-Received = search (forms.the_lemmas)

pub view_form-Neg : (e : NetExpr) → view_form (form.Neg e) ≡ n_minus (view e)
view_form-Neg e = search (forms.the_lemmas)

pub view_form-Plus : (e : NetExpr) → view_form (form.Plus e) ≡ n_plus (view e)
view_form-Plus e = search (forms.the_lemmas)

pub view_form-Not : (e : NetExpr) → view_form (form.Not e) ≡ n_not (view e)
view_form-Not e = search (forms.the_lemmas)

pub view_form-Abs : (e : NetExpr) → view_form (form.Abs e) ≡ n_abs (view e)
view_form-Abs e = search (forms.the_lemmas)

pub view_form-Min : (a : NetExpr) (b : NetExpr) → view_form (form.Min a b) ≡ n_min (view a) (view b)
view_form-Min a b = search (forms.the_lemmas)

pub view_form-Max : (a : NetExpr) (b : NetExpr) → view_form (form.Max a b) ≡ n_max (view a) (view b)
view_form-Max a b = search (forms.the_lemmas)

pub view_form-Sum : (e : NetExpr) (ts : List NetTerm) → view_form (form.Sum e ts) ≡ n_sum (view e) (view_terms ts)
view_form-Sum e ts = search (forms.the_lemmas)

pub view_form-Product : (e : NetExpr) (fs : List NetFactor) → view_form (form.Product e fs) ≡ n_product (view e) (view_factors fs)
view_form-Product e fs = search (forms.the_lemmas)

pub view_form-Compare : (a : NetExpr) (op : CmpOp) (b : NetExpr) → view_form (form.Compare a op b) ≡ n_compare (view a) (view_cmp op) (view b)
view_form-Compare a op b = search (forms.the_lemmas)

pub view_form-And : (es : List NetExpr) → view_form (form.And es) ≡ n_and (view_exprs es)
view_form-And es = search (forms.the_lemmas)

pub view_form-Or : (es : List NetExpr) → view_form (form.Or es) ≡ n_or (view_exprs es)
view_form-Or es = search (forms.the_lemmas)

pub view_form-Implies : (a : NetExpr) (b : NetExpr) → view_form (form.Implies a b) ≡ n_implies (view a) (view b)
view_form-Implies a b = search (forms.the_lemmas)

pub view_form-Iff : (a : NetExpr) (b : NetExpr) → view_form (form.Iff a b) ≡ n_iff (view a) (view b)
view_form-Iff a b = search (forms.the_lemmas)

pub view_form-If : (bs : List NetBranch) (e : NetExpr) → view_form (form.If bs e) ≡ n_if (view_branches bs) (view e)
view_form-If bs e = search (forms.the_lemmas)

pub view-term : (minus : Bool) (e : NetExpr) → view_term (roll-NetTerm (record { minus = minus; value = e })) ≡ (minus, view e)
view-term minus e = search (forms.the_lemmas)

pub view-factor : (op : MulOp) (e : NetExpr) → view_factor (roll-NetFactor (record { op = op; value = e })) ≡ (view_mul op, view e)
view-factor op e = search (forms.the_lemmas)

pub view-branch : (c : NetExpr) (e : NetExpr) → view_branch (roll-NetBranch (record { cond = c; value = e })) ≡ (view c, view e)
view-branch c e = search (forms.the_lemmas)

-- ---- updates

pub view_update-Set : (k : ℕ) (e : NetExpr) → view_update (update.Set k e) ≡ net_set k (view e)
view_update-Set k e = search (change.the_lemmas)

pub view_update-If : (bs : List NetUpdateBranch) (us : List NetUpdate) → view_update (update.If bs us) ≡ net_choose (view_update_branches bs) (view_updates us)
view_update-If bs us = search (change.the_lemmas)

pub view-update_branch : (c : NetExpr) (us : List NetUpdate) → view_update_branch (roll-NetUpdateBranch (record { cond = c; updates = us })) ≡ (view c, view_updates us)
view-update_branch c us = search (change.the_lemmas)

pub ruleset views = (view-expr, view_form-Bool, view_form-Int, view_form-Loc, view_form-Var, view_form-Input, view_form-Alg, view_form-Received, view_form-Neg, view_form-Plus, view_form-Not, view_form-Abs, view_form-Min, view_form-Max, view_form-Sum, view_form-Product, view_form-Compare, view_form-And, view_form-Or, view_form-Implies, view_form-Iff, view_form-If, view-term, view-factor, view-branch, view_update-Set, view_update-If, view-update_branch)
