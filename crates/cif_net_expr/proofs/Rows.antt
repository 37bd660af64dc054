-- The view of each form once, at values as the code builds them.
use Rattle.std.proofs.Common.{◌≡◌, ℕ, pos, true, false, [], ◌∷◌, refl}
use Rattle.cif_net_expr.specs.Tree as tree
use Rattle.cif_net_expr.specs.Tree.{net_expr, n_truth, n_number, n_loc, n_var, n_input, n_alg, n_received, n_minus, n_plus, n_not, n_abs, n_min, n_max, n_sum, n_product, n_compare, n_and, n_or, n_implies, n_iff, n_if, no_net_exprs, net_exprs, no_net_terms, net_terms, no_net_factors, net_factors, no_net_branches, net_branches, net_set, net_choose, no_net_updates, net_updates, no_net_update_branches, net_update_branches}
use Rattle.cif_net_expr.specs.View.{view, view_update, view_updates}
use Rattle.cif_net_expr.specs.declared.expressions.CmpOp.TheVariants as cmp
use Rattle.cif_net_expr.specs.declared.expressions.MulOp.TheVariants as mul
use Rattle.cif_net_expr.specs.declared.expressions.NetExpr.{NetExpr, roll-NetExpr}
use Rattle.cif_net_expr.specs.declared.expressions.NetTerm.{roll-NetTerm}
use Rattle.cif_net_expr.specs.declared.expressions.NetFactor.{roll-NetFactor}
use Rattle.cif_net_expr.specs.declared.expressions.NetBranch.{roll-NetBranch}
use Rattle.cif_net_expr.specs.declared.expressions.NetForm.{NetForm}
use Rattle.cif_net_expr.specs.declared.expressions.NetForm.TheVariants as form
use Rattle.cif_net_expr.specs.declared.updates.NetUpdate.{NetUpdate}
use Rattle.cif_net_expr.specs.declared.updates.NetUpdate.TheVariants as update
use Rattle.cif_net_expr.specs.declared.updates.NetUpdateBranch.{roll-NetUpdateBranch}
use Rattle.cif_net_expr.proofs.ViewLemmas.{views}

abbrev expr : ℕ → NetForm → NetExpr
expr at f = roll-NetExpr (record { form = f; at = at })

-- the number 3 at the place 5, and what it stands for
abbrev three : NetExpr
three = expr 5 (form.Int (pos 3))

abbrev a_three : tree.NetExpr
a_three = net_expr (n_number (pos 3)) 5

-- the variable 2 at the place 9, and what it stands for
abbrev variable : NetExpr
variable = expr 9 (form.Var 2)

abbrev a_variable : tree.NetExpr
a_variable = net_expr (n_var 2) 9

-- ---- expressions

view_of_truth : view (expr 0 (form.Bool true)) ≡ net_expr (n_truth true) 0
view_of_truth = simp views refl

view_of_number : view three ≡ a_three
view_of_number = simp views refl

view_of_location : view (expr 4 (form.Loc 1 7)) ≡ net_expr (n_loc 1 7) 4
view_of_location = simp views refl

view_of_variable : view variable ≡ a_variable
view_of_variable = simp views refl

view_of_input : view (expr 4 (form.Input 6)) ≡ net_expr (n_input 6) 4
view_of_input = simp views refl

view_of_algebraic : view (expr 4 (form.Alg 6)) ≡ net_expr (n_alg 6) 4
view_of_algebraic = simp views refl

view_of_received : view (expr 4 form.Received) ≡ net_expr n_received 4
view_of_received = simp views refl

view_of_minus : view (expr 4 (form.Neg three)) ≡ net_expr (n_minus a_three) 4
view_of_minus = simp views refl

view_of_plus : view (expr 4 (form.Plus three)) ≡ net_expr (n_plus a_three) 4
view_of_plus = simp views refl

view_of_not : view (expr 4 (form.Not variable)) ≡ net_expr (n_not a_variable) 4
view_of_not = simp views refl

view_of_absolute : view (expr 4 (form.Abs variable)) ≡ net_expr (n_abs a_variable) 4
view_of_absolute = simp views refl

view_of_least : view (expr 4 (form.Min three variable)) ≡ net_expr (n_min a_three a_variable) 4
view_of_least = simp views refl

view_of_greatest : view (expr 4 (form.Max three variable)) ≡ net_expr (n_max a_three a_variable) 4
view_of_greatest = simp views refl

-- 3 - v + 3
view_of_sum : view (expr 5 (form.Sum three (roll-NetTerm (record { minus = true; value = variable }) ∷ roll-NetTerm (record { minus = false; value = three }) ∷ []))) ≡ net_expr (n_sum a_three (net_terms true a_variable (net_terms false a_three no_net_terms))) 5
view_of_sum = simp views refl

-- 3 * v div 3 mod v
view_of_product : view (expr 5 (form.Product three (roll-NetFactor (record { op = mul.Times; value = variable }) ∷ roll-NetFactor (record { op = mul.Div; value = three }) ∷ roll-NetFactor (record { op = mul.Mod; value = variable }) ∷ []))) ≡ net_expr (n_product a_three (net_factors tree.times a_variable (net_factors tree.divided a_three (net_factors tree.modulo a_variable no_net_factors)))) 5
view_of_product = simp views refl

view_of_equal : view (expr 5 (form.Compare three cmp.Eq variable)) ≡ net_expr (n_compare a_three tree.eq a_variable) 5
view_of_equal = simp views refl

view_of_unequal : view (expr 5 (form.Compare three cmp.Ne variable)) ≡ net_expr (n_compare a_three tree.ne a_variable) 5
view_of_unequal = simp views refl

view_of_less : view (expr 5 (form.Compare three cmp.Lt variable)) ≡ net_expr (n_compare a_three tree.lt a_variable) 5
view_of_less = simp views refl

view_of_at_most : view (expr 5 (form.Compare three cmp.Le variable)) ≡ net_expr (n_compare a_three tree.le a_variable) 5
view_of_at_most = simp views refl

view_of_greater : view (expr 5 (form.Compare three cmp.Gt variable)) ≡ net_expr (n_compare a_three tree.gt a_variable) 5
view_of_greater = simp views refl

view_of_at_least : view (expr 5 (form.Compare three cmp.Ge variable)) ≡ net_expr (n_compare a_three tree.ge a_variable) 5
view_of_at_least = simp views refl

view_of_and : view (expr 5 (form.And (variable ∷ three ∷ []))) ≡ net_expr (n_and (net_exprs a_variable (net_exprs a_three no_net_exprs))) 5
view_of_and = simp views refl

view_of_or : view (expr 5 (form.Or (variable ∷ three ∷ []))) ≡ net_expr (n_or (net_exprs a_variable (net_exprs a_three no_net_exprs))) 5
view_of_or = simp views refl

view_of_implies : view (expr 5 (form.Implies three variable)) ≡ net_expr (n_implies a_three a_variable) 5
view_of_implies = simp views refl

view_of_iff : view (expr 5 (form.Iff three variable)) ≡ net_expr (n_iff a_three a_variable) 5
view_of_iff = simp views refl

-- if v: 3 elif 3: v else 3 end
view_of_if : view (expr 5 (form.If (roll-NetBranch (record { cond = variable; value = three }) ∷ roll-NetBranch (record { cond = three; value = variable }) ∷ []) three)) ≡ net_expr (n_if (net_branches a_variable a_three (net_branches a_three a_variable no_net_branches)) a_three) 5
view_of_if = simp views refl

-- ---- updates

abbrev set_two : NetUpdate
set_two = update.Set 2 three

view_of_assignment : view_update set_two ≡ net_set 2 a_three
view_of_assignment = simp views refl

-- one branch with two updates, and an `else` with one
view_of_choice : view_update (update.If (roll-NetUpdateBranch (record { cond = variable; updates = set_two ∷ update.Set 1 variable ∷ [] }) ∷ []) (set_two ∷ [])) ≡ net_choose (net_update_branches a_variable (net_updates (net_set 2 a_three) (net_updates (net_set 1 a_variable) no_net_updates)) no_net_update_branches) (net_updates (net_set 2 a_three) no_net_updates)
view_of_choice = simp views refl

view_of_updates : view_updates (update.If [] [] ∷ set_two ∷ []) ≡ net_updates (net_choose no_net_update_branches no_net_updates) (net_updates (net_set 2 a_three) no_net_updates)
view_of_updates = simp views refl
