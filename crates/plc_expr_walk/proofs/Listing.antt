-- The steps of the loops over operands and branches: what is written for one of them goes from what is left to what is done.
use Rattle.std.proofs.Common.{◌≡◌, ℕ, ◌+◌, ◌<◌, ◌≤◌, Bool, List, [], ◌∷◌, ◌++◌, map, length, get_or, drop, refl, sym, ap, ◌∙◌, arith}
use Rattle.std.proofs.lemmas.List.{append-nil, append_assoc, drop_all, map-append}
use Rattle.cif_net_expr.specs.Tree.{NetExpr as Expr, MulOp, net_branches, net_exprs, net_factors, net_terms, no_net_branches, no_net_exprs, no_net_factors, no_net_terms}
use Rattle.cif_net_expr.specs.View.{view, view_branch, view_branches, view_exprs, view_factor, view_factors, view_mul, view_term, view_terms}
use Rattle.cif_net_expr.specs.declared.expressions.NetBranch.{NetBranch}
use Rattle.cif_net_expr.specs.declared.expressions.NetExpr.{NetExpr}
use Rattle.cif_net_expr.specs.declared.expressions.NetFactor.{NetFactor}
use Rattle.cif_net_expr.specs.declared.expressions.NetTerm.{NetTerm}
use Rattle.cif_net_expr.specs.declared.expressions.NetForm.TheFolds as forms
use Rattle.grammar.specs.Pieces.{Text}
use Rattle.st_ast.specs.Tree as st_tree
use Rattle.st_ast.specs.Tree.{Stms, append, assign, branches, factors, no_stms, stms, terms}
use Rattle.st_ast.specs.View as st
use Rattle.st_ast.specs.declared.tree.StBranch.{StBranch}
use Rattle.st_ast.specs.declared.tree.StExpr.{StExpr}
use Rattle.st_ast.specs.declared.tree.StFactor.{StFactor}
use Rattle.st_ast.specs.declared.tree.StMul.{StMul}
use Rattle.st_ast.specs.declared.tree.StTerm.{StTerm}
use Rattle.plc_expr.specs.Texts.{Naming, before, branches_before, branches_temps, branches_text, factor, factors_before, factors_temps, factors_text, list_before, list_temps, mul_of, temps, term, terms_before, terms_temps, terms_text, text, texts}
use Rattle.plc_expr_walk.proofs.Joining.{append-none, branches-end, branches-more, branches_then, drop-item, factors-end, factors-more, factors_then, moved, terms-end, terms-more, terms_then}

-- ---- expressions

module _ (w : Naming) (parts : List NetExpr) (i : ℕ) (x : NetExpr) (within : i < length parts) (item : x ≡ get_or parts i x) where
  expr-head : view_exprs (drop i parts) ≡ net_exprs (view x) (view_exprs (drop (i + 1) parts))
  expr-head = ap (λ (xs : List NetExpr). view_exprs xs) (drop-item parts i x within item)

  pub list-text : (k next : ℕ) (all new : List StExpr) (one : StExpr) → st.view_expr one ≡ text w k (view x) → next ≡ k + temps (view x) → new ≡ all ++ one ∷ []
      → map st.view_expr new ++ texts w next (view_exprs (drop (i + 1) parts)) ≡ map st.view_expr all ++ texts w k (view_exprs (drop i parts))
  list-text k next all new one one_is next_is new_is =
      let rest = view_exprs (drop (i + 1) parts) in
      ap (λ (xs : List StExpr). map st.view_expr xs ++ texts w next rest) new_is
      ∙ ap (λ xs. xs ++ texts w next rest) (map-append st.view_expr all (one ∷ []))
      ∙ append_assoc (map st.view_expr all) (st.view_expr one ∷ []) (texts w next rest)
      ∙ ap (λ e. map st.view_expr all ++ (e ∷ texts w next rest)) one_is
      ∙ ap (λ j. map st.view_expr all ++ (text w k (view x) ∷ texts w j rest)) next_is
      ∙ ap (λ es. map st.view_expr all ++ texts w k es) (sym expr-head)

  pub list-next : (k next : ℕ) → next ≡ k + temps (view x) → next + list_temps (view_exprs (drop (i + 1) parts)) ≡ k + list_temps (view_exprs (drop i parts))
  list-next k next next_is = let head = ap list_temps expr-head in omega arith

  pub list-before : (k next : ℕ) (old new : Stms) → next ≡ k + temps (view x) → new ≡ append old (before w k (view x))
      → append new (list_before w next (view_exprs (drop (i + 1) parts))) ≡ append old (list_before w k (view_exprs (drop i parts)))
  list-before k next old new next_is new_is =
      moved old new (before w k (view x)) (list_before w next (view_exprs (drop (i + 1) parts))) (list_before w k (view_exprs (drop i parts))) new_is
      (ap (list_before w k) expr-head ∙ ap (λ j. append (before w k (view x)) (list_before w j (view_exprs (drop (i + 1) parts)))) (sym next_is))

module _ (w : Naming) (parts : List NetExpr) (i : ℕ) (past : length parts ≤ i) where
  no-exprs : view_exprs (drop i parts) ≡ no_net_exprs
  no-exprs = ap (λ (xs : List NetExpr). view_exprs xs) (drop_all i parts past)

  pub list-text-end : (k : ℕ) (all : List StExpr) → map st.view_expr all ++ texts w k (view_exprs (drop i parts)) ≡ map st.view_expr all
  list-text-end k all = ap (λ es. map st.view_expr all ++ texts w k es) no-exprs ∙ append-nil (map st.view_expr all)

  pub list-next-end : (k : ℕ) → k + list_temps (view_exprs (drop i parts)) ≡ k
  list-next-end k = let end = ap list_temps no-exprs in omega arith

  pub list-before-end : (k : ℕ) (old : Stms) → append old (list_before w k (view_exprs (drop i parts))) ≡ old
  list-before-end k old = ap (λ es. append old (list_before w k es)) no-exprs ∙ append-none old

-- ---- further operands of sums

term-is : (x : NetTerm) → view_term x ≡ (x.minus, view x.value)
term-is x = search (forms.the_lemmas)

module _ (w : Naming) (parts : List NetTerm) (i : ℕ) (x : NetTerm) (within : i < length parts) (item : x ≡ get_or parts i x) where
  term-head : view_terms (drop i parts) ≡ net_terms x.minus (view x.value) (view_terms (drop (i + 1) parts))
  term-head =
      ap (λ (xs : List NetTerm). view_terms xs) (drop-item parts i x within item)
      ∙ ap (λ (y : Bool × Expr). net_terms y.0 y.1 (view_terms (drop (i + 1) parts))) (term-is x)

  pub terms-text : (k next : ℕ) (all new : List StTerm) (one : StTerm) → st.view_term one ≡ (x.minus, term (text w k (view x.value)))
      → next ≡ k + temps (view x.value) → new ≡ all ++ one ∷ []
      → terms_then (map st.view_term new) (terms_text w next (view_terms (drop (i + 1) parts))) ≡ terms_then (map st.view_term all) (terms_text w k (view_terms (drop i parts)))
  terms-text k next all new one one_is next_is new_is =
      let rest = view_terms (drop (i + 1) parts) in
      ap (λ (xs : List StTerm). terms_then (map st.view_term xs) (terms_text w next rest)) new_is
      ∙ ap (λ xs. terms_then xs (terms_text w next rest)) (map-append st.view_term all (one ∷ []))
      ∙ terms-more (map st.view_term all) (st.view_term one) (terms_text w next rest)
      ∙ ap (λ (y : Bool × st_tree.Expr). terms_then (map st.view_term all) (terms y.0 y.1 (terms_text w next rest))) one_is
      ∙ ap (λ j. terms_then (map st.view_term all) (terms x.minus (term (text w k (view x.value))) (terms_text w j rest))) next_is
      ∙ ap (λ ts. terms_then (map st.view_term all) (terms_text w k ts)) (sym term-head)

  pub terms-next : (k next : ℕ) → next ≡ k + temps (view x.value) → next + terms_temps (view_terms (drop (i + 1) parts)) ≡ k + terms_temps (view_terms (drop i parts))
  terms-next k next next_is = let head = ap terms_temps term-head in omega arith

  pub terms-before : (k next : ℕ) (old new : Stms) → next ≡ k + temps (view x.value) → new ≡ append old (before w k (view x.value))
      → append new (terms_before w next (view_terms (drop (i + 1) parts))) ≡ append old (terms_before w k (view_terms (drop i parts)))
  terms-before k next old new next_is new_is =
      moved old new (before w k (view x.value)) (terms_before w next (view_terms (drop (i + 1) parts))) (terms_before w k (view_terms (drop i parts))) new_is
      (ap (terms_before w k) term-head ∙ ap (λ j. append (before w k (view x.value)) (terms_before w j (view_terms (drop (i + 1) parts)))) (sym next_is))

module _ (w : Naming) (parts : List NetTerm) (i : ℕ) (past : length parts ≤ i) where
  no-terms : view_terms (drop i parts) ≡ no_net_terms
  no-terms = ap (λ (xs : List NetTerm). view_terms xs) (drop_all i parts past)

  pub terms-text-end : (k : ℕ) (all : List StTerm) → terms_then (map st.view_term all) (terms_text w k (view_terms (drop i parts))) ≡ st.view_terms all
  terms-text-end k all = ap (λ ts. terms_then (map st.view_term all) (terms_text w k ts)) no-terms ∙ terms-end (map st.view_term all)

  pub terms-next-end : (k : ℕ) → k + terms_temps (view_terms (drop i parts)) ≡ k
  terms-next-end k = let end = ap terms_temps no-terms in omega arith

  pub terms-before-end : (k : ℕ) (old : Stms) → append old (terms_before w k (view_terms (drop i parts))) ≡ old
  terms-before-end k old = ap (λ ts. append old (terms_before w k ts)) no-terms ∙ append-none old

-- ---- further operands of products

factor-is : (x : NetFactor) → view_factor x ≡ (view_mul x.op, view x.value)
factor-is x = search (forms.the_lemmas)

module _ (w : Naming) (parts : List NetFactor) (i : ℕ) (x : NetFactor) (within : i < length parts) (item : x ≡ get_or parts i x) where
  factor-head : view_factors (drop i parts) ≡ net_factors (view_mul x.op) (view x.value) (view_factors (drop (i + 1) parts))
  factor-head =
      ap (λ (xs : List NetFactor). view_factors xs) (drop-item parts i x within item)
      ∙ ap (λ (y : MulOp × Expr). net_factors y.0 y.1 (view_factors (drop (i + 1) parts))) (factor-is x)

  pub factors-text : (k next : ℕ) (all new : List StFactor) (one : StFactor) → st.view_factor one ≡ (mul_of (view_mul x.op), factor (text w k (view x.value)))
      → next ≡ k + temps (view x.value) → new ≡ all ++ one ∷ []
      → factors_then (map st.view_factor new) (factors_text w next (view_factors (drop (i + 1) parts))) ≡ factors_then (map st.view_factor all) (factors_text w k (view_factors (drop i parts)))
  factors-text k next all new one one_is next_is new_is =
      let rest = view_factors (drop (i + 1) parts) in
      ap (λ (xs : List StFactor). factors_then (map st.view_factor xs) (factors_text w next rest)) new_is
      ∙ ap (λ xs. factors_then xs (factors_text w next rest)) (map-append st.view_factor all (one ∷ []))
      ∙ factors-more (map st.view_factor all) (st.view_factor one) (factors_text w next rest)
      ∙ ap (λ (y : StMul × st_tree.Expr). factors_then (map st.view_factor all) (factors y.0 y.1 (factors_text w next rest))) one_is
      ∙ ap (λ j. factors_then (map st.view_factor all) (factors (mul_of (view_mul x.op)) (factor (text w k (view x.value))) (factors_text w j rest))) next_is
      ∙ ap (λ fs. factors_then (map st.view_factor all) (factors_text w k fs)) (sym factor-head)

  pub factors-next : (k next : ℕ) → next ≡ k + temps (view x.value) → next + factors_temps (view_factors (drop (i + 1) parts)) ≡ k + factors_temps (view_factors (drop i parts))
  factors-next k next next_is = let head = ap factors_temps factor-head in omega arith

  pub factors-before : (k next : ℕ) (old new : Stms) → next ≡ k + temps (view x.value) → new ≡ append old (before w k (view x.value))
      → append new (factors_before w next (view_factors (drop (i + 1) parts))) ≡ append old (factors_before w k (view_factors (drop i parts)))
  factors-before k next old new next_is new_is =
      moved old new (before w k (view x.value)) (factors_before w next (view_factors (drop (i + 1) parts))) (factors_before w k (view_factors (drop i parts))) new_is
      (ap (factors_before w k) factor-head ∙ ap (λ j. append (before w k (view x.value)) (factors_before w j (view_factors (drop (i + 1) parts)))) (sym next_is))

module _ (w : Naming) (parts : List NetFactor) (i : ℕ) (past : length parts ≤ i) where
  no-factors : view_factors (drop i parts) ≡ no_net_factors
  no-factors = ap (λ (xs : List NetFactor). view_factors xs) (drop_all i parts past)

  pub factors-text-end : (k : ℕ) (all : List StFactor) → factors_then (map st.view_factor all) (factors_text w k (view_factors (drop i parts))) ≡ st.view_factors all
  factors-text-end k all = ap (λ fs. factors_then (map st.view_factor all) (factors_text w k fs)) no-factors ∙ factors-end (map st.view_factor all)

  pub factors-next-end : (k : ℕ) → k + factors_temps (view_factors (drop i parts)) ≡ k
  factors-next-end k = let end = ap factors_temps no-factors in omega arith

  pub factors-before-end : (k : ℕ) (old : Stms) → append old (factors_before w k (view_factors (drop i parts))) ≡ old
  factors-before-end k old = ap (λ fs. append old (factors_before w k fs)) no-factors ∙ append-none old

-- ---- branches

branch-is : (x : NetBranch) → view_branch x ≡ (view x.cond, view x.value)
branch-is x = search (forms.the_lemmas)

module _ (w : Naming) (name : Text) (parts : List NetBranch) (i : ℕ) (x : NetBranch) (within : i < length parts) (item : x ≡ get_or parts i x) where
  branch-head : view_branches (drop i parts) ≡ net_branches (view x.cond) (view x.value) (view_branches (drop (i + 1) parts))
  branch-head =
      ap (λ (xs : List NetBranch). view_branches xs) (drop-item parts i x within item)
      ∙ ap (λ (y : Expr × Expr). net_branches y.0 y.1 (view_branches (drop (i + 1) parts))) (branch-is x)

  pub branches-text : (k mid next : ℕ) (all new : List StBranch) (one : StBranch)
      → st.view_branch one ≡ (text w k (view x.cond), stms (assign name (text w mid (view x.value))) no_stms)
      → mid ≡ k + temps (view x.cond) → next ≡ mid + temps (view x.value) → new ≡ all ++ one ∷ []
      → branches_then (map st.view_branch new) (branches_text w name next (view_branches (drop (i + 1) parts))) ≡ branches_then (map st.view_branch all) (branches_text w name k (view_branches (drop i parts)))
  branches-text k mid next all new one one_is mid_is next_is new_is =
      let rest = view_branches (drop (i + 1) parts) in
      ap (λ (xs : List StBranch). branches_then (map st.view_branch xs) (branches_text w name next rest)) new_is
      ∙ ap (λ xs. branches_then xs (branches_text w name next rest)) (map-append st.view_branch all (one ∷ []))
      ∙ branches-more (map st.view_branch all) (st.view_branch one) (branches_text w name next rest)
      ∙ ap (λ (y : st_tree.Expr × Stms). branches_then (map st.view_branch all) (branches y.0 y.1 (branches_text w name next rest))) one_is
      ∙ ap (λ j. branches_then (map st.view_branch all) (branches (text w k (view x.cond)) (stms (assign name (text w mid (view x.value))) no_stms) (branches_text w name j rest))) next_is
      ∙ ap (λ j. branches_then (map st.view_branch all) (branches (text w k (view x.cond)) (stms (assign name (text w j (view x.value))) no_stms) (branches_text w name (j + temps (view x.value)) rest))) mid_is
      ∙ ap (λ bs. branches_then (map st.view_branch all) (branches_text w name k bs)) (sym branch-head)

  pub branches-next : (k mid next : ℕ) → mid ≡ k + temps (view x.cond) → next ≡ mid + temps (view x.value)
      → next + branches_temps (view_branches (drop (i + 1) parts)) ≡ k + branches_temps (view_branches (drop i parts))
  branches-next k mid next mid_is next_is = let head = ap branches_temps branch-head in omega arith

  pub branches-before : (k mid next : ℕ) (old half new : Stms) → mid ≡ k + temps (view x.cond) → next ≡ mid + temps (view x.value)
      → half ≡ append old (before w k (view x.cond)) → new ≡ append half (before w mid (view x.value))
      → append new (branches_before w next (view_branches (drop (i + 1) parts))) ≡ append old (branches_before w k (view_branches (drop i parts)))
  branches-before k mid next old half new mid_is next_is half_is new_is =
      let rest = branches_before w next (view_branches (drop (i + 1) parts)) in
      moved half new (before w mid (view x.value)) rest (append (before w mid (view x.value)) rest) new_is refl
      ∙ moved old half (before w k (view x.cond)) (append (before w mid (view x.value)) rest) (branches_before w k (view_branches (drop i parts))) half_is
      (ap (branches_before w k) branch-head
      ∙ ap (λ j. append (before w k (view x.cond)) (append (before w j (view x.value)) (branches_before w (j + temps (view x.value)) (view_branches (drop (i + 1) parts))))) (sym mid_is)
      ∙ ap (λ j. append (before w k (view x.cond)) (append (before w mid (view x.value)) (branches_before w j (view_branches (drop (i + 1) parts))))) (sym next_is))

module _ (w : Naming) (name : Text) (parts : List NetBranch) (i : ℕ) (past : length parts ≤ i) where
  no-branches : view_branches (drop i parts) ≡ no_net_branches
  no-branches = ap (λ (xs : List NetBranch). view_branches xs) (drop_all i parts past)

  pub branches-text-end : (k : ℕ) (all : List StBranch) → branches_then (map st.view_branch all) (branches_text w name k (view_branches (drop i parts))) ≡ st.view_branches all
  branches-text-end k all = ap (λ bs. branches_then (map st.view_branch all) (branches_text w name k bs)) no-branches ∙ branches-end (map st.view_branch all)

  pub branches-next-end : (k : ℕ) → k + branches_temps (view_branches (drop i parts)) ≡ k
  branches-next-end k = let end = ap branches_temps no-branches in omega arith

  pub branches-before-end : (k : ℕ) (old : Stms) → append old (branches_before w k (view_branches (drop i parts))) ≡ old
  branches-before-end k old = ap (λ bs. append old (branches_before w k bs)) no-branches ∙ append-none old
