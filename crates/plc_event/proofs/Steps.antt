-- The steps of the loops over variables and branches: what is written for one of them goes from what is left to what is done.
use Rattle.std.proofs.Common.{◌≡◌, true, ℕ, ◌+◌, ◌<◌, ◌≤◌, List, [], ◌∷◌, ◌++◌, map, length, get_or, drop, sym, ap, ap₂, ◌∙◌, arith}
use Rattle.std.proofs.lemmas.List.{append_assoc, drop_all, drop_more, map-append}
use Rattle.cif_net_expr.specs.Tree.{no_net_update_branches, net_update_branches}
use Rattle.cif_net_expr.specs.View.{view, view_update_branch, view_update_branches, view_updates}
use Rattle.cif_net_expr.specs.Tree as term
use Rattle.cif_net_expr.specs.declared.updates.NetUpdate.TheFolds as folds
use Rattle.cif_net_expr.specs.declared.updates.NetUpdateBranch.{NetUpdateBranch}
use Rattle.grammar.specs.Pieces.{Text}
use Rattle.st_ast.specs.Tree.{Stm, Stms, append, assign, no_stms, stms, stms_of, truth}
use Rattle.st_ast.specs.View.{view_expr, view_stmt, view_stmts}
use Rattle.st_ast.specs.declared.tree.StExpr.{StExpr}
use Rattle.st_ast.specs.declared.tree.Stmt.{Stmt}
use Rattle.plc_expr.specs.Texts.{Naming, before, temps, text}
use Rattle.plc_event_model.specs.Writes.{conditions_before, conditions_temps}
use Rattle.plc_expr_walk.proofs.Joining.{append-none, drop-item, moved, view_append}
use Rattle.plc_event.specs.Making.{all_set}
use Rattle.plc_event.specs.Writers.{condition_texts}

-- ---- statements of variables

module _ (f : ℕ → Stm) (xs : List ℕ) (i : ℕ) where
  pub one-more : (d : ℕ) (all new : List Stmt) (s : Stmt) → i < length xs → view_stmt s ≡ f (get_or xs i d) → new ≡ all ++ s ∷ []
      → append (view_stmts new) (stms_of (map f (drop (i + 1) xs))) ≡ append (view_stmts all) (stms_of (map f (drop i xs)))
  one-more d all new s within s_is new_is =
      moved (view_stmts all) (view_stmts new) (stms (f (get_or xs i d)) no_stms) (stms_of (map f (drop (i + 1) xs))) (stms_of (map f (drop i xs)))
      (ap (λ (ss : List Stmt). view_stmts ss) new_is ∙ view_append all (s ∷ []) ∙ ap (λ y. append (view_stmts all) (stms y no_stms)) s_is)
      (ap (λ ys. stms_of (map f ys)) (drop_more xs i d within))

  pub none-left : (all : Stms) → length xs ≤ i → append all (stms_of (map f (drop i xs))) ≡ all
  none-left all past = ap (λ ys. append all (stms_of (map f ys))) (drop_all i xs past) ∙ append-none all

-- ---- conditions of branches

branch-is : (x : NetUpdateBranch) → view_update_branch x ≡ (view x.cond, view_updates x.updates)
branch-is x = search (folds.the_lemmas)

pub branch-head : (bs : List NetUpdateBranch) (i : ℕ) (x : NetUpdateBranch) → i < length bs → x ≡ get_or bs i x
    → view_update_branches (drop i bs) ≡ net_update_branches (view x.cond) (view_updates x.updates) (view_update_branches (drop (i + 1) bs))
branch-head bs i x within item =
    ap (λ (ys : List NetUpdateBranch). view_update_branches ys) (drop-item bs i x within item)
    ∙ ap (λ (y : term.NetExpr × term.NetUpdates). net_update_branches y.0 y.1 (view_update_branches (drop (i + 1) bs))) (branch-is x)

module _ (w : Naming) (bs : List NetUpdateBranch) (i : ℕ) (x : NetUpdateBranch) (within : i < length bs) (item : x ≡ get_or bs i x) where
  pub condition-text : (k next : ℕ) (all new : List StExpr) (one : StExpr) → view_expr one ≡ text w k (view x.cond) → next ≡ k + temps (view x.cond) → new ≡ all ++ one ∷ []
      → map view_expr new ++ condition_texts w next (view_update_branches (drop (i + 1) bs)) ≡ map view_expr all ++ condition_texts w k (view_update_branches (drop i bs))
  condition-text k next all new one one_is next_is new_is =
      let rest = view_update_branches (drop (i + 1) bs) in
      ap (λ (ys : List StExpr). map view_expr ys ++ condition_texts w next rest) new_is
      ∙ ap (λ ys. ys ++ condition_texts w next rest) (map-append view_expr all (one ∷ []))
      ∙ append_assoc (map view_expr all) (view_expr one ∷ []) (condition_texts w next rest)
      ∙ ap₂ (λ e j. map view_expr all ++ (e ∷ condition_texts w j rest)) one_is next_is
      ∙ ap (λ ys. map view_expr all ++ condition_texts w k ys) (sym (branch-head bs i x within item))

  pub condition-next : (k next : ℕ) → next ≡ k + temps (view x.cond) → next + conditions_temps (view_update_branches (drop (i + 1) bs)) ≡ k + conditions_temps (view_update_branches (drop i bs))
  condition-next k next next_is = let head = ap conditions_temps (branch-head bs i x within item) in omega arith

  pub condition-before : (k next : ℕ) (old new : Stms) → next ≡ k + temps (view x.cond) → new ≡ append old (before w k (view x.cond))
      → append new (conditions_before w next (view_update_branches (drop (i + 1) bs))) ≡ append old (conditions_before w k (view_update_branches (drop i bs)))
  condition-before k next old new next_is new_is =
      moved old new (before w k (view x.cond)) (conditions_before w next (view_update_branches (drop (i + 1) bs))) (conditions_before w k (view_update_branches (drop i bs))) new_is
      (ap (conditions_before w k) (branch-head bs i x within item) ∙ ap (λ j. append (before w k (view x.cond)) (conditions_before w j (view_update_branches (drop (i + 1) bs)))) (sym next_is))

pub conditions-end : (w : Naming) (bs : List NetUpdateBranch) (i k : ℕ) (old : Stms) → length bs ≤ i → append old (conditions_before w k (view_update_branches (drop i bs))) ≡ old
conditions-end w bs i k old past = ap (λ (ys : List NetUpdateBranch). append old (conditions_before w k (view_update_branches ys))) (drop_all i bs past) ∙ append-none old

-- ---- marks that are set

module _ (xs : List Text) (i : ℕ) where
  pub set-more : (x : Text) (all new : List Stmt) (s : Stmt) → i < length xs → x ≡ get_or xs i x → view_stmt s ≡ assign x (truth true) → new ≡ all ++ s ∷ []
      → append (view_stmts new) (all_set (drop (i + 1) xs)) ≡ append (view_stmts all) (all_set (drop i xs))
  set-more x all new s within item s_is new_is =
      moved (view_stmts all) (view_stmts new) (stms (assign x (truth true)) no_stms) (all_set (drop (i + 1) xs)) (all_set (drop i xs))
      (ap (λ (ss : List Stmt). view_stmts ss) new_is ∙ view_append all (s ∷ []) ∙ ap (λ y. append (view_stmts all) (stms y no_stms)) s_is)
      (ap (λ (ys : List Text). all_set ys) (drop-item xs i x within item))

  pub set-end : (all : Stms) → length xs ≤ i → append all (all_set (drop i xs)) ≡ all
  set-end all past = ap (λ (ys : List Text). append all (all_set ys)) (drop_all i xs past) ∙ append-none all
