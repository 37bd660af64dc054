-- The steps of the loops over updates and their branches: what is written for one of them goes to what is done.
use Rattle.std.proofs.Common.{◌≡◌, ℕ, ◌+◌, ◌<◌, ◌≤◌, List, [], ◌∷◌, ◌++◌, map, length, get_or, drop, reverse, Result, Ok, Err, OnOk, refl, sym, ap, ap₂, ◌∙◌, arith}
use Rattle.std.proofs.lemmas.List.{drop_all, map-append, reverse-append}
use Rattle.cif_net_expr.specs.Tree as term
use Rattle.cif_net_expr.specs.Tree.{net_choose, net_updates, no_net_update_branches, net_update_branches}
use Rattle.cif_net_expr.specs.View.{view_update, view_update_branches, view_updates}
use Rattle.cif_net_expr.specs.declared.updates.NetUpdate.{NetUpdate}
use Rattle.cif_net_expr.specs.declared.updates.NetUpdateBranch.{NetUpdateBranch}
use Rattle.cif_net_model.specs.Net.{Net}
use Rattle.grammar.specs.Pieces.{Text}
use Rattle.st_ast.specs.Tree.{Expr, assign, Stm, Stms, append, no_stms, stms, Branches, branches}
use Rattle.st_ast.specs.View.{view_branch, view_branches, view_expr, view_stmt, view_stmts}
use Rattle.st_ast.specs.declared.tree.StBranch.{StBranch}
use Rattle.st_ast.specs.declared.tree.StExpr.{StExpr}
use Rattle.st_ast.specs.declared.tree.Stmt.{Stmt}
use Rattle.st_ast.specs.declared.tree.Stmt.TheFolds as folds
use Rattle.st_ast.specs.declared.tree.Stmt.TheVariants as statement
use Rattle.plc_expr.specs.Texts.{Naming, temps, text}
use Rattle.plc_event_model.specs.Writes.{NewNames, bodies_temps, chosen, conditions_before, conditions_temps, update_temps, updates_temps, write, write_branches, writes}
use Rattle.plc_expr_walk.proofs.Joining.{append-assoc, append-none, branches-end, branches-more, branches_then, drop-item, view_append}
use Rattle.plc_event.specs.Writers.{condition_texts, joined}
use Rattle.plc_event.proofs.Steps.{branch-head}

-- ---- one update

pub view_assign : (x : Text) (e : StExpr) → view_stmt (statement.Assign x e) ≡ assign x (view_expr e)
view_assign x e = search (folds.the_lemmas)

-- statements, then one, and then others
pub set-added : (old half pushed tests new : List Stmt) (first range : Stms) (one : Stmt) → pushed ≡ half ++ one ∷ [] → (s : Stm) → view_stmts half ≡ append (view_stmts old) first → view_stmt one ≡ s
    → view_stmts tests ≡ range → new ≡ pushed ++ tests → view_stmts new ≡ append (view_stmts old) (append first (stms s range))
set-added old half pushed tests new first range one pushed_is s half_is one_is range_is new_is =
    ap (λ (ss : List Stmt). view_stmts ss) new_is
    ∙ view_append pushed tests
    ∙ ap₂ append (ap (λ (ss : List Stmt). view_stmts ss) pushed_is ∙ view_append half (one ∷ []) ∙ ap₂ (λ h y. append h (stms y no_stms)) half_is one_is) range_is
    ∙ append-assoc (append (view_stmts old) first) (stms s no_stms) range
    ∙ append-assoc (view_stmts old) first (stms s range)

-- ---- updates, from the last to the first

update-head : (us : List NetUpdate) (i : ℕ) (x : NetUpdate) → i < length us → x ≡ get_or us i x → view_updates (drop i us) ≡ net_updates (view_update x) (view_updates (drop (i + 1) us))
update-head us i x within item = ap (λ (ys : List NetUpdate). view_updates ys) (drop-item us i x within item)

module _ (n : Net) (w : Naming) (y : NewNames) (us : List NetUpdate) (i j : ℕ) (x : NetUpdate) (within : i < length us) (item : x ≡ get_or us i x) (after : j ≡ i + 1) (k : ℕ) where
  head : view_updates (drop i us) ≡ net_updates (view_update x) (view_updates (drop j us))
  head = update-head us i x within item ∙ ap (λ l. net_updates (view_update x) (view_updates (drop l us))) (sym after)

  pub update-next : (half next : ℕ) → half ≡ k + updates_temps (view_updates (drop j us)) → next ≡ half + update_temps (view_update x) → next ≡ k + updates_temps (view_updates (drop i us))
  update-next half next half_is next_is = let whole = ap updates_temps head in omega arith

  pub update-before : (next : ℕ) (old half new : Stms) → next ≡ k + updates_temps (view_updates (drop j us)) → half ≡ append old (writes n w y k (view_updates (drop j us)))
      → new ≡ append half (write n w y next (view_update x)) → new ≡ append old (writes n w y k (view_updates (drop i us)))
  update-before next old half new next_is half_is new_is =
      let first = writes n w y k (view_updates (drop j us)) in
      new_is
      ∙ ap₂ (λ h l. append h (write n w y l (view_update x))) half_is next_is
      ∙ append-assoc old first (write n w y (k + updates_temps (view_updates (drop j us))) (view_update x))
      ∙ ap (λ vs. append old (writes n w y k vs)) (sym head)

pub no-updates : (n : Net) (w : Naming) (y : NewNames) (us : List NetUpdate) (k : ℕ) (old : Stms) → old ≡ append old (writes n w y k (view_updates (drop (length us) us)))
no-updates n w y us k old =
    let past : length us ≤ length us = omega arith in
    sym (ap (λ (vs : List NetUpdate). append old (writes n w y k (view_updates vs))) (drop_all (length us) us past) ∙ append-none old)

pub no-temps : (us : List NetUpdate) (k : ℕ) → k ≡ k + updates_temps (view_updates (drop (length us) us))
no-temps us k =
    let past : length us ≤ length us = omega arith in
    let none = ap (λ (vs : List NetUpdate). updates_temps (view_updates vs)) (drop_all (length us) us past) in omega arith

-- ---- branches

last-first : (cs rest : List StExpr) (c : StExpr) → cs ≡ rest ++ c ∷ [] → map view_expr (reverse cs) ≡ view_expr c ∷ map view_expr (reverse rest)
last-first cs rest c is = ap (λ (ys : List StExpr). map view_expr (reverse ys)) is ∙ ap (map view_expr) (reverse-append rest (c ∷ []))

module _ (n : Net) (w : Naming) (y : NewNames) (bs : List NetUpdateBranch) (i : ℕ) (x : NetUpdateBranch) (within : i < length bs) (item : x ≡ get_or bs i x) (j next : ℕ)
    (next_is : next ≡ j + updates_temps (view_updates x.updates)) where
  pub body-more : (all new : List StBranch) (one : StBranch) → new ≡ all ++ one ∷ [] → (cs rest : List StExpr) (c : StExpr) → cs ≡ rest ++ c ∷ []
      → view_branch one ≡ (view_expr c, writes n w y j (view_updates x.updates))
      → branches_then (map view_branch new) (joined n w y next (map view_expr (reverse rest)) (view_update_branches (drop (i + 1) bs)))
      ≡ branches_then (map view_branch all) (joined n w y j (map view_expr (reverse cs)) (view_update_branches (drop i bs)))
  body-more all new one new_is cs rest c cs_is one_is =
      let left = view_update_branches (drop (i + 1) bs) in
      let others = joined n w y next (map view_expr (reverse rest)) left in
      ap (λ (xs : List StBranch). branches_then (map view_branch xs) others) new_is
      ∙ ap (λ xs. branches_then xs others) (map-append view_branch all (one ∷ []))
      ∙ branches-more (map view_branch all) (view_branch one) others
      ∙ ap₂ (λ (b : Expr × Stms) l. branches_then (map view_branch all) (branches b.0 b.1 (joined n w y l (map view_expr (reverse rest)) left))) one_is next_is
      ∙ ap₂ (λ ds vs. branches_then (map view_branch all) (joined n w y j ds vs)) (sym (last-first cs rest c cs_is)) (sym (branch-head bs i x within item))

  pub body-next : next + bodies_temps (view_update_branches (drop (i + 1) bs)) ≡ j + bodies_temps (view_update_branches (drop i bs))
  body-next = let whole = ap bodies_temps (branch-head bs i x within item) in omega arith

pub branch-made : (x : StBranch) → view_branch x ≡ (view_expr x.cond, view_stmts x.body)
branch-made x = search (folds.the_lemmas)

-- no branch is left
pub bodies-end : (n : Net) (w : Naming) (y : NewNames) (bs : List NetUpdateBranch) (i j : ℕ) (all : List StBranch) (cs : List Expr) → length bs ≤ i
    → branches_then (map view_branch all) (joined n w y j cs (view_update_branches (drop i bs))) ≡ view_branches all
bodies-end n w y bs i j all cs past =
    ap (λ (xs : List NetUpdateBranch). branches_then (map view_branch all) (joined n w y j cs (view_update_branches xs))) (drop_all i bs past)
    ∙ branches-end (map view_branch all)

-- ---- a choice

joined-texts : (n : Net) (w : Naming) (y : NewNames) (k j : ℕ) (bs : term.NetUpdateBranches) → joined n w y j (condition_texts w k bs) bs ≡ write_branches n w y k j bs
joined-texts n w y k j no_net_update_branches = refl
joined-texts n w y k j (net_update_branches c us bs) = ap (branches (text w k c) (writes n w y j us)) (joined-texts n w y (k + temps c) (j + updates_temps us) bs)

pub on-ok-map : {A E : Type 0} (r : Result A E) (P Q : Type 0) → (P → Q) → OnOk r P → OnOk r Q
on-ok-map (Ok x) P Q f p = f p
on-ok-map (Err e) P Q f p = tt

-- the conditions, and then the branches with the other statements
pub choice-written : {A E : Type 0} (r : Result A E) (n : Net) (w : Naming) (y : NewNames) (k : ℕ) (u : term.NetUpdate) (bs : term.NetUpdateBranches) (us : term.NetUpdates) → u ≡ net_choose bs us
    → (old half new : Stms) (next after : ℕ) (cs : List Expr) (made : Branches) (rest : Stms)
    → cs ≡ condition_texts w k bs → next ≡ k + conditions_temps bs → half ≡ append old (conditions_before w k bs)
    → made ≡ joined n w y next cs bs → after ≡ next + bodies_temps bs → rest ≡ writes n w y after us
    → OnOk r (new ≡ append half (chosen made rest)) → OnOk r (new ≡ append old (write n w y k u))
choice-written r n w y k u bs us is old half new next after cs made rest cs_is next_is half_is made_is after_is rest_is =
    let start = k + conditions_temps bs in
    let made_at : made ≡ write_branches n w y k start bs = made_is ∙ ap₂ (λ l ds. joined n w y l ds bs) next_is cs_is ∙ joined-texts n w y k start bs in
    let rest_at : rest ≡ writes n w y (start + bodies_temps bs) us = rest_is ∙ ap (λ l. writes n w y l us) (after_is ∙ ap (λ l. l + bodies_temps bs) next_is) in
    on-ok-map r (new ≡ append half (chosen made rest)) (new ≡ append old (write n w y k u))
    (λ new_is.
    new_is
    ∙ ap₂ append half_is (ap₂ chosen made_at rest_at)
    ∙ append-assoc old (conditions_before w k bs) (chosen (write_branches n w y k start bs) (writes n w y (start + bodies_temps bs) us))
    ∙ ap (λ v. append old (write n w y k v)) (sym is))
