-- The loops over the choices of an event: what is written for one of them goes from what is left to what is done. And which of the two forms an event of several choices has.
use Rattle.std.proofs.Common.{◌≡◌, ℕ, suc, ◌+◌, ◌<◌, ◌≤◌, Bool, true, false, ◌&&◌, nat_lt, List, [], ◌∷◌, ◌++◌, map, length, get_or, drop, refl, sym, ap, ap₂, ◌∙◌, arith, if◌then◌else◌}
use Rattle.std.specs.List.{list_all}
use Rattle.std.proofs.lemmas.Bool.Decides.{nat_tests}
use Rattle.std.proofs.lemmas.List.{drop_all, map-append}
use Rattle.grammar.specs.Pieces.{Text}
use Rattle.cif_net_model.specs.Net.{Net}
use Rattle.cif_net.specs.View.{choice_tree}
use Rattle.cif_net.specs.declared.listing.Choice.{Choice}
use Rattle.st_ast.specs.Tree.{Expr, Stm, Stms, append, assign, branches, choice, complement, named, no_branches, no_other, no_stms, stms, truth}
use Rattle.st_ast.specs.View.{view_branch, view_branches, view_expr, view_stmt, view_stmts}
use Rattle.st_ast.specs.declared.tree.StBranch.{StBranch}
use Rattle.st_ast.specs.declared.tree.StExpr.{StExpr}
use Rattle.st_ast.specs.declared.tree.Stmt.{Stmt}
use Rattle.st_ast.specs.declared.tree.Stmt.TheFolds as folds
use Rattle.plc_expr.specs.Texts.{Naming}
use Rattle.plc_frame.specs.Events.{Written, all_bare, chain, chain_branches, event_text, marks, marks_with, parts_text, unless_done}
use Rattle.plc_event_model.specs.Events.{all_written, choice_written, is_bare}
use Rattle.plc_event_model.specs.Own.{choice_temps}
use Rattle.plc_event_model.specs.Parts.{needs_done}
use Rattle.plc_event_model.specs.Writes.{NewNames}
use Rattle.plc_expr_walk.proofs.Joining.{append-none, branches-end, branches-more, branches_then, drop-item, moved, view_append}
use Rattle.plc_event.specs.Making.{tried_with}

-- ---- one choice more

branch-made : (b : StBranch) → view_branch b ≡ (view_expr b.cond, view_stmts b.body)
branch-made b = search (folds.the_lemmas)

module _ (n : Net) (w : Naming) (y : NewNames) (cs : List Choice) (i : ℕ) (x : Choice) (within : i < length cs) (item : x ≡ get_or cs i x) where
  first-written : (k : ℕ) → all_written n w y k (map choice_tree (drop i cs)) ≡ choice_written n w y k (choice_tree x) ∷ all_written n w y (k + choice_temps n (choice_tree x)) (map choice_tree (drop (i + 1) cs))
  first-written k = ap (λ (ys : List Choice). all_written n w y k (map choice_tree ys)) (drop-item cs i x within item)

  pub chain-more : (k next : ℕ) (all new : List StBranch) (cond : StExpr) (body : List Stmt) (set : Stms)
      → view_expr cond ≡ (choice_written n w y k (choice_tree x)).test → view_stmts body ≡ (choice_written n w y k (choice_tree x)).act set → set ≡ marks
      → next ≡ k + choice_temps n (choice_tree x) → new ≡ all ++ record { cond = cond; body = body } ∷ []
      → branches_then (map view_branch new) (chain_branches (all_written n w y next (map choice_tree (drop (i + 1) cs)))) ≡ branches_then (map view_branch all) (chain_branches (all_written n w y k (map choice_tree (drop i cs))))
  chain-more k next all new cond body set cond_is body_is set_is next_is new_is =
      let one : StBranch = record { cond = cond; body = body } in
      let rest = chain_branches (all_written n w y next (map choice_tree (drop (i + 1) cs))) in
      let done = map view_branch all in
      ap (λ (bs : List StBranch). branches_then (map view_branch bs) rest) new_is
      ∙ ap (λ bs. branches_then bs rest) (map-append view_branch all (one ∷ []))
      ∙ branches-more done (view_branch one) rest
      ∙ ap (λ (b : Expr × Stms). branches_then done (branches b.0 b.1 rest)) (branch-made one)
      ∙ ap₂ (λ e ss. branches_then done (branches e ss rest)) cond_is body_is
      ∙ ap (λ s. branches_then done (branches (choice_written n w y k (choice_tree x)).test ((choice_written n w y k (choice_tree x)).act s) rest)) set_is
      ∙ ap (λ j. branches_then done (branches (choice_written n w y k (choice_tree x)).test ((choice_written n w y k (choice_tree x)).act marks) (chain_branches (all_written n w y j (map choice_tree (drop (i + 1) cs)))))) next_is
      ∙ ap (λ ws. branches_then done (chain_branches ws)) (sym (first-written k))

  pub parts-more : (done : Text) (k next : ℕ) (all new : List Stmt) (s : Stmt) (set tried : Stms)
      → view_stmt s ≡ choice (branches (complement (named done)) tried no_branches) no_other → tried ≡ tried_with (choice_written n w y k (choice_tree x)) set → set ≡ marks_with done
      → next ≡ k + choice_temps n (choice_tree x) → new ≡ all ++ s ∷ []
      → append (view_stmts new) (parts_text done (all_written n w y next (map choice_tree (drop (i + 1) cs)))) ≡ append (view_stmts all) (parts_text done (all_written n w y k (map choice_tree (drop i cs))))
  parts-more done k next all new s set tried s_is tried_is set_is next_is new_is =
      let rest = parts_text done (all_written n w y next (map choice_tree (drop (i + 1) cs))) in
      moved (view_stmts all) (view_stmts new) (unless_done done (choice_written n w y k (choice_tree x))) rest (parts_text done (all_written n w y k (map choice_tree (drop i cs))))
      (ap (λ (ss : List Stmt). view_stmts ss) new_is ∙ view_append all (s ∷ [])
      ∙ ap (λ t. append (view_stmts all) (stms t no_stms)) s_is
      ∙ ap (λ t. append (view_stmts all) (stms (choice (branches (complement (named done)) t no_branches) no_other) no_stms)) tried_is
      ∙ ap (λ t. append (view_stmts all) (stms (choice (branches (complement (named done)) (tried_with (choice_written n w y k (choice_tree x)) t) no_branches) no_other) no_stms)) set_is)
      (ap (parts_text done) (first-written k)
      ∙ ap (λ j. append (unless_done done (choice_written n w y k (choice_tree x))) (parts_text done (all_written n w y j (map choice_tree (drop (i + 1) cs))))) (sym next_is))

-- ---- no choice left

module _ (n : Net) (w : Naming) (y : NewNames) (cs : List Choice) (i k : ℕ) (past : length cs ≤ i) where
  none-written : all_written n w y k (map choice_tree (drop i cs)) ≡ []
  none-written = ap (λ (ys : List Choice). all_written n w y k (map choice_tree ys)) (drop_all i cs past)

  pub chain-end : (all : List StBranch) → branches_then (map view_branch all) (chain_branches (all_written n w y k (map choice_tree (drop i cs)))) ≡ view_branches all
  chain-end all = ap (λ ws. branches_then (map view_branch all) (chain_branches ws)) none-written ∙ branches-end (map view_branch all)

  pub parts-end : (done : Text) (old : Stms) → append old (parts_text done (all_written n w y k (map choice_tree (drop i cs)))) ≡ old
  parts-end done old = ap (λ ws. append old (parts_text done ws)) none-written ∙ append-none old

-- ---- the two forms

module _ (n : Net) (w : Naming) (y : NewNames) where
  bare-written : (k : ℕ) (cs : List Choice) → all_bare (all_written n w y k (map choice_tree cs)) ≡ list_all (is_bare n) (map choice_tree cs)
  bare-written k [] = refl
  bare-written k (c ∷ cs) = ap (λ b. is_bare n (choice_tree c) && b) (bare-written (k + choice_temps n (choice_tree c)) cs)

  two : (k : ℕ) → nat_lt 1 (suc (suc k)) ≡ true
  two k = grind (arith, nat_tests)

  pub event-marked : (k : ℕ) (done : Text) (cs : List Choice) → 1 < length cs → needs_done n (map choice_tree cs) ≡ true
      → event_text done (all_written n w y k (map choice_tree cs)) ≡ stms (assign done (truth false)) (parts_text done (all_written n w y k (map choice_tree cs)))
  event-marked k done [] more used = absurd (omega (arith, more))
  event-marked k done (c ∷ []) more used = absurd (omega (arith, more))
  event-marked k done (c ∷ d ∷ cs) more used = go (list_all (is_bare n) (map choice_tree (c ∷ d ∷ cs))) (bare-written k (c ∷ d ∷ cs)) used
    where
      go : (b : Bool) → all_bare (all_written n w y k (map choice_tree (c ∷ d ∷ cs))) ≡ b → (if b then false else nat_lt 1 (length (map choice_tree (c ∷ d ∷ cs)))) ≡ true
          → event_text done (all_written n w y k (map choice_tree (c ∷ d ∷ cs))) ≡ stms (assign done (truth false)) (parts_text done (all_written n w y k (map choice_tree (c ∷ d ∷ cs))))
      go true is needed = absurd cc
      go false is needed =
          ap (λ b. if b then chain (all_written n w y k (map choice_tree (c ∷ d ∷ cs))) else stms (assign done (truth false)) (parts_text done (all_written n w y k (map choice_tree (c ∷ d ∷ cs))))) is

  pub event-chained : (k : ℕ) (done : Text) (cs : List Choice) → 1 < length cs → needs_done n (map choice_tree cs) ≡ false
      → event_text done (all_written n w y k (map choice_tree cs)) ≡ chain (all_written n w y k (map choice_tree cs))
  event-chained k done [] more used = absurd (omega (arith, more))
  event-chained k done (c ∷ []) more used = absurd (omega (arith, more))
  event-chained k done (c ∷ d ∷ cs) more used = go (list_all (is_bare n) (map choice_tree (c ∷ d ∷ cs))) (bare-written k (c ∷ d ∷ cs)) used
    where
      go : (b : Bool) → all_bare (all_written n w y k (map choice_tree (c ∷ d ∷ cs))) ≡ b → (if b then false else nat_lt 1 (length (map choice_tree (c ∷ d ∷ cs)))) ≡ false
          → event_text done (all_written n w y k (map choice_tree (c ∷ d ∷ cs))) ≡ chain (all_written n w y k (map choice_tree (c ∷ d ∷ cs)))
      go true is needed =
          ap (λ b. if b then chain (all_written n w y k (map choice_tree (c ∷ d ∷ cs))) else stms (assign done (truth false)) (parts_text done (all_written n w y k (map choice_tree (c ∷ d ∷ cs))))) is
      go false is needed = absurd (let q : true ≡ false = sym (two (length (map choice_tree cs))) ∙ needed in cc)

-- ---- one statement

-- one statement, and then others
pub begun : (s : Stmt) (all : List Stmt) (t : Stm) (rest : Stms) → all ≡ s ∷ [] → view_stmt s ≡ t → append (view_stmts all) rest ≡ stms t rest
begun s all t rest all_is s_is = ap (λ (ss : List Stmt). append (view_stmts ss) rest) all_is ∙ ap (λ u. stms u rest) s_is

-- one IF statement with these branches
pub only-chain : (s : Stmt) (bs : List StBranch) (ws : List Written) (event : Stms) → view_stmt s ≡ choice (view_branches bs) no_other → view_branches bs ≡ chain_branches ws → event ≡ chain ws
    → (all : List Stmt) → all ≡ s ∷ [] → view_stmts all ≡ event
only-chain s bs ws event s_is bs_is event_is all all_is =
    ap (λ (ss : List Stmt). view_stmts ss) all_is ∙ ap (λ t. stms t no_stms) s_is ∙ ap (λ b. stms (choice b no_other) no_stms) bs_is ∙ sym event_is
