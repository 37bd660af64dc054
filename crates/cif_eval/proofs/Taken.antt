-- The pairs of an `if` update are those of the branch that is taken, and else those of `else`.
use Rattle.std.proofs.Common.{◌≡◌, ℕ, ℤ, Bool, true, false, ◌||◌, List, [], ◌++◌, refl, sym, ap, ◌∙◌, append-nil}
use Rattle.std.specs.Prelude.{if◌then◌else◌}
use Rattle.cif_system.specs.System.{State}
use Rattle.cif_net_expr.specs.Tree.{net_set, net_choose, NetUpdates, NetUpdateBranches, no_net_update_branches, net_update_branches}
use Rattle.cif_net_expr.specs.View.{view, view_update, view_updates, view_update_branches}
use Rattle.cif_net_expr.specs.declared.expressions.NetExpr.{NetExpr}
use Rattle.cif_net_expr.specs.declared.updates.NetUpdate.{NetUpdate}
use Rattle.cif_net_expr.specs.declared.updates.NetUpdateBranch.{NetUpdateBranch}
use Rattle.cif_net_expr.specs.declared.updates.NetUpdate.TheVariants as update
use Rattle.cif_net_expr.specs.declared.updates.NetUpdate.TheFolds as folds
use Rattle.cif_net_model.specs.Meaning.{net_assigned_in}
use Rattle.cif_net_model.specs.Value.{is_true}
use Rattle.cif_net_model.specs.Safe.{value_at}
use Rattle.cif_eval.specs.Updates.{is_taken}
use Rattle.cif_eval.specs.Within.{within}
use Rattle.cif_eval.specs.Writes.{assigned_all, assigned_by, assigned_in, nothing}

first_taken : (s : State) (r : ℤ) (ws : List (ℕ × ℤ)) (bs : NetUpdateBranches) → is_taken (within s r) bs ≡ true → net_assigned_in nothing s r ws bs ≡ assigned_in s r bs
first_taken s r ws no_net_update_branches h = absurd cc
first_taken s r ws (net_update_branches c us bs) h = go (is_true (value_at (within s r) c)) h (first_taken s r ws bs)
  where
    go : (b : Bool) → (b || is_taken (within s r) bs) ≡ true → (is_taken (within s r) bs ≡ true → net_assigned_in nothing s r ws bs ≡ assigned_in s r bs)
        → (if b then assigned_all s r us else net_assigned_in nothing s r ws bs) ≡ (if b then assigned_all s r us else assigned_in s r bs)
    go true h rest = refl
    go false h rest = rest h

none_taken : (s : State) (r : ℤ) (ws : List (ℕ × ℤ)) (bs : NetUpdateBranches) → is_taken (within s r) bs ≡ false → net_assigned_in nothing s r ws bs ≡ ws
none_taken s r ws no_net_update_branches h = refl
none_taken s r ws (net_update_branches c us bs) h = go (is_true (value_at (within s r) c)) h (none_taken s r ws bs)
  where
    go : (b : Bool) → (b || is_taken (within s r) bs) ≡ false → (is_taken (within s r) bs ≡ false → net_assigned_in nothing s r ws bs ≡ ws)
        → (if b then assigned_all s r us else net_assigned_in nothing s r ws bs) ≡ ws
    go true h rest = absurd cc
    go false h rest = rest h

module _ (s : State) (r : ℤ) (old : List (ℕ × ℤ)) (bs : NetUpdateBranches) (us : NetUpdates) where
  pub pairs-taken : (new : List (ℕ × ℤ)) → is_taken (within s r) bs ≡ true → new ≡ old ++ assigned_in s r bs → new ≡ old ++ assigned_by s r (net_choose bs us)
  pairs-taken new h is = is ∙ ap (λ ws. old ++ ws) (sym (first_taken s r (assigned_all s r us) bs h))

  pub pairs-untaken : (mid new : List (ℕ × ℤ)) → is_taken (within s r) bs ≡ false → mid ≡ old ++ assigned_in s r bs → new ≡ mid ++ assigned_all s r us → new ≡ old ++ assigned_by s r (net_choose bs us)
  pairs-untaken mid new h was is =
      is
      ∙ ap (λ ws. ws ++ assigned_all s r us) (was ∙ ap (λ ws. old ++ ws) (none_taken s r [] bs h) ∙ append-nil old)
      ∙ ap (λ ws. old ++ ws) (sym (none_taken s r (assigned_all s r us) bs h))

pub view-set : (v : ℕ) (e : NetExpr) → view_update (update.Set v e) ≡ net_set v (view e)
view-set v e = search (folds.the_lemmas)

pub view-choose : (bs : List NetUpdateBranch) (us : List NetUpdate) → view_update (update.If bs us) ≡ net_choose (view_update_branches bs) (view_updates us)
view-choose bs us = search (folds.the_lemmas)
