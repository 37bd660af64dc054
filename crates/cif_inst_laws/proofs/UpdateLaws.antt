-- The updates of an edge as a tree: what holds in each holds in the tree, and the names that are assigned are as many as are
-- counted.
use Rattle.std.proofs.Common.{◌≡◌, List, [], ◌∷◌, length, arith}
use Rattle.std.specs.List.{AllByRecursion, sum_by}
use Rattle.std.proofs.Math.ListN.{length-append}
use Rattle.std.proofs.lemmas.List.Sums.{sum_by-cons}
use Rattle.cif_ast.specs.Tree.{UpdateTree, assignment, selection, UpdateTrees, no_updates, updates, UpdateBranches, no_update_branches, update_branches}
use Rattle.cif_ast.specs.View.{view_updates}
use Rattle.cif_ast.specs.Throughout.{Rule, HoldsInUpdate, HoldsInUpdateTrees}
use Rattle.cif_ast.specs.Countable.{count_of_update_tree, count_of_update_trees, count_of_update_branches, count_of_update}
use Rattle.cif_ast.specs.declared.edges.Update.{Update}
use Rattle.cif_source.specs.BodyRules.{targets_of_all, targets_of, targets_of_branches}

pub holds-view_updates : (rule : Rule) (us : List Update) → AllByRecursion (HoldsInUpdate rule) us → HoldsInUpdateTrees rule (view_updates us)
holds-view_updates rule [] h = tt
holds-view_updates rule (u ∷ us) h = (h.0.0, holds-view_updates rule us h.1)

mutual
  targets-counted : (u : UpdateTree) → length (targets_of u) ≡ count_of_update_tree u
  targets-counted (assignment x e) = omega arith
  targets-counted (selection bs us) = omega (arith, length-append (targets_of_branches bs) (targets_of_all us), branch_targets-counted bs, all_targets-counted us)

  all_targets-counted : (us : UpdateTrees) → length (targets_of_all us) ≡ count_of_update_trees us
  all_targets-counted no_updates = omega arith
  all_targets-counted (updates u us) = omega (arith, length-append (targets_of u) (targets_of_all us), targets-counted u, all_targets-counted us)

  branch_targets-counted : (bs : UpdateBranches) → length (targets_of_branches bs) ≡ count_of_update_branches bs
  branch_targets-counted no_update_branches = omega arith
  branch_targets-counted (update_branches cs us bs) =
      omega (arith, length-append (targets_of_all us) (targets_of_branches bs), all_targets-counted us, branch_targets-counted bs)

view_updates-counted : (us : List Update) → count_of_update_trees (view_updates us) ≡ sum_by count_of_update us
view_updates-counted [] = omega arith
view_updates-counted (u ∷ us) = omega (arith, sum_by-cons count_of_update u us, view_updates-counted us)

-- as many names are assigned as are counted
pub assigned-counted : (us : List Update) → length (targets_of_all (view_updates us)) ≡ sum_by count_of_update us
assigned-counted us = omega (arith, all_targets-counted (view_updates us), view_updates-counted us)
