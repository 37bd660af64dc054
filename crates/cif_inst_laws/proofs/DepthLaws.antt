-- The updates of a net nest as deep as those of the source that they stand for.
use Rattle.std.proofs.Common.{◌≡◌, max, refl, ap₂, arith}
use Rattle.cif_ast.specs.Tree.{UpdateTree, assignment, selection, UpdateTrees, no_updates, updates, UpdateBranches, no_update_branches, update_branches}
use Rattle.cif_ast.specs.Depth as tree
use Rattle.cif_source.specs.Components.{Component}
use Rattle.cif_inst_model.specs.Flat.{net_updates_of, net_update_of, net_update_branches_of}
use Rattle.cif_net_model.specs.Nesting.{updates_depth, update_depth, branches_depth}

module _ (c : Component) where
  mutual
    pub updates-as-deep : (us : UpdateTrees) → updates_depth (net_updates_of c us) ≡ tree.updates_depth us
    updates-as-deep no_updates = refl
    updates-as-deep (updates u us) = ap₂ max (update-as-deep u) (updates-as-deep us)

    update-as-deep : (u : UpdateTree) → update_depth (net_update_of c u) ≡ tree.update_depth u
    update-as-deep (assignment x e) = refl
    update-as-deep (selection bs us) = omega (arith, branches-as-deep bs, updates-as-deep us)

    branches-as-deep : (bs : UpdateBranches) → branches_depth (net_update_branches_of c bs) ≡ tree.update_branches_depth bs
    branches-as-deep no_update_branches = refl
    branches-as-deep (update_branches cs us bs) = ap₂ max (updates-as-deep us) (branches-as-deep bs)
