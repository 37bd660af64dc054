-- Updates and their branches, as lists.
use Rattle.std.proofs.Common.{◌≡◌, ℕ, ◌≤◌, List, [], ◌∷◌, ◌++◌, length, drop, map, refl, ap, ◌∙◌, arith}
use Rattle.cif_ast.specs.Tree.{Tree, Trees, no_trees, trees, UpdateTrees, no_updates, updates, UpdateBranches, no_update_branches, update_branches}
use Rattle.cif_ast.specs.View.{view, trees_of, view_exprs, view_updates, view_update_branches}
use Rattle.cif_ast.specs.declared.expressions.Expr.{Expr}
use Rattle.cif_ast.specs.declared.edges.Update.{Update}
use Rattle.cif_ast.specs.declared.edges.UpdateBranch.{UpdateBranch}
use Rattle.cif_source.specs.Source.{list_of_trees}
use Rattle.cif_source.specs.Components.{Component}
use Rattle.cif_net_expr.specs.Tree.{NetExpr, net_exprs, NetUpdate, NetUpdates, net_updates, net_update_branches}
use Rattle.cif_net_expr.specs.View.{updates_of, update_branches_of}
use Rattle.cif_inst_model.specs.Translation.{net_exprs_of, net_name, net_of, net_list, net_guard, conjunction}
use Rattle.cif_inst_model.specs.Flat.{net_updates_of, net_update_of, net_update_branches_of}
use Rattle.cif_inst_names.proofs.ListLaws.{ended}

abbrev pub made_updates : Component → UpdateTrees → List NetUpdate
made_updates c no_updates = []
made_updates c (updates u us) = net_update_of c u ∷ made_updates c us

abbrev pub made_branches : Component → UpdateBranches → List (NetExpr × NetUpdates)
made_branches c no_update_branches = []
made_branches c (update_branches cs us bs) = (conjunction (net_list c (list_of_trees cs)), net_updates_of c us) ∷ made_branches c bs

updates_made : (c : Component) (us : UpdateTrees) → updates_of (made_updates c us) ≡ net_updates_of c us
updates_made c no_updates = refl
updates_made c (updates u us) = ap (net_updates (net_update_of c u)) (updates_made c us)

branches_made : (c : Component) (bs : UpdateBranches) → update_branches_of (made_branches c bs) ≡ net_update_branches_of c bs
branches_made c no_update_branches = refl
branches_made c (update_branches cs us bs) = ap (net_update_branches (conjunction (net_list c (list_of_trees cs))) (net_updates_of c us)) (branches_made c bs)

pub updates_ended : (c : Component) (made : List NetUpdate) (all : List Update) (i : ℕ) → length all ≤ i
    → made ++ made_updates c (view_updates (drop i all)) ≡ made_updates c (view_updates all) → updates_of made ≡ net_updates_of c (view_updates all)
updates_ended c made all i h e = ap updates_of (ended made (λ xs. made_updates c (view_updates xs)) all i h refl e) ∙ updates_made c (view_updates all)

pub branches_ended : (c : Component) (made : List (NetExpr × NetUpdates)) (all : List UpdateBranch) (i : ℕ) → length all ≤ i
    → made ++ made_branches c (view_update_branches (drop i all)) ≡ made_branches c (view_update_branches all) → update_branches_of made ≡ net_update_branches_of c (view_update_branches all)
branches_ended c made all i h e = ap update_branches_of (ended made (λ xs. made_branches c (view_update_branches xs)) all i h refl e) ∙ branches_made c (view_update_branches all)

pub exprs_listed : (c : Component) (es : Trees) → net_exprs_of (net_name c) es ≡ net_list c (list_of_trees es)
exprs_listed c no_trees = refl
exprs_listed c (trees e es) = ap (net_exprs (net_of c e)) (exprs_listed c es)

trees_listed : (ts : List Tree) → list_of_trees (trees_of ts) ≡ ts
trees_listed [] = refl
trees_listed (t ∷ ts) = ap (λ xs. t ∷ xs) (trees_listed ts)

-- ---- guards

pub guard_listed : (c : Component) (at : ℕ) (guards : List Expr) → 1 ≤ length guards → conjunction (net_list c (list_of_trees (view_exprs guards))) ≡ net_guard c at (map view guards)
guard_listed c at [] h = absurd (omega (arith, h))
guard_listed c at (e ∷ es) h = ap (λ ts. conjunction (net_list c ts)) (trees_listed (map view (e ∷ es)))
