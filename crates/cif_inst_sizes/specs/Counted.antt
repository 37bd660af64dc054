-- The measure that an expression or updates of a source have in the net, by that of what stands for each name; each count stops on
-- the way.
use Rattle.std.specs.Prelude.{ℕ, List, [], ◌∷◌, Option, Some, None}
use Rattle.cif_ast.specs.Tree.{Tree, node, Shape, truth, number, named, received, paren, negative, positive, negation, absolute, least, greatest, sum, product, comparison, all_of, any_of, implication, equivalence, choice, Trees, no_trees, trees, Terms, no_terms, terms, Factors, no_factors, factors, Branches, no_branches, branches, UpdateTree, assignment, selection, UpdateTrees, no_updates, updates, UpdateBranches, no_update_branches, update_branches}
use Rattle.cif_ast.specs.declared.names.Name.{Name}
use Rattle.cif_net_model.specs.Counts.{one_form, no_form, by_location}
use Rattle.cif_alg_measure.specs.declared.measures.Measure.{Measure}
use Rattle.cif_alg_measure.specs.Meanings.{as_measure, stopped_measure}
use Rattle.cif_alg_measure.specs.Counted.{beside_stopped, above_stopped}

abbrev pub one : Measure
one = stopped_measure one_form

abbrev pub none : Measure
none = stopped_measure no_form

-- parentheses are no form; a list counts from the front, after what was counted before it
abbrev mutual
  pub tree_counted : (Name → Measure) → Tree → Measure
  tree_counted name (node form at) = shape_counted name form

  pub shape_counted : (Name → Measure) → Shape → Measure
  shape_counted name (truth b) = one
  shape_counted name (number z) = one
  shape_counted name (named nm) = name nm
  shape_counted name received = one
  shape_counted name (paren e) = tree_counted name e
  shape_counted name (negative e) = above_stopped (tree_counted name e)
  shape_counted name (positive e) = above_stopped (tree_counted name e)
  shape_counted name (negation e) = above_stopped (tree_counted name e)
  shape_counted name (absolute e) = above_stopped (tree_counted name e)
  shape_counted name (least a b) = above_stopped (beside_stopped (tree_counted name a) (tree_counted name b))
  shape_counted name (greatest a b) = above_stopped (beside_stopped (tree_counted name a) (tree_counted name b))
  shape_counted name (sum e es) = above_stopped (terms_counted name (tree_counted name e) es)
  shape_counted name (product e es) = above_stopped (factors_counted name (tree_counted name e) es)
  shape_counted name (comparison a op b) = above_stopped (beside_stopped (tree_counted name a) (tree_counted name b))
  shape_counted name (all_of es) = above_stopped (trees_counted name none es)
  shape_counted name (any_of es) = above_stopped (trees_counted name none es)
  shape_counted name (implication a b) = above_stopped (beside_stopped (tree_counted name a) (tree_counted name b))
  shape_counted name (equivalence a b) = above_stopped (beside_stopped (tree_counted name a) (tree_counted name b))
  shape_counted name (choice bs e) = above_stopped (branches_counted name (tree_counted name e) bs)

  pub trees_counted : (Name → Measure) → Measure → Trees → Measure
  trees_counted name a no_trees = a
  trees_counted name a (trees e es) = trees_counted name (beside_stopped a (tree_counted name e)) es

  pub terms_counted : (Name → Measure) → Measure → Terms → Measure
  terms_counted name a no_terms = a
  terms_counted name a (terms m e es) = terms_counted name (beside_stopped a (tree_counted name e)) es

  pub factors_counted : (Name → Measure) → Measure → Factors → Measure
  factors_counted name a no_factors = a
  factors_counted name a (factors op e es) = factors_counted name (beside_stopped a (tree_counted name e)) es

  pub branches_counted : (Name → Measure) → Measure → Branches → Measure
  branches_counted name a no_branches = a
  branches_counted name a (branches cs e bs) = branches_counted name (beside_stopped (beside_stopped a (conditions_counted name cs)) (tree_counted name e)) bs

  -- none are `true`, one stands alone, and several are one conjunction
  pub conditions_counted : (Name → Measure) → Trees → Measure
  conditions_counted name no_trees = one
  conditions_counted name (trees e es) = conjunction_counted name (tree_counted name e) es

  -- of the first and those behind it
  pub conjunction_counted : (Name → Measure) → Measure → Trees → Measure
  conjunction_counted name a no_trees = a
  conjunction_counted name a (trees e es) = above_stopped (trees_counted name (beside_stopped (beside_stopped none a) (tree_counted name e)) es)

-- ---- definitions

abbrev pub value_counted : (Name → Measure) → Option Tree → Measure
value_counted name None = one
value_counted name (Some e) = tree_counted name e

-- one after the other, after what was counted before them
abbrev pub values_counted : (Name → Measure) → Measure → List (Option Tree) → Measure
values_counted name a [] = a
values_counted name a (v ∷ vs) = values_counted name (beside_stopped a (value_counted name v)) vs

-- so many definitions by location, which have this measure side by side
abbrev pub chosen_counted : ℕ → Measure → Measure
chosen_counted n a = stopped_measure (by_location n (as_measure a))

-- ---- updates, after what was counted before them

abbrev mutual
  pub updates_counted : (Name → Measure) → Measure → UpdateTrees → Measure
  updates_counted name a no_updates = a
  updates_counted name a (updates u us) = updates_counted name (update_counted name a u) us

  pub update_counted : (Name → Measure) → Measure → UpdateTree → Measure
  update_counted name a (assignment nm e) = beside_stopped a (tree_counted name e)
  update_counted name a (selection bs us) = updates_counted name (update_branches_counted name a bs) us

  pub update_branches_counted : (Name → Measure) → Measure → UpdateBranches → Measure
  update_branches_counted name a no_update_branches = a
  update_branches_counted name a (update_branches cs us bs) =
      update_branches_counted name (updates_counted name (beside_stopped a (conditions_counted name cs)) us) bs
