-- How deep expressions, updates and components are.
use Rattle.std.specs.Prelude.{ℕ, ◌+◌, ◌-◌, max}
use Rattle.cif_ast.specs.Tree.{Tree, node, Shape, truth, number, named, received, paren, negative, positive, negation, absolute, least, greatest, sum, product, comparison, all_of, any_of, implication, equivalence, choice, Trees, no_trees, trees, Terms, no_terms, terms, Factors, no_factors, factors, Branches, no_branches, branches, UpdateTree, assignment, selection, UpdateTrees, no_updates, updates, UpdateBranches, no_update_branches, update_branches, ItemTree, declaration, component, definition, instance, ItemTrees, no_items, items, BodyTree, group, automaton}
use Rattle.cif_ast.specs.View.{view_items}
use Rattle.cif_ast.specs.declared.components.Spec.{Spec}

-- ---- expressions

-- A literal, a name and `?` have depth 0; every other form, parentheses included, has one more than its deepest part. A list
-- of operands of one level is one form.
abbrev mutual
  pub depth : Tree → ℕ
  depth (node form at) = shape_depth form

  pub shape_depth : Shape → ℕ
  shape_depth (truth b) = 0
  shape_depth (number z) = 0
  shape_depth (named n) = 0
  shape_depth received = 0
  shape_depth (paren e) = depth e + 1
  shape_depth (negative e) = depth e + 1
  shape_depth (positive e) = depth e + 1
  shape_depth (negation e) = depth e + 1
  shape_depth (absolute e) = depth e + 1
  shape_depth (least a b) = max (depth a) (depth b) + 1
  shape_depth (greatest a b) = max (depth a) (depth b) + 1
  shape_depth (sum e rest) = max (depth e) (terms_depth rest) + 1
  shape_depth (product e rest) = max (depth e) (factors_depth rest) + 1
  shape_depth (comparison a op b) = max (depth a) (depth b) + 1
  shape_depth (all_of es) = trees_depth es + 1
  shape_depth (any_of es) = trees_depth es + 1
  shape_depth (implication a b) = max (depth a) (depth b) + 1
  shape_depth (equivalence a b) = max (depth a) (depth b) + 1
  shape_depth (choice bs e) = max (branches_depth bs) (depth e) + 1

  -- of the deepest one, or 0
  pub trees_depth : Trees → ℕ
  trees_depth no_trees = 0
  trees_depth (trees e es) = max (depth e) (trees_depth es)

  pub terms_depth : Terms → ℕ
  terms_depth no_terms = 0
  terms_depth (terms minus e ts) = max (depth e) (terms_depth ts)

  pub factors_depth : Factors → ℕ
  factors_depth no_factors = 0
  factors_depth (factors op e fs) = max (depth e) (factors_depth fs)

  -- conditions and values
  pub branches_depth : Branches → ℕ
  branches_depth no_branches = 0
  branches_depth (branches cs e bs) = max (max (trees_depth cs) (depth e)) (branches_depth bs)

-- ---- updates

-- An assignment has depth 0, and an `if` one more than the deepest update in it.
abbrev mutual
  pub update_depth : UpdateTree → ℕ
  update_depth (assignment x e) = 0
  update_depth (selection bs us) = max (update_branches_depth bs) (updates_depth us) + 1

  -- of the deepest one, or 0
  pub updates_depth : UpdateTrees → ℕ
  updates_depth no_updates = 0
  updates_depth (updates u us) = max (update_depth u) (updates_depth us)

  pub update_branches_depth : UpdateBranches → ℕ
  update_branches_depth no_update_branches = 0
  update_branches_depth (update_branches cs us bs) = max (updates_depth us) (update_branches_depth bs)

-- ---- components

-- How many components and definitions stand inside one another, the outermost counted. Instances don't count.
abbrev mutual
  pub levels_of_item : ItemTree → ℕ
  levels_of_item (declaration d) = 0
  levels_of_item (component name body) = levels_of_body body + 1
  levels_of_item (definition name params body) = levels_of_body body + 1
  levels_of_item (instance i) = 0

  pub levels_of_items : ItemTrees → ℕ
  levels_of_items no_items = 0
  levels_of_items (items i more) = max (levels_of_item i) (levels_of_items more)

  pub levels_of_body : BodyTree → ℕ
  levels_of_body (group is) = levels_of_items is
  levels_of_body (automaton a) = 0

-- A component or definition at the specification has depth 0, and one that stands inside another has one more than that one.
abbrev pub component_depth : Spec → ℕ
component_depth s = levels_of_items (view_items s.items) - 1
