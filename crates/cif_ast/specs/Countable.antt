-- Which specifications can be counted in 31 bits and have no empty name. Each type of `src/` has a function that counts:
-- bodies, the names that scopes declare, locations, equations and assigned names. A specification is whole where each name
-- in it has a part, and each branch a condition.
use Rattle.std.specs.Prelude.{◌≢◌, ℕ, ◌+◌, ◌<◌, ◌^◌, List, [], length, Option, Some, None}
use Rattle.std.specs.List.{sum_by}
use Rattle.cif_ast.specs.Tree.{no_trees, UpdateTree, assignment, selection, UpdateTrees, no_updates, updates, UpdateBranches, no_update_branches, update_branches, ItemTree, declaration, component, definition, instance, ItemTrees, no_items, items, BodyTree, group, automaton}
use Rattle.cif_ast.specs.View.{view_update, view_body, view_item, view_items}
use Rattle.cif_ast.specs.Throughout.{Rule, HoldsInSpec}
use Rattle.cif_ast.specs.declared.names.Ident.{Ident}
use Rattle.cif_ast.specs.declared.declarations.Decl.{Decl}
use Rattle.cif_ast.specs.declared.declarations.Decl.TheVariants as decl
use Rattle.cif_ast.specs.declared.declarations.Param.{Param}
use Rattle.cif_ast.specs.declared.declarations.Param.TheVariants as param
use Rattle.cif_ast.specs.declared.edges.Update.{Update}
use Rattle.cif_ast.specs.declared.edges.Edge.{Edge}
use Rattle.cif_ast.specs.declared.edges.Loc.{Loc}
use Rattle.cif_ast.specs.declared.components.AutoBody.{AutoBody}
use Rattle.cif_ast.specs.declared.components.Inst.{Inst}
use Rattle.cif_ast.specs.declared.components.Body.{Body}
use Rattle.cif_ast.specs.declared.components.Item.{Item}
use Rattle.cif_ast.specs.declared.components.Spec.{Spec}

-- ---- counts

-- the names that it declares; an equation is counted itself
abbrev pub count_of_decl : Decl → ℕ
count_of_decl (decl.TypeName name ty) = 1
count_of_decl (decl.Enum name literals) = 1 + length literals
count_of_decl (decl.Event class c name) = 1
count_of_decl (decl.Const ty name value) = 1
count_of_decl (decl.Alg ty name value) = 1
count_of_decl (decl.Input ty name) = 1
count_of_decl (decl.Disc ty name value) = 1
count_of_decl (decl.Equation name value) = 1
count_of_decl (decl.Inv i) = 0
count_of_decl (decl.Marked p) = 0

abbrev pub count_of_param : Param → ℕ
count_of_param (param.Event class c name) = 1
count_of_param (param.Alg ty name) = 1
count_of_param (param.Location name) = 1

abbrev mutual
  -- assigned names, at any depth
  pub count_of_update_tree : UpdateTree → ℕ
  count_of_update_tree (assignment x e) = 1
  count_of_update_tree (selection bs us) = count_of_update_branches bs + count_of_update_trees us

  pub count_of_update_trees : UpdateTrees → ℕ
  count_of_update_trees no_updates = 0
  count_of_update_trees (updates u us) = count_of_update_tree u + count_of_update_trees us

  pub count_of_update_branches : UpdateBranches → ℕ
  count_of_update_branches no_update_branches = 0
  count_of_update_branches (update_branches cs us bs) = count_of_update_trees us + count_of_update_branches bs

abbrev pub count_of_update : Update → ℕ
count_of_update u = count_of_update_tree (view_update u)

abbrev pub count_of_edge : Edge → ℕ
count_of_edge e = sum_by count_of_update e.updates

-- whether a location has a name
abbrev pub count_of_loc_name : Option Ident → ℕ
count_of_loc_name None = 0
count_of_loc_name (Some name) = 1

-- itself, its name, its equations and what its edges assign
abbrev pub count_of_loc : Loc → ℕ
count_of_loc l = 1 + count_of_loc_name l.name + length l.equations + sum_by count_of_edge l.edges

abbrev pub count_of_auto_body : AutoBody → ℕ
count_of_auto_body b = sum_by count_of_decl b.decls + sum_by count_of_loc b.locs

abbrev pub count_of_inst : Inst → ℕ
count_of_inst i = 1

abbrev mutual
  -- a component and a definition have a name and a body
  pub count_of_item_tree : ItemTree → ℕ
  count_of_item_tree (declaration d) = count_of_decl d
  count_of_item_tree (component name body) = 2 + count_of_body_tree body
  count_of_item_tree (definition name params body) = 2 + sum_by count_of_param params + count_of_body_tree body
  count_of_item_tree (instance i) = count_of_inst i

  pub count_of_item_trees : ItemTrees → ℕ
  count_of_item_trees no_items = 0
  count_of_item_trees (items i more) = count_of_item_tree i + count_of_item_trees more

  -- what is in it, without the body itself
  pub count_of_body_tree : BodyTree → ℕ
  count_of_body_tree (group is) = count_of_item_trees is
  count_of_body_tree (automaton a) = count_of_auto_body a

abbrev pub count_of_body : Body → ℕ
count_of_body b = count_of_body_tree (view_body b)

abbrev pub count_of_item : Item → ℕ
count_of_item i = count_of_item_tree (view_item i)

abbrev pub count_of_items : List Item → ℕ
count_of_items is = count_of_item_trees (view_items is)

-- the specification is a body too
abbrev pub count_of_spec : Spec → ℕ
count_of_spec s = 1 + count_of_items s.items

-- ---- whole values

abbrev pub whole_parts : Rule
whole_parts = record {
  of_name = λ n. n.parts ≢ [];
  of_number = λ z. Unit {0};
  of_conditions = λ cs. cs ≢ no_trees;
  of_literals = λ ls. Unit {0};
  of_expression = λ e. Unit {0};
  of_update = λ u. Unit {0};
}

-- ---- both

pub record IsCountable (spec : Spec) : Type 0 where
  pub few : count_of_spec spec < 2 ^ 31
  pub whole : HoldsInSpec whole_parts spec
