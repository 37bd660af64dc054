-- Worked examples of the definitions, at values as the code builds them.
use Rattle.std.proofs.Common.{◌≡◌, pos, neg_ℤ, Bool, true, false, List, [], ◌∷◌, Some, None, refl, arith}
use Rattle.std.specs.Prelude.{codes}
use Rattle.cif_ast.specs.declared.names.Ident.{Ident}
use Rattle.cif_ast.specs.declared.names.Name.{Name}
use Rattle.cif_ast.specs.declared.expressions.Expr.{Expr, roll-Expr}
use Rattle.cif_ast.specs.declared.expressions.Form.{Form}
use Rattle.cif_ast.specs.declared.expressions.Form.TheVariants as form
use Rattle.cif_ast.specs.declared.expressions.Term.{Term, roll-Term}
use Rattle.cif_ast.specs.declared.expressions.Branch.{roll-Branch}
use Rattle.cif_ast.specs.declared.declarations.TypeUse.TheVariants as type_use
use Rattle.cif_ast.specs.declared.declarations.Decl.TheVariants as decl
use Rattle.cif_ast.specs.declared.declarations.Param.TheVariants as param
use Rattle.cif_ast.specs.declared.edges.Update.{Update}
use Rattle.cif_ast.specs.declared.edges.Update.TheVariants as update
use Rattle.cif_ast.specs.declared.edges.UpdateBranch.{roll-UpdateBranch}
use Rattle.cif_ast.specs.declared.edges.Loc.{Loc}
use Rattle.cif_ast.specs.declared.components.Body.{Body}
use Rattle.cif_ast.specs.declared.components.Body.TheVariants as body
use Rattle.cif_ast.specs.declared.components.Item.{Item}
use Rattle.cif_ast.specs.declared.components.Item.TheVariants as item
use Rattle.cif_ast.specs.declared.components.Comp.{roll-Comp}
use Rattle.cif_ast.specs.declared.components.Def.{roll-Def}
use Rattle.cif_ast.specs.View.{view, view_update}
use Rattle.cif_ast.specs.Depth.{depth, update_depth, component_depth}
use Rattle.cif_ast.specs.Throughout.{HoldsInTree, HoldsInDecl}
use Rattle.cif_ast.specs.Countable.{count_of_decl, count_of_update, count_of_loc, count_of_item, count_of_spec, whole_parts}
use Rattle.cif_ast.specs.SmallNumbers.{IsSmallNumber, HasSmallNumbers}
use Rattle.cif_ast.proofs.ViewLemmas.{views}

abbrev expr : Form → Expr
expr f = roll-Expr (record { form = f; at = 0 })

abbrev one : Expr
one = expr (form.Int (pos 1))

abbrev further : Bool → Expr → Term
further minus e = roll-Term (record { minus = minus; value = e })

abbrev x : Ident
x = record { text = codes "x"; at = 0 }

abbrev name_of : List Ident → Name
name_of parts = record { from_root = false; parts = parts; at = 0 }

abbrev set_x : Update
set_x = update.Set (name_of (x ∷ [])) one

abbrev group_with : List Item → Item
group_with is = item.Comp (roll-Comp (record { name = x; body = body.Group is }))

abbrev definition_with : List Item → Item
definition_with is = item.Def (roll-Def (record { name = x; params = []; body = body.Group is }))

-- ---- depth

depth_of_literal : depth (view one) ≡ 0
depth_of_literal = simp views refl

depth_of_paren : depth (view (expr (form.Paren one))) ≡ 1
depth_of_paren = simp views refl

depth_of_sum : depth (view (expr (form.Sum one (further false one ∷ further true one ∷ [])))) ≡ 1
depth_of_sum = simp views refl

depth_of_negated_paren : depth (view (expr (form.Neg (expr (form.Paren (expr (form.Sum one (further false one ∷ further true one ∷ [])))))))) ≡ 3
depth_of_negated_paren = simp views refl

-- the condition is the deepest part
depth_of_choice : depth (view (expr (form.If (roll-Branch (record { conds = one ∷ expr (form.Neg (expr (form.Paren one))) ∷ []; value = one }) ∷ []) one))) ≡ 3
depth_of_choice = simp views refl

depth_of_assignment : update_depth (view_update set_x) ≡ 0
depth_of_assignment = simp views refl

-- what stands after `else` is the deepest
depth_of_nested_if : update_depth (view_update (update.If (roll-UpdateBranch (record { conds = one ∷ []; updates = set_x ∷ [] }) ∷ []) (update.If [] (set_x ∷ []) ∷ []))) ≡ 2
depth_of_nested_if = simp views refl

-- a group in a definition in a group, beside a group
depth_of_components : component_depth (record { items = group_with (definition_with (group_with [] ∷ []) ∷ []) ∷ group_with [] ∷ [] }) ≡ 2
depth_of_components = simp views refl

depth_without_components : component_depth (record { items = item.Decl (decl.Marked one) ∷ [] }) ≡ 0
depth_without_components = simp views refl

-- ---- counts

enum_counts_its_literals : count_of_decl (decl.Enum x (x ∷ x ∷ [])) ≡ 3
enum_counts_its_literals = refl

equation_counts_once : count_of_decl (decl.Equation x one) ≡ 1
equation_counts_once = refl

marking_does_not_count : count_of_decl (decl.Marked one) ≡ 0
marking_does_not_count = refl

assignments_count_at_any_depth : count_of_update (update.If (roll-UpdateBranch (record { conds = one ∷ []; updates = set_x ∷ set_x ∷ [] }) ∷ []) (set_x ∷ [])) ≡ 3
assignments_count_at_any_depth = simp views refl

abbrev place : Loc
place = record {
  name = Some x;
  initial = true;
  marked = [];
  equations = record { name = x; value = one } ∷ [];
  edges = record { uses = []; guards = []; updates = set_x ∷ []; target = None } ∷ [];
}

-- itself, its name, its equation and what is assigned
location_counts : count_of_loc place ≡ 4
location_counts = simp views refl

abbrev plant : Body
plant = body.Auto (record { decls = decl.Input type_use.Int x ∷ []; alphabet = None; monitor = None; locs = place ∷ [] })

-- its name and its body, and what is in that
component_counts : count_of_item (item.Comp (roll-Comp (record { name = x; body = plant }))) ≡ 7
component_counts = simp views refl

definition_counts_its_parameters : count_of_item (item.Def (roll-Def (record { name = x; params = param.Location x ∷ []; body = body.Group [] }))) ≡ 3
definition_counts_its_parameters = simp views refl

empty_specification_counts : count_of_spec (record { items = [] }) ≡ 1
empty_specification_counts = refl

-- ---- whole values

paren_is_as_whole : (e : Expr) → HoldsInTree whole_parts (view (expr (form.Paren e))) ≡ HoldsInTree whole_parts (view e)
paren_is_as_whole e = simp views refl

name_with_a_part_is_whole : whole_parts.of_name (name_of (x ∷ []))
name_with_a_part_is_whole = λ e. cc

name_without_a_part_is_not : HoldsInTree whole_parts (view (expr (form.Named (name_of [])))) → ⊥
name_without_a_part_is_not h = let k = simp views at h in k refl

branch_without_a_condition_is_not : HoldsInTree whole_parts (view (expr (form.If (roll-Branch (record { conds = []; value = one }) ∷ []) one))) → ⊥
branch_without_a_condition_is_not h = let k = simp views at h in k.0.0 refl

type_is_as_whole_as_its_name : (n : Name) → HoldsInDecl whole_parts (decl.Input (type_use.Named n) x) ≡ whole_parts.of_name n
type_is_as_whole_as_its_name n = refl

-- ---- small numbers

greatest_number_is_small : IsSmallNumber (pos 2147483647)
greatest_number_is_small = (2147483647, refl, omega arith)

number_above_it_is_not : IsSmallNumber (pos 2147483648) → ⊥
number_above_it_is_not (n, e, l) = let same : 2147483648 ≡ n = cc in omega (arith, same, l)

negative_number_is_not : IsSmallNumber (neg_ℤ (pos 1)) → ⊥
negative_number_is_not (n, e, l) = cc

enumeration_without_literals_is_not : HasSmallNumbers (record { items = item.Decl (decl.Enum x []) ∷ [] }) → ⊥
enumeration_without_literals_is_not h = let k = simp views at h in let none = k.0.0 in omega (arith, none)
