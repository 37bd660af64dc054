-- The rules on instances, each with the fields of its refusal. They are about each component, an instance as well as one that
-- is written where it stands (CIF 3 language reference, "Synchronization", "Channels", "Constants").
use Rattle.std.specs.Prelude.{◌≡◌, ℕ, suc, ◌+◌, ◌<◌, ◌≤◌, ◌⊎◌, ℤ, pos, int_lt, Bool, false, not, ◌||◌, IsTrue, List, [], ◌∷◌, ◌++◌, map, filter, flat_map, length, sum, Some, None, if◌then◌else◌, unwrap_or}
use Rattle.std.specs.List.{Any}
use Rattle.std.specs.Ordering.{int_eq}
use Rattle.cif_ast.specs.Tree.{Tree, node, Shape, truth, number, named, received, paren, negative, positive, negation, absolute, least, greatest, product, comparison, all_of, any_of, implication, equivalence, choice, Trees, no_trees, trees, Terms, no_terms, terms, Factors, no_factors, factors, Branches, no_branches, branches}
use Rattle.cif_ast.specs.Tree as tree
use Rattle.cif_ast.specs.declared.names.Name.{Name}
use Rattle.cif_ast.specs.declared.expressions.MulOp.{MulOp}
use Rattle.cif_ast.specs.declared.expressions.MulOp.TheVariants as mul
use Rattle.cif_system.specs.System.{in_range, syncing, sending, receiving}
use Rattle.cif_system.specs.Words.{Exceeds}
use Rattle.cif_system.specs.Step.{same_role}
use Rattle.cif_source.specs.Source.{TypeTree, DeclTree, invariant_decl, needs, disables, Source, tree_at, SourceBody, group_body, automaton_body}
use Rattle.cif_source.specs.Components.{Component, body_of}
use Rattle.cif_source.specs.Lookup.{denotes}
use Rattle.cif_source.specs.Objects.{components_of, most_objects, automata, decls_of, locs_of, EventEdge, event_edges}
use Rattle.cif_source.specs.Value.{constant, added, multiplied}
use Rattle.cif_source.specs.Types.{range_of, signed_range}
use Rattle.cif_source.specs.Step.{event_at, role_of, synchronises, has_edge}
use Rattle.cif_source.specs.Constants.{constants_of, bound_values, Bounds, bounds_of, typed_constants}
use Rattle.cif_source.specs.BodyRules.{name_at}

-- ---- alphabets

-- the event of an edge that neither sends nor receives
abbrev pub synchronised_name : EventEdge → List Name
synchronised_name w = if same_role syncing (role_of w.event_use.role) then w.event_use.name ∷ [] else []

abbrev pub monitored_in : SourceBody → List Name
monitored_in (group_body is) = []
monitored_in (automaton_body a) = unwrap_or a.monitor []

-- the name denotes an event outside the alphabet
abbrev pub is_lacking : Component → Name → Bool
is_lacking a nm = elim (event_at (denotes a nm)) [ None ↦ false | Some e ↦ not (synchronises e a) ]

-- in some automaton an edge that synchronises, or `monitor`, names there an event outside the alphabet
abbrev pub AlphabetLacksDue : Source → ℕ → Type 0
AlphabetLacksDue t at = Any (λ a. Any (λ (nm : Name). (nm.at ≡ at) × IsTrue (is_lacking a nm)) (flat_map synchronised_name (event_edges a) ++ monitored_in (body_of a))) (automata t)

-- how many roles an automaton has for an event
abbrev pub role_count : ℕ → Component → ℕ
role_count e a = length (filter (λ b. b) (synchronises e a ∷ has_edge sending e a ∷ has_edge receiving e a ∷ []))

-- some automaton, whose name stands there in the body as written, has two roles for an event
abbrev pub RoleMixedDue : Source → ℕ → Type 0
RoleMixedDue t at = Any (λ a. (name_at a ≡ Some at) × ((e : ℕ) × (2 ≤ role_count e a))) (automata t)

-- ---- the number of objects

-- an exclusion is one declaration for each event name in it
abbrev pub decl_objects : DeclTree → ℕ
decl_objects (invariant_decl (needs nms p)) = length nms
decl_objects (invariant_decl (disables p nms)) = length nms
decl_objects _ = 1

-- a component, its declarations, locations and edges
abbrev pub component_objects : Component → ℕ
component_objects c = 1 + sum (map decl_objects (decls_of c)) + length (locs_of c) + length (event_edges c)

abbrev pub object_count : Source → ℕ
object_count t = sum (map component_objects (components_of t))

abbrev pub TooManyObjectsDue : Source → ℕ → Type 0
TooManyObjectsDue t count = Exceeds most_objects (object_count t) count

-- ---- constant expressions

abbrev pub leaves_64_bits : ℤ → Bool
leaves_64_bits z = not (in_range (signed_range 64) z)

abbrev pub divides_by_0 : MulOp → ℤ → Bool
divides_by_0 mul.Times b = false
divides_by_0 mul.Div b = int_eq b (pos 0)
divides_by_0 mul.Mod b = int_eq b (pos 0)

-- With every operand evaluated, some value leaves 64 bits or some divisor is 0. Sums and products go from left to right, each
-- partial result included.
abbrev mutual
  pub is_faulty : (Tree → ℤ) → Tree → Bool
  is_faulty value (node form at) = shape_faulty value form || leaves_64_bits (value (node form at))

  pub shape_faulty : (Tree → ℤ) → Shape → Bool
  shape_faulty value (truth b) = false
  shape_faulty value (number z) = false
  shape_faulty value (named nm) = false
  shape_faulty value received = false
  shape_faulty value (paren e) = is_faulty value e
  shape_faulty value (negative e) = is_faulty value e
  shape_faulty value (positive e) = is_faulty value e
  shape_faulty value (negation e) = is_faulty value e
  shape_faulty value (absolute e) = is_faulty value e
  shape_faulty value (least a b) = is_faulty value a || is_faulty value b
  shape_faulty value (greatest a b) = is_faulty value a || is_faulty value b
  shape_faulty value (tree.sum e es) = is_faulty value e || sum_faulty value (value e) es
  shape_faulty value (product e es) = is_faulty value e || product_faulty value (value e) es
  shape_faulty value (comparison a op b) = is_faulty value a || is_faulty value b
  shape_faulty value (all_of es) = any_faulty value es
  shape_faulty value (any_of es) = any_faulty value es
  shape_faulty value (implication a b) = is_faulty value a || is_faulty value b
  shape_faulty value (equivalence a b) = is_faulty value a || is_faulty value b
  shape_faulty value (choice bs e) = branch_faulty value bs || is_faulty value e

  pub sum_faulty : (Tree → ℤ) → ℤ → Terms → Bool
  sum_faulty value z no_terms = false
  sum_faulty value z (terms minus e es) =
      let next = added minus z (value e) in
      is_faulty value e || leaves_64_bits next || sum_faulty value next es

  pub product_faulty : (Tree → ℤ) → ℤ → Factors → Bool
  product_faulty value z no_factors = false
  product_faulty value z (factors op e es) =
      let next = multiplied op z (value e) in
      is_faulty value e || divides_by_0 op (value e) || leaves_64_bits next || product_faulty value next es

  pub any_faulty : (Tree → ℤ) → Trees → Bool
  any_faulty value no_trees = false
  any_faulty value (trees e es) = is_faulty value e || any_faulty value es

  pub branch_faulty : (Tree → ℤ) → Branches → Bool
  branch_faulty value no_branches = false
  branch_faulty value (branches cs e bs) = any_faulty value cs || is_faulty value e || branch_faulty value bs

abbrev pub FaultyConstant : Component → ℕ → Type 0
FaultyConstant c at = Any (λ e. (tree_at e ≡ at) × IsTrue (is_faulty (constant c) e)) (constants_of c)

-- the value of a constant or a first value leaves its declared range
abbrev pub LeavesRange : Component → ℕ → Type 0
LeavesRange c at = Any (λ (v : TypeTree × Tree). (tree_at v.1 ≡ at) × (in_range (range_of c v.0) (constant c v.1) ≡ false)) (typed_constants c)

-- a bound leaves 32 bits
abbrev pub LongBound : Component → ℕ → Type 0
LongBound c at = Any (λ e. (tree_at e ≡ at) × (in_range (signed_range 32) (constant c e) ≡ false)) (bound_values c)

-- the lower bound there exceeds the upper one
abbrev pub EmptyRange : Component → ℕ → Type 0
EmptyRange c at = Any (λ (b : Bounds). (tree_at b.0 ≡ at) × IsTrue (int_lt (constant c b.1) (constant c b.0))) (bounds_of c)

abbrev pub ConstantRangeDue : Source → ℕ → Type 0
ConstantRangeDue t at = Any (λ c. FaultyConstant c at ⊎ LeavesRange c at ⊎ LongBound c at ⊎ EmptyRange c at) (components_of t)
