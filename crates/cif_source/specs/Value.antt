-- The value of an expression in a state, a whole number (CIF 3 language reference, "Expressions").
use Rattle.std.specs.Prelude.{ℕ, zero, suc, ℤ, pos, neg_ℤ, ◌+ℤ◌, ◌-ℤ◌, ◌*ℤ◌, nat_abs, int_lt, int_le, int_div, int_rem, Bool, true, false, not, ◌&&◌, ◌||◌, nat_eq, List, [], ◌∷◌, ◌++◌, length, flat_map, filter_map, Option, Some, None, slice_get, slice_index_or, if◌then◌else◌}
use Rattle.std.specs.Int.{int_min, int_max}
use Rattle.std.specs.List.{last_or}
use Rattle.std.specs.Option.{option_to_list}
use Rattle.std.specs.Ordering.{int_eq}
use Rattle.cif_ast.specs.Tree.{Tree, node, Shape, truth, number, named, received, paren, negative, positive, negation, absolute, least, greatest, sum, product, comparison, all_of, any_of, implication, equivalence, choice, Trees, no_trees, trees, Terms, no_terms, terms, Factors, no_factors, factors, Branches, no_branches, branches}
use Rattle.cif_ast.specs.declared.names.Name.{Name}
use Rattle.cif_ast.specs.declared.expressions.CmpOp.{CmpOp}
use Rattle.cif_ast.specs.declared.expressions.CmpOp.TheVariants as cmp
use Rattle.cif_ast.specs.declared.expressions.MulOp.{MulOp}
use Rattle.cif_ast.specs.declared.expressions.MulOp.TheVariants as mul
use Rattle.cif_system.specs.System.{State}
use Rattle.cif_source.specs.Source.{Text, DeclTree, const_decl, alg_decl, input_decl, disc_decl, equation_decl, EquationTree, LocationTree}
use Rattle.cif_source.specs.Components.{Component, specification_of, declared, literal, location, same_text}
use Rattle.cif_source.specs.Lookup.{ScopeEntry, follow}
use Rattle.cif_source.specs.Objects.{decls_of, locs_of, of_sort, is_const, algs, variables, inputs, number_in, automaton_number}

abbrev pub of_bool : Bool → ℤ
of_bool true = pos 1
of_bool false = pos 0

-- the value 1
abbrev pub is_true : ℤ → Bool
is_true z = int_eq z (pos 1)

abbrev pub compared : CmpOp → ℤ → ℤ → Bool
compared cmp.Eq a b = int_eq a b
compared cmp.Ne a b = not (int_eq a b)
compared cmp.Lt a b = int_lt a b
compared cmp.Le a b = int_le a b
compared cmp.Gt a b = int_lt b a
compared cmp.Ge a b = int_le b a

-- `div` truncates towards 0, `mod` takes the sign of the dividend, and division by 0 gives 0
abbrev pub multiplied : MulOp → ℤ → ℤ → ℤ
multiplied mul.Times a b = a *ℤ b
multiplied mul.Div a b = if int_eq b (pos 0) then pos 0 else int_div a b
multiplied mul.Mod a b = if int_eq b (pos 0) then pos 0 else int_rem a b

abbrev pub added : Bool → ℤ → ℤ → ℤ
added true a b = a -ℤ b
added false a b = a +ℤ b

-- ---- by the values of names

-- the value of an expression, where each name has one and `?` has the value r
abbrev mutual
  pub value_with : (Name → ℤ) → ℤ → Tree → ℤ
  value_with name r (node form at) = shape_value name r form

  pub shape_value : (Name → ℤ) → ℤ → Shape → ℤ
  shape_value name r (truth b) = of_bool b
  shape_value name r (number z) = z
  shape_value name r (named nm) = name nm
  shape_value name r received = r
  shape_value name r (paren e) = value_with name r e
  shape_value name r (negative e) = neg_ℤ (value_with name r e)
  shape_value name r (positive e) = value_with name r e
  shape_value name r (negation e) = of_bool (not (is_true (value_with name r e)))
  shape_value name r (absolute e) = pos (nat_abs (value_with name r e))
  shape_value name r (least a b) = int_min (value_with name r a) (value_with name r b)
  shape_value name r (greatest a b) = int_max (value_with name r a) (value_with name r b)
  shape_value name r (sum e es) = sum_value name r (value_with name r e) es
  shape_value name r (product e es) = product_value name r (value_with name r e) es
  shape_value name r (comparison a op b) = of_bool (compared op (value_with name r a) (value_with name r b))
  shape_value name r (all_of es) = of_bool (all_true name r es)
  shape_value name r (any_of es) = of_bool (any_true name r es)
  shape_value name r (implication a b) = of_bool (not (is_true (value_with name r a)) || is_true (value_with name r b))
  shape_value name r (equivalence a b) = of_bool (int_eq (value_with name r a) (value_with name r b))
  shape_value name r (choice bs e) = branch_value name r (value_with name r e) bs

  -- from left to right
  pub sum_value : (Name → ℤ) → ℤ → ℤ → Terms → ℤ
  sum_value name r z no_terms = z
  sum_value name r z (terms minus e es) = sum_value name r (added minus z (value_with name r e)) es

  pub product_value : (Name → ℤ) → ℤ → ℤ → Factors → ℤ
  product_value name r z no_factors = z
  product_value name r z (factors op e es) = product_value name r (multiplied op z (value_with name r e)) es

  pub all_true : (Name → ℤ) → ℤ → Trees → Bool
  all_true name r no_trees = true
  all_true name r (trees e es) = is_true (value_with name r e) && all_true name r es

  pub any_true : (Name → ℤ) → ℤ → Trees → Bool
  any_true name r no_trees = false
  any_true name r (trees e es) = is_true (value_with name r e) || any_true name r es

  -- of the first branch whose conditions hold, or else z
  pub branch_value : (Name → ℤ) → ℤ → ℤ → Branches → ℤ
  branch_value name r z no_branches = z
  branch_value name r z (branches cs e bs) = if all_true name r cs then value_with name r e else branch_value name r z bs

-- ---- constants

abbrev pub constant_object : (Component → Tree → ℤ) → ScopeEntry → ℤ
constant_object defined (c, declared (const_decl ty n e)) = defined c e
constant_object defined (c, literal k ls) = pos k
constant_object defined _ = pos 0

abbrev pub constant_by : (Component → Tree → ℤ) → Component → Tree → ℤ
constant_by defined c e = value_with (follow (constant_object defined) (pos 0) (λ name g a. value_with name (pos 0) a) c) (pos 0) e

-- with n unfoldings of constants in one another, and 0 for one more
abbrev pub constant_within : ℕ → Component → Tree → ℤ
constant_within zero = constant_by (λ c e. pos 0)
constant_within (suc n) = constant_by (constant_within n)

-- the value of an expression that names constants and literals alone
abbrev pub constant : Component → Tree → ℤ
constant c e = constant_within (length (of_sort is_const (specification_of c))) c e

-- ---- algebraic variables and their definitions

abbrev pub equation_for : Text → EquationTree → Option Tree
equation_for x q = if same_text q.name.text x then Some q.value else None

abbrev pub decl_equation_for : Text → DeclTree → Option Tree
decl_equation_for x (equation_decl q) = equation_for x q
decl_equation_for x _ = None

-- the definitions of the algebraic variable x of a component: its declared value and the component's equations
abbrev pub own_definitions : Component → Text → Option Tree → List Tree
own_definitions c x e = option_to_list e ++ filter_map (decl_equation_for x) (decls_of c)

abbrev pub location_definitions : Text → LocationTree → List Tree
location_definitions x l = filter_map (equation_for x) l.equations

-- what stands at a place, and past the last place, at which no automaton ever is, what stands last
abbrev pub at_or_last : {A : Type 0} → List A → ℕ → Option A
at_or_last xs k = elim (slice_get xs k) [ Some x ↦ Some x | None ↦ last_or None xs ]

-- with those in the location at a place
abbrev pub definitions : Component → Text → Option Tree → ℕ → List Tree
definitions c x e k = own_definitions c x e ++ flat_map (location_definitions x) (option_to_list (at_or_last (locs_of c) k))

-- ---- in a state

abbrev pub place_in : State → Component → ℕ
place_in s a = slice_index_or s.locs (automaton_number (specification_of a) a) 0

-- of the first definition
abbrev pub first_value : (Tree → ℤ) → List Tree → ℤ
first_value value [] = pos 0
first_value value (e ∷ es) = value e

-- the value of what a name denotes; `defined` gives the values of definitions
abbrev pub object_value : State → (Component → Tree → ℤ) → ScopeEntry → ℤ
object_value s defined (c, declared (const_decl ty n e)) = constant c e
object_value s defined (c, declared (alg_decl ty n e)) = first_value (defined c) (definitions c n.text e (place_in s c))
object_value s defined (c, declared (disc_decl ty n e)) = slice_index_or s.vals (number_in (variables (specification_of c)) c n.text) (pos 0)
object_value s defined (c, declared (input_decl ty n)) = slice_index_or s.ins (number_in (inputs (specification_of c)) c n.text) (pos 0)
object_value s defined (c, literal k ls) = pos k
object_value s defined (c, location k) = of_bool (nat_eq (place_in s c) k)
object_value s defined _ = pos 0

-- the value of an expression that stands in a component
abbrev pub value_by : State → ℤ → (Component → Tree → ℤ) → Component → Tree → ℤ
value_by s r defined c e = value_with (follow (object_value s defined) (pos 0) (λ name g a. value_with name r a) c) r e

-- with n unfoldings of algebraic variables in one another, and 0 for one more
abbrev pub value_within : ℕ → State → ℤ → Component → Tree → ℤ
value_within zero s r = value_by s r (λ c e. pos 0)
value_within (suc n) s r = value_by s r (value_within n s r)

-- as many unfoldings as there are algebraic variables: no more are met where none depends on itself
abbrev pub value_of : Component → Tree → State → ℤ → ℤ
value_of c e s r = value_within (length (algs (specification_of c))) s r c e
