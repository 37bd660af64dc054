-- The kinds of types and expressions in a body as written, and what the operands of an expression are asked for (CIF 3
-- language reference, "Types", "Expressions").
use Rattle.std.specs.Prelude.{ℕ, zero, suc, Bool, true, false, List, [], ◌∷◌, ◌++◌, map, flat_map, length, if◌then◌else◌}
use Rattle.cif_ast.specs.Tree.{Tree, node, Shape, truth, number, named, received, paren, negative, positive, negation, absolute, least, greatest, sum, product, comparison, all_of, any_of, implication, equivalence, choice, Trees, no_trees, trees, Terms, no_terms, terms, Factors, no_factors, factors, Branches, no_branches, branches}
use Rattle.cif_ast.specs.declared.names.Ident.{Ident}
use Rattle.cif_ast.specs.declared.expressions.CmpOp.{CmpOp}
use Rattle.cif_ast.specs.declared.expressions.CmpOp.TheVariants as cmp
use Rattle.cif_source.specs.Source.{Text, TypeTree, bool_type, int_type, range_type, named_type, type_decl, enum_decl, const_decl, alg_decl, input_decl, disc_decl, alg_param, location_param}
use Rattle.cif_source.specs.Components.{Component, specification_of, same_path, declared, literal, location, parameter}
use Rattle.cif_source.specs.Lookup.{Reached, reached, found}
use Rattle.cif_source.specs.Objects.{bodies, decls_of}

-- an enumeration's kind has the names of its literals in their order; what has no value has no kind
pub data Kind : Type 0 where
  bool_kind int_kind no_kind : Kind
  enum_kind : List Text → Kind

-- what has no kind is of one kind with nothing
abbrev pub same_kind : Kind → Kind → Bool
same_kind bool_kind bool_kind = true
same_kind int_kind int_kind = true
same_kind (enum_kind xs) (enum_kind ys) = same_path xs ys
same_kind _ _ = false

-- ---- of types

abbrev pub enum_of : List Ident → Kind
enum_of ls = enum_kind (map (λ (n : Ident). n.text) ls)

abbrev pub type_kind_at : (Component → TypeTree → Kind) → Reached → Kind
type_kind_at more (reached (c, declared (type_decl n ty))) = more c ty
type_kind_at more (reached (c, declared (enum_decl n ls))) = enum_of ls
type_kind_at more _ = no_kind

abbrev pub type_kind_by : (Component → TypeTree → Kind) → Component → TypeTree → Kind
type_kind_by more c bool_type = bool_kind
type_kind_by more c int_type = int_kind
type_kind_by more c (range_type lower upper) = int_kind
type_kind_by more c (named_type nm) = type_kind_at more (found c nm)

-- through at most n names of types
abbrev pub type_kind_within : ℕ → Component → TypeTree → Kind
type_kind_within zero = type_kind_by (λ c ty. no_kind)
type_kind_within (suc n) = type_kind_by (type_kind_within n)

-- no type names more types in one another than are declared in all bodies, where none reaches itself
abbrev pub type_kind : Component → TypeTree → Kind
type_kind c ty = type_kind_within (length (flat_map decls_of (bodies (specification_of c)))) c ty

-- ---- of names

abbrev pub kind_at : Reached → Kind
kind_at (reached (c, declared (const_decl ty n e))) = type_kind c ty
kind_at (reached (c, declared (alg_decl ty n e))) = type_kind c ty
kind_at (reached (c, declared (input_decl ty n))) = type_kind c ty
kind_at (reached (c, declared (disc_decl ty n e))) = type_kind c ty
kind_at (reached (c, parameter k (alg_param ty n))) = type_kind c ty
kind_at (reached (c, parameter k (location_param n))) = bool_kind
kind_at (reached (c, literal k ls)) = enum_of ls
kind_at (reached (c, location k)) = bool_kind
kind_at _ = no_kind

-- ---- of expressions

-- the kind of an expression in a component, where `?` has the kind r; that of an `if` is its first branch's
abbrev mutual
  pub kind_of : Component → Kind → Tree → Kind
  kind_of c r (node form at) = shape_kind c r form

  pub shape_kind : Component → Kind → Shape → Kind
  shape_kind c r (truth b) = bool_kind
  shape_kind c r (number z) = int_kind
  shape_kind c r (named nm) = kind_at (found c nm)
  shape_kind c r received = r
  shape_kind c r (paren e) = kind_of c r e
  shape_kind c r (negative e) = int_kind
  shape_kind c r (positive e) = int_kind
  shape_kind c r (negation e) = bool_kind
  shape_kind c r (absolute e) = int_kind
  shape_kind c r (least a b) = int_kind
  shape_kind c r (greatest a b) = int_kind
  shape_kind c r (sum e es) = int_kind
  shape_kind c r (product e es) = int_kind
  shape_kind c r (comparison a op b) = bool_kind
  shape_kind c r (all_of es) = bool_kind
  shape_kind c r (any_of es) = bool_kind
  shape_kind c r (implication a b) = bool_kind
  shape_kind c r (equivalence a b) = bool_kind
  shape_kind c r (choice bs e) = first_kind c r (kind_of c r e) bs

  pub first_kind : Component → Kind → Kind → Branches → Kind
  first_kind c r other no_branches = other
  first_kind c r other (branches cs e bs) = kind_of c r e

-- ---- what is asked

-- an expression at a position that asks for a kind, and the kind of `?` there
pub record Demand : Type 0 where
  pub value : Tree
  pub received_kind : Kind
  pub kind : Kind

abbrev pub demand : Kind → Kind → Tree → Demand
demand r k e = record { value = e; received_kind = r; kind = k }

-- equality takes two operands of one kind, and the orders take integers
abbrev pub comparison_demands : Component → Kind → CmpOp → Tree → Tree → List Demand
comparison_demands c r cmp.Eq a b = demand r (kind_of c r a) b ∷ []
comparison_demands c r cmp.Ne a b = demand r (kind_of c r a) b ∷ []
comparison_demands c r op a b = demand r int_kind a ∷ demand r int_kind b ∷ []

-- what the operands within an expression are asked for; a `?` is asked for the kind that is received
abbrev mutual
  pub operands : Component → Kind → Tree → List Demand
  operands c r (node form at) = shape_operands c r at form

  pub shape_operands : Component → Kind → ℕ → Shape → List Demand
  shape_operands c r at (truth b) = []
  shape_operands c r at (number z) = []
  shape_operands c r at (named nm) = []
  shape_operands c r at received = demand r r (node received at) ∷ []
  shape_operands c r at (paren e) = operands c r e
  shape_operands c r at (negative e) = demand r int_kind e ∷ operands c r e
  shape_operands c r at (positive e) = demand r int_kind e ∷ operands c r e
  shape_operands c r at (negation e) = demand r bool_kind e ∷ operands c r e
  shape_operands c r at (absolute e) = demand r int_kind e ∷ operands c r e
  shape_operands c r at (least a b) = demand r int_kind a ∷ demand r int_kind b ∷ operands c r a ++ operands c r b
  shape_operands c r at (greatest a b) = demand r int_kind a ∷ demand r int_kind b ∷ operands c r a ++ operands c r b
  shape_operands c r at (sum e es) = demand r int_kind e ∷ operands c r e ++ term_operands c r es
  shape_operands c r at (product e es) = demand r int_kind e ∷ operands c r e ++ factor_operands c r es
  shape_operands c r at (comparison a op b) = comparison_demands c r op a b ++ operands c r a ++ operands c r b
  shape_operands c r at (all_of es) = truth_operands c r es
  shape_operands c r at (any_of es) = truth_operands c r es
  shape_operands c r at (implication a b) = demand r bool_kind a ∷ demand r bool_kind b ∷ operands c r a ++ operands c r b
  shape_operands c r at (equivalence a b) = demand r bool_kind a ∷ demand r bool_kind b ∷ operands c r a ++ operands c r b
  shape_operands c r at (choice bs e) =
      branch_operands c r bs ++ operands c r e ++ other_demand c r (first_kind c r (kind_of c r e) bs) e bs

  pub term_operands : Component → Kind → Terms → List Demand
  term_operands c r no_terms = []
  term_operands c r (terms minus e es) = demand r int_kind e ∷ operands c r e ++ term_operands c r es

  pub factor_operands : Component → Kind → Factors → List Demand
  factor_operands c r no_factors = []
  factor_operands c r (factors op e es) = demand r int_kind e ∷ operands c r e ++ factor_operands c r es

  pub truth_operands : Component → Kind → Trees → List Demand
  truth_operands c r no_trees = []
  truth_operands c r (trees e es) = demand r bool_kind e ∷ operands c r e ++ truth_operands c r es

  -- conditions are boolean
  pub branch_operands : Component → Kind → Branches → List Demand
  branch_operands c r no_branches = []
  branch_operands c r (branches cs e bs) = truth_operands c r cs ++ operands c r e ++ branch_operands c r bs

  -- each branch is asked for the kind k of the first one, up to the first that has another; e is the last branch
  pub other_demand : Component → Kind → Kind → Tree → Branches → List Demand
  other_demand c r k e no_branches = demand r k e ∷ []
  other_demand c r k e (branches cs b bs) = if same_kind (kind_of c r b) k then other_demand c r k e bs else demand r k b ∷ []
