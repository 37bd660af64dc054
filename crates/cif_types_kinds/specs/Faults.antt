-- The first place at which an expression breaks what is asked of its operands, each operand read before it is asked.
use Rattle.std.specs.Prelude.{◌≡◌, ℕ, Bool, true, false, Option, Some, None, unwrap_or, Result, Ok, Err}
use Rattle.cif_ast.specs.Tree.{Tree, node, Shape, truth, number, named, received, paren, negative, positive, negation, absolute, least, greatest, sum, product, comparison, all_of, any_of, implication, equivalence, choice, Trees, no_trees, trees, Terms, no_terms, terms, Factors, no_factors, factors, Branches, no_branches, branches}
use Rattle.cif_ast.specs.declared.expressions.CmpOp.{CmpOp}
use Rattle.cif_ast.specs.declared.expressions.CmpOp.TheVariants as cmp
use Rattle.cif_source.specs.Source.{tree_at}
use Rattle.cif_source.specs.Components.{Component}
use Rattle.cif_source.specs.Kinds.{Kind, bool_kind, int_kind, kind_of, same_kind}
use Rattle.cif_types_kinds.specs.declared.error.KindErr.{KindErr}
use Rattle.cif_types_kinds.specs.declared.error.KindErr.TheVariants.{Mismatch, Memory}

abbrev pub unless : Bool → ℕ → Option ℕ
unless true at = None
unless false at = Some at

abbrev pub or_later : Option ℕ → Option ℕ → Option ℕ
or_later None o = o
or_later (Some at) o = Some at

-- what is told of the expression e once its operands are read, where it is asked for the kind k
abbrev pub then_asked : Component → Kind → Kind → Tree → Option ℕ → Option ℕ
then_asked c r k e o = or_later o (unless (same_kind (kind_of c r e) k) (tree_at e))

-- the kind that a comparison asks its right operand for: equality asks for that of the left one
abbrev pub right_kind : Component → Kind → CmpOp → Tree → Kind
right_kind c r cmp.Eq a = kind_of c r a
right_kind c r cmp.Ne a = kind_of c r a
right_kind c r cmp.Lt a = int_kind
right_kind c r cmp.Le a = int_kind
right_kind c r cmp.Gt a = int_kind
right_kind c r cmp.Ge a = int_kind

-- what is told of the left operand of a comparison
abbrev pub left_fault : Component → Kind → CmpOp → Tree → Option ℕ → Option ℕ
left_fault c r cmp.Eq a o = o
left_fault c r cmp.Ne a o = o
left_fault c r cmp.Lt a o = then_asked c r int_kind a o
left_fault c r cmp.Le a o = then_asked c r int_kind a o
left_fault c r cmp.Gt a o = then_asked c r int_kind a o
left_fault c r cmp.Ge a o = then_asked c r int_kind a o

-- the kind of the first branch, where the branches before these had the kind k or there were none
abbrev pub first_of : Component → Kind → Option Kind → Branches → Option Kind
first_of c r k no_branches = k
first_of c r k (branches cs e bs) = first_of c r (Some (unwrap_or k (kind_of c r e))) bs

abbrev mutual
  pub fault : Component → Kind → Tree → Option ℕ
  fault c r (node form at) = shape_fault c r at form

  pub shape_fault : Component → Kind → ℕ → Shape → Option ℕ
  shape_fault c r at (truth b) = None
  shape_fault c r at (number z) = None
  shape_fault c r at (named nm) = None
  shape_fault c r at received = unless (same_kind r r) at
  shape_fault c r at (paren e) = fault c r e
  shape_fault c r at (negative e) = then_asked c r int_kind e (fault c r e)
  shape_fault c r at (positive e) = then_asked c r int_kind e (fault c r e)
  shape_fault c r at (negation e) = then_asked c r bool_kind e (fault c r e)
  shape_fault c r at (absolute e) = then_asked c r int_kind e (fault c r e)
  shape_fault c r at (least a b) = or_later (then_asked c r int_kind a (fault c r a)) (then_asked c r int_kind b (fault c r b))
  shape_fault c r at (greatest a b) = or_later (then_asked c r int_kind a (fault c r a)) (then_asked c r int_kind b (fault c r b))
  shape_fault c r at (sum e es) = or_later (then_asked c r int_kind e (fault c r e)) (term_fault c r es)
  shape_fault c r at (product e es) = or_later (then_asked c r int_kind e (fault c r e)) (factor_fault c r es)
  shape_fault c r at (comparison a op b) = or_later (left_fault c r op a (fault c r a)) (then_asked c r (right_kind c r op a) b (fault c r b))
  shape_fault c r at (all_of es) = truth_fault c r es
  shape_fault c r at (any_of es) = truth_fault c r es
  shape_fault c r at (implication a b) = or_later (then_asked c r bool_kind a (fault c r a)) (then_asked c r bool_kind b (fault c r b))
  shape_fault c r at (equivalence a b) = or_later (then_asked c r bool_kind a (fault c r a)) (then_asked c r bool_kind b (fault c r b))
  shape_fault c r at (choice bs e) =
      or_later (branch_fault c r None bs) (then_asked c r (unwrap_or (first_of c r None bs) (kind_of c r e)) e (fault c r e))

  pub term_fault : Component → Kind → Terms → Option ℕ
  term_fault c r no_terms = None
  term_fault c r (terms minus e es) = or_later (then_asked c r int_kind e (fault c r e)) (term_fault c r es)

  pub factor_fault : Component → Kind → Factors → Option ℕ
  factor_fault c r no_factors = None
  factor_fault c r (factors op e es) = or_later (then_asked c r int_kind e (fault c r e)) (factor_fault c r es)

  pub truth_fault : Component → Kind → Trees → Option ℕ
  truth_fault c r no_trees = None
  truth_fault c r (trees e es) = or_later (then_asked c r bool_kind e (fault c r e)) (truth_fault c r es)

  -- k is the kind of the first branch, where there were branches before
  pub branch_fault : Component → Kind → Option Kind → Branches → Option ℕ
  branch_fault c r k no_branches = None
  branch_fault c r k (branches cs e bs) =
      or_later (truth_fault c r cs)
      (or_later (then_asked c r (unwrap_or k (kind_of c r e)) e (fault c r e))
      (branch_fault c r (Some (unwrap_or k (kind_of c r e))) bs))

-- the answer tells what was found
abbrev pub Tells : {A : Type 0} → Result A KindErr → Option ℕ → Type 0
Tells (Ok x) o = o ≡ None
Tells (Err (Mismatch at)) o = o ≡ Some at
Tells (Err Memory) o = Unit {0}
