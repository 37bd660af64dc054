-- Helper of the code: the expressions and statements of a program with its names resolved. Where no variable has a name,
-- its place is the number of the variables. Parentheses mean what they hold, and operands of one level are a pair or a chain.
use Rattle.std.specs.Prelude.{pos, Bool, true, false, List}
use Rattle.st_ast.specs.Names.{place_of}
use Rattle.st_ast.specs.Tree.{Expr, Exprs, Factors, Terms, truth, number, named, paren, negation, complement, product, sum, order, equal, all_of, odd_of, any_of, absolute, least, greatest, selection, no_exprs, exprs, no_factors, factors, no_terms, terms, Stm, Stms, Branches, Other, assign, choice, loop, no_stms, stms, no_branches, branches, no_other, other}
use Rattle.st_ast.specs.Values.{of_bool}
use Rattle.st_ast.specs.Exec.{type_at}
use Rattle.st_ast.specs.declared.tree.StOrder.{StOrder}
use Rattle.st_ast.specs.declared.tree.StOrder.TheVariants as cmp
use Rattle.st_ast.specs.declared.tree.StVar.{StVar}
use Rattle.st_check.specs.PlacedTree as to
use Rattle.st_check.specs.PlacedTree.{Operator, of_factor, of_term}
use Rattle.st_check.specs.declared.placed.Pairing.{Pairing}
use Rattle.st_check.specs.declared.placed.Pairing.TheVariants as between
use Rattle.st_check.specs.declared.placed.Relation.TheVariants as rel
use Rattle.st_check.specs.declared.placed.Single.TheVariants as one

abbrev pub of_order : StOrder → Operator
of_order cmp.Lt = to.is rel.Less true
of_order cmp.Gt = to.is rel.AtMost false
of_order cmp.Le = to.is rel.AtMost true
of_order cmp.Ge = to.is rel.Less false

abbrev pub of_equality : Bool → Operator
of_equality same = to.is rel.Equal same

abbrev pub of_pairing : Pairing → Operator
of_pairing (between.Order f) = of_order f
of_pairing (between.Equality same) = of_equality same
of_pairing between.Smaller = to.smaller
of_pairing between.Larger = to.larger

abbrev mutual
  pub placed : List StVar → Expr → to.Expr
  placed vars (truth b) = to.number (of_bool b)
  placed vars (number z) = to.number z
  placed vars (named x) = to.placed (place_of vars x)
  placed vars (paren e) = placed vars e
  placed vars (negation e) = to.single one.Minus (placed vars e)
  placed vars (complement e) = to.single one.Not (placed vars e)
  placed vars (product e rest) = to.chain (placed vars e) (placed_factors vars rest)
  placed vars (sum e rest) = to.chain (placed vars e) (placed_terms vars rest)
  placed vars (order a f b) = to.pair (placed vars a) (of_order f) (placed vars b)
  placed vars (equal a same b) = to.pair (placed vars a) (of_equality same) (placed vars b)
  placed vars (all_of es) = to.chain (to.number (pos 1)) (placed_exprs vars to.all es)
  placed vars (odd_of es) = to.chain (to.number (pos 0)) (placed_exprs vars to.odd es)
  placed vars (any_of es) = to.chain (to.number (pos 0)) (placed_exprs vars to.any es)
  placed vars (absolute e) = to.single one.Absolute (placed vars e)
  placed vars (least a b) = to.pair (placed vars a) to.smaller (placed vars b)
  placed vars (greatest a b) = to.pair (placed vars a) to.larger (placed vars b)
  placed vars (selection g a b) = to.selected (placed vars g) (placed vars a) (placed vars b)

  -- each operand with the same operator before it
  pub placed_exprs : List StVar → Operator → Exprs → to.Steps
  placed_exprs vars f no_exprs = to.no_steps
  placed_exprs vars f (exprs e es) = to.steps f (placed vars e) (placed_exprs vars f es)

  pub placed_factors : List StVar → Factors → to.Steps
  placed_factors vars no_factors = to.no_steps
  placed_factors vars (factors f e fs) = to.steps (of_factor f) (placed vars e) (placed_factors vars fs)

  pub placed_terms : List StVar → Terms → to.Steps
  placed_terms vars no_terms = to.no_steps
  placed_terms vars (terms minus e ts) = to.steps (of_term minus) (placed vars e) (placed_terms vars ts)

abbrev mutual
  pub placed_stm : List StVar → Stm → to.Stm
  placed_stm vars (assign x e) = to.assign (place_of vars x) (type_at vars (place_of vars x)) (placed vars e)
  placed_stm vars (choice bs o) = to.choice (placed_branches vars bs) (placed_other vars o)
  placed_stm vars (loop c ss) = to.loop (placed vars c) (placed_stms vars ss)

  pub placed_stms : List StVar → Stms → to.Stms
  placed_stms vars no_stms = to.no_stms
  placed_stms vars (stms s ss) = to.stms (placed_stm vars s) (placed_stms vars ss)

  pub placed_branches : List StVar → Branches → to.Branches
  placed_branches vars no_branches = to.no_branches
  placed_branches vars (branches c ss bs) = to.branches (placed vars c) (placed_stms vars ss) (placed_branches vars bs)

  pub placed_other : List StVar → Other → to.Stms
  placed_other vars no_other = to.no_stms
  placed_other vars (other ss) = placed_stms vars ss
