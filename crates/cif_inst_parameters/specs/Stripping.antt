-- Helper of the code: parentheses round an expression.
use Rattle.std.specs.Prelude.{ℕ, Option, Some, None}
use Rattle.cif_ast.specs.Tree.{Tree, node, Shape, truth, number, named, received, paren, negative, positive, negation, absolute, least, greatest, sum, product, comparison, all_of, any_of, implication, equivalence, choice}

-- without the parentheses round it, where the whole has the form and begins there
abbrev mutual
  pub stripped : Tree → Tree
  stripped (node form at) = stripped_form at form

  pub stripped_form : ℕ → Shape → Tree
  stripped_form at (paren e) = stripped e
  stripped_form at (truth b) = node (truth b) at
  stripped_form at (number z) = node (number z) at
  stripped_form at (named nm) = node (named nm) at
  stripped_form at received = node received at
  stripped_form at (negative e) = node (negative e) at
  stripped_form at (positive e) = node (positive e) at
  stripped_form at (negation e) = node (negation e) at
  stripped_form at (absolute e) = node (absolute e) at
  stripped_form at (least a b) = node (least a b) at
  stripped_form at (greatest a b) = node (greatest a b) at
  stripped_form at (sum e es) = node (sum e es) at
  stripped_form at (product e es) = node (product e es) at
  stripped_form at (comparison a op b) = node (comparison a op b) at
  stripped_form at (all_of es) = node (all_of es) at
  stripped_form at (any_of es) = node (any_of es) at
  stripped_form at (implication a b) = node (implication a b) at
  stripped_form at (equivalence a b) = node (equivalence a b) at
  stripped_form at (choice bs e) = node (choice bs e) at

-- where the parentheses round it begin
abbrev pub parentheses_of : ℕ → Shape → Option ℕ
parentheses_of at (paren e) = Some at
parentheses_of at (truth b) = None
parentheses_of at (number z) = None
parentheses_of at (named nm) = None
parentheses_of at received = None
parentheses_of at (negative e) = None
parentheses_of at (positive e) = None
parentheses_of at (negation e) = None
parentheses_of at (absolute e) = None
parentheses_of at (least a b) = None
parentheses_of at (greatest a b) = None
parentheses_of at (sum e es) = None
parentheses_of at (product e es) = None
parentheses_of at (comparison a op b) = None
parentheses_of at (all_of es) = None
parentheses_of at (any_of es) = None
parentheses_of at (implication a b) = None
parentheses_of at (equivalence a b) = None
parentheses_of at (choice bs e) = None

abbrev pub parentheses_at : Tree → Option ℕ
parentheses_at (node form at) = parentheses_of at form
