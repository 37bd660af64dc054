-- The expression of a flat net that an expression of a source becomes: parentheses are gone, names are numbers, constants
-- are their values, and parameters are their arguments.
use Rattle.std.specs.Prelude.{ℕ, ℤ, pos, true, List, [], ◌∷◌}
use Rattle.cif_base.specs.declared.types.Ty.{Ty}
use Rattle.cif_base.specs.declared.types.Ty.TheVariants as ty
use Rattle.cif_ast.specs.Tree.{Tree, node, Shape, truth, number, named, received, paren, negative, positive, negation, absolute, least, greatest, sum, product, comparison, all_of, any_of, implication, equivalence, choice, Trees, no_trees, trees, Terms, no_terms, terms, Factors, no_factors, factors, Branches, no_branches, branches}
use Rattle.cif_ast.specs.declared.names.Name.{Name}
use Rattle.cif_ast.specs.declared.expressions.CmpOp.{CmpOp}
use Rattle.cif_ast.specs.declared.expressions.CmpOp.TheVariants as cmp
use Rattle.cif_ast.specs.declared.expressions.MulOp.{MulOp}
use Rattle.cif_ast.specs.declared.expressions.MulOp.TheVariants as mul
use Rattle.cif_net_expr.specs.Tree as net
use Rattle.cif_net_expr.specs.Tree.{NetExpr, net_expr, NetForm, n_truth, n_number, n_loc, n_var, n_input, n_alg, n_received, n_minus, n_plus, n_not, n_abs, n_min, n_max, n_sum, n_product, n_compare, n_and, n_or, n_implies, n_iff, n_if, NetExprs, no_net_exprs, net_exprs, NetTerms, no_net_terms, net_terms, NetFactors, no_net_factors, net_factors, NetBranches, no_net_branches, net_branches}
use Rattle.cif_net_model.specs.Exprs.{placed}
use Rattle.cif_source.specs.Source.{const_decl, alg_decl, input_decl, disc_decl}
use Rattle.cif_source.specs.Components.{Component, specification_of, declared, literal, location}
use Rattle.cif_source.specs.Lookup.{ScopeEntry, follow}
use Rattle.cif_source.specs.Objects.{algs, variables, inputs, number_in, automaton_number}
use Rattle.cif_source.specs.Value.{is_true, constant}
use Rattle.cif_inst_model.specs.Types.{net_type}

abbrev pub net_comparison : CmpOp → net.CmpOp
net_comparison cmp.Eq = net.eq
net_comparison cmp.Ne = net.ne
net_comparison cmp.Lt = net.lt
net_comparison cmp.Le = net.le
net_comparison cmp.Gt = net.gt
net_comparison cmp.Ge = net.ge

abbrev pub net_factor : MulOp → net.MulOp
net_factor mul.Times = net.times
net_factor mul.Div = net.divided
net_factor mul.Mod = net.modulo

-- several predicates as one conjunction, with the place of the first
abbrev pub conjunction : NetExprs → NetExpr
conjunction no_net_exprs = net_expr (n_truth true) 0
conjunction (net_exprs e no_net_exprs) = e
conjunction (net_exprs (net_expr f at) (net_exprs e es)) = net_expr (n_and (net_exprs (net_expr f at) (net_exprs e es))) at

-- ---- by what stands for names

-- the expression, where each name at a place has one; what stood in parentheses has the place of the outermost
abbrev mutual
  pub net_with : (Name → ℕ → NetExpr) → Tree → NetExpr
  net_with name (node form at) = net_form name at form

  pub net_form : (Name → ℕ → NetExpr) → ℕ → Shape → NetExpr
  net_form name at (truth b) = net_expr (n_truth b) at
  net_form name at (number z) = net_expr (n_number z) at
  net_form name at (named nm) = name nm at
  net_form name at received = net_expr n_received at
  net_form name at (paren e) = placed at (net_with name e)
  net_form name at (negative e) = net_expr (n_minus (net_with name e)) at
  net_form name at (positive e) = net_expr (n_plus (net_with name e)) at
  net_form name at (negation e) = net_expr (n_not (net_with name e)) at
  net_form name at (absolute e) = net_expr (n_abs (net_with name e)) at
  net_form name at (least a b) = net_expr (n_min (net_with name a) (net_with name b)) at
  net_form name at (greatest a b) = net_expr (n_max (net_with name a) (net_with name b)) at
  net_form name at (sum e es) = net_expr (n_sum (net_with name e) (net_terms_of name es)) at
  net_form name at (product e es) = net_expr (n_product (net_with name e) (net_factors_of name es)) at
  net_form name at (comparison a op b) = net_expr (n_compare (net_with name a) (net_comparison op) (net_with name b)) at
  net_form name at (all_of es) = net_expr (n_and (net_exprs_of name es)) at
  net_form name at (any_of es) = net_expr (n_or (net_exprs_of name es)) at
  net_form name at (implication a b) = net_expr (n_implies (net_with name a) (net_with name b)) at
  net_form name at (equivalence a b) = net_expr (n_iff (net_with name a) (net_with name b)) at
  net_form name at (choice bs e) = net_expr (n_if (net_branches_of name bs) (net_with name e)) at

  pub net_exprs_of : (Name → ℕ → NetExpr) → Trees → NetExprs
  net_exprs_of name no_trees = no_net_exprs
  net_exprs_of name (trees e es) = net_exprs (net_with name e) (net_exprs_of name es)

  pub net_terms_of : (Name → ℕ → NetExpr) → Terms → NetTerms
  net_terms_of name no_terms = no_net_terms
  net_terms_of name (terms minus e es) = net_terms minus (net_with name e) (net_terms_of name es)

  pub net_factors_of : (Name → ℕ → NetExpr) → Factors → NetFactors
  net_factors_of name no_factors = no_net_factors
  net_factors_of name (factors op e es) = net_factors (net_factor op) (net_with name e) (net_factors_of name es)

  pub net_branches_of : (Name → ℕ → NetExpr) → Branches → NetBranches
  net_branches_of name no_branches = no_net_branches
  net_branches_of name (branches cs e bs) = net_branches (conjunction (net_exprs_of name cs)) (net_with name e) (net_branches_of name bs)

-- ---- names

-- a boolean constant is true or false, and every other a number
abbrev pub net_constant : Ty → ℤ → NetForm
net_constant ty.Bool z = n_truth (is_true z)
net_constant _ z = n_number z

-- what is declared, by its number, or a constant's value
abbrev pub net_object : ScopeEntry → NetForm
net_object (c, declared (const_decl t n e)) = net_constant (net_type c t).type_of (constant c e)
net_object (c, declared (alg_decl t n e)) = n_alg (number_in (algs (specification_of c)) c n.text)
net_object (c, declared (disc_decl t n e)) = n_var (number_in (variables (specification_of c)) c n.text)
net_object (c, declared (input_decl t n)) = n_input (number_in (inputs (specification_of c)) c n.text)
net_object (c, literal k ls) = n_number (pos k)
net_object (c, location k) = n_loc (automaton_number (specification_of c) c) k
net_object _ = n_number (pos 0)

-- what a name in a component stands for; an argument of an `alg` parameter keeps its own place
abbrev pub net_name : Component → Name → ℕ → NetExpr
net_name c nm = follow (λ x at. net_expr (net_object x) at) (λ at. net_expr (n_number (pos 0)) at) (λ name g a at. net_with name a) c nm

-- the expression of a component
abbrev pub net_of : Component → Tree → NetExpr
net_of c e = net_with (net_name c) e

abbrev pub net_list : Component → List Tree → NetExprs
net_list c [] = no_net_exprs
net_list c (e ∷ es) = net_exprs (net_of c e) (net_list c es)

-- the guards of an edge; without any it is `true`, with the place given
abbrev pub net_guard : Component → ℕ → List Tree → NetExpr
net_guard c at [] = net_expr (n_truth true) at
net_guard c at (e ∷ es) = conjunction (net_list c (e ∷ es))
