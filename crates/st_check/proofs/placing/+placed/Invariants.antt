use Rattle.std.proofs.Common.{◌≡◌, ◌++◌, ◌&&◌, map, drop}
use Rattle.st_ast.specs.Checks as checks
use Rattle.st_ast.specs.View.{view_exprs, view_factors, view_terms}
use Rattle.st_check.specs.PlacedView.{expr_view, factor_view, term_view}
use Rattle.st_check.proofs.Listed.{operand_placed, factor_placed, term_placed}
use Rattle.st_check.proofs.placing.+placed.Given as goal

abbrev pub invariant-place_joined-loop-operand : goal.invariant-place_joined-loop-operand
invariant-place_joined-loop-operand l = record {
  placed : map expr_view l.found.items ++ map (operand_placed l.scope) (drop l.operand-index l.operands) ≡ map (operand_placed l.scope) l.operands;
  sorted : (l.booleans && checks.all_booleans l.scope (view_exprs (drop l.operand-index l.operands))) ≡ checks.all_booleans l.scope (view_exprs l.operands);
}

abbrev pub invariant-place_factors-loop-factor : goal.invariant-place_factors-loop-factor
invariant-place_factors-loop-factor l = record {
  placed : map factor_view l.found.items ++ map (factor_placed l.scope) (drop l.factor-index l.factors) ≡ map (factor_placed l.scope) l.factors;
  sorted : (l.integers && checks.all_integer_factors l.scope (view_factors (drop l.factor-index l.factors))) ≡ checks.all_integer_factors l.scope (view_factors l.factors);
}

abbrev pub invariant-place_terms-loop-term : goal.invariant-place_terms-loop-term
invariant-place_terms-loop-term l = record {
  placed : map term_view l.found.items ++ map (term_placed l.scope) (drop l.term-index l.terms) ≡ map (term_placed l.scope) l.terms;
  sorted : (l.integers && checks.all_integers l.scope (view_terms (drop l.term-index l.terms))) ≡ checks.all_integers l.scope (view_terms l.terms);
}
