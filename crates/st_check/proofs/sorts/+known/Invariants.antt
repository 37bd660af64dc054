use Rattle.std.proofs.Common.{◌≡◌, drop}
use Rattle.st_ast.specs.Checks as checks
use Rattle.st_ast.specs.View.{view_exprs, view_factors, view_terms}
use Rattle.st_check.proofs.sorts.+known.Given as goal

abbrev pub invariant-knows_factors-loop-factor : goal.invariant-knows_factors-loop-factor
invariant-knows_factors-loop-factor l =
    checks.knows_factors l.scope (view_factors (drop l.factor-index l.factors)) ≡ checks.knows_factors l.scope (view_factors l.factors)

abbrev pub invariant-knows_terms-loop-term : goal.invariant-knows_terms-loop-term
invariant-knows_terms-loop-term l =
    checks.knows_terms l.scope (view_terms (drop l.term-index l.terms)) ≡ checks.knows_terms l.scope (view_terms l.terms)

abbrev pub invariant-knows_all-loop-operand : goal.invariant-knows_all-loop-operand
invariant-knows_all-loop-operand l =
    checks.knows_all l.scope (view_exprs (drop l.operand-index l.operands)) ≡ checks.knows_all l.scope (view_exprs l.operands)
