use Rattle.std.proofs.Common.{◌≡◌, take}
use Rattle.cif_net_expr.proofs.+copy.Given as goal

abbrev pub invariant-copying::copy_branches-loop-branch : goal.invariant-copying::copy_branches-loop-branch
invariant-copying::copy_branches-loop-branch l = l.copies ≡ take l.branch-index l.all

abbrev pub invariant-copying::copy_exprs-loop-expr : goal.invariant-copying::copy_exprs-loop-expr
invariant-copying::copy_exprs-loop-expr l = l.copies ≡ take l.expr-index l.all

abbrev pub invariant-copying::copy_factors-loop-factor : goal.invariant-copying::copy_factors-loop-factor
invariant-copying::copy_factors-loop-factor l = l.copies ≡ take l.factor-index l.all

abbrev pub invariant-copying::copy_terms-loop-term : goal.invariant-copying::copy_terms-loop-term
invariant-copying::copy_terms-loop-term l = l.copies ≡ take l.term-index l.all
