use Rattle.std.proofs.Common.{sym, ◌∙◌, ap, map}
use Rattle.std.proofs.lemmas.List.{drop_all}
use Rattle.cif_net_expr.specs.View.{view}
use Rattle.cif_net_model.specs.Interval.{range_of}
use Rattle.cif_alg_measure.specs.Meanings.{ranges_of}
use Rattle.cif_alg_order.specs.Ranged.{joined_all, bounds_or_zero, ExprFault}
use Rattle.cif_alg_order.proofs.RangeLaws.{all-joined, seen-member, fault-told}
use Rattle.cif_alg_order.proofs.ranging.range_of_all.Goals as goal

pub returns-in_err-interval-clause-fault : goal.returns-in_err-interval-clause-fault
returns-in_err-interval-clause-fault c =
    fault-told (ExprFault (ranges_of c.args.ranges.now) (map view c.args.all.now)) (λ e. e) c.from_residual.result c.in_err-interval.field-0.0 c.from_residual.ensures.1
    (view c.expr-item.result, seen-member view c.args.all.now c.loop-expr.expr-index c.expr-item.result c.loop-expr-test.true c.expr-item.is, c.in_err-interval.ensures.fault)

pub returns-clause-range : goal.returns-clause-range
returns-clause-range c =
    c.or_zero.ensures
    ∙ ap bounds_or_zero
    (sym (ap (λ xs. joined_all c.loop-expr.found (map (range_of (ranges_of c.args.ranges.now)) (map view xs))) (drop_all c.loop-expr.expr-index c.args.all.now c.loop-expr-test.false)) ∙ c.loop-expr.invariant)
    ∙ all-joined (map (range_of (ranges_of c.args.ranges.now)) (map view c.args.all.now))
