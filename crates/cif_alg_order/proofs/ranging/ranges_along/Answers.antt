use Rattle.std.proofs.Common.{map, subst, get_or}
use Rattle.cif_net.specs.View.{alg_tree}
use Rattle.cif_net_model.specs.Unfolding.{at_or}
use Rattle.cif_alg_measure.specs.declared.error.IntervalErr.TheVariants.{Width}
use Rattle.cif_alg_order.specs.Ranged.{zero_bounds, with_table, stored_ranges, alg_bounds, DefinitionFault, FaultAlong}
use Rattle.cif_alg_order.proofs.FillLaws.{filled-next, number-in}
use Rattle.cif_alg_order.proofs.RangeLaws.{fault-told}
use Rattle.cif_alg_order.proofs.ranging.ranges_along.Goals as goal

pub returns-in_err-put_range-clause-fault : goal.returns-in_err-put_range-clause-fault
returns-in_err-put_range-clause-fault c =
    let f = c.in_err-put_range.ensures.fault in
    fault-told (FaultAlong (stored_ranges c.args.declared.now) (map alg_tree c.args.algs.now) c.args.order.now) Width c.from_residual-in_err-put_range.result c.in_err-put_range.field-0.0 c.from_residual-in_err-put_range.ensures.1 (
      c.loop-number.number-index,
      get_or c.args.order.now c.loop-number.number-index 0,
      f.0,
      number-in c.args.order.now c.loop-number.number-index c.loop-number-test.true,
      f.1,
      subst (λ t. DefinitionFault (with_table (stored_ranges c.args.declared.now) (at_or zero_bounds t)) f.0 c.in_err-put_range.field-0.0) c.loop-number.invariant f.2,
    )

pub loop-number-preserved : goal.loop-number-preserved
loop-number-preserved c =
    filled-next zero_bounds (alg_bounds (stored_ranges c.args.declared.now)) (map alg_tree c.args.algs.now) c.args.order.now c.loop-number.number-index c.loop-number.table c.put_range.new.table c.loop-number-test.true c.loop-number.invariant
    c.in_ok-put_range.ensures.table
