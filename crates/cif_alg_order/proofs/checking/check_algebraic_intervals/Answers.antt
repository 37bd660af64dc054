use Rattle.std.proofs.Common.{refl, ◌∙◌, ap, map}
use Rattle.cif_net.specs.View.{net_tree, alg_tree}
use Rattle.cif_alg_measure.specs.Meanings.{ranges_of}
use Rattle.cif_alg_measure.specs.Rules.{due}
use Rattle.cif_alg_measure.specs.declared.error.IntervalErr.TheVariants.{Width}
use Rattle.cif_alg_measure.proofs.IntervalLaws.{declared-divide, declared-narrow, none-divides, none-wide, fault-due}
use Rattle.cif_alg_order.specs.Ranged.{stored_ranges}
use Rattle.cif_alg_order.proofs.GraphLaws.{order-acyclic}
use Rattle.cif_alg_order.proofs.RangeLaws.{fault-told}
use Rattle.cif_alg_order.proofs.TableLaws.{over-declared, fault-along}
use Rattle.cif_alg_order.proofs.checking.check_algebraic_intervals.Goals as goal

pub returns-in_err-table-clause-refused : goal.returns-in_err-table-clause-refused
returns-in_err-table-clause-refused c =
    fault-told (due (net_tree c.args.net.now)) (λ e. e) c.from_residual-in_err-table.result c.in_err-table.field-0.0 c.from_residual-in_err-table.ensures.1
    (fault-along (net_tree c.args.net.now) (c.nets_are_nets.ensures c.args.net.now) c.args.order.now c.requires (stored_ranges c.in_ok-declared.declared) c.in_ok-declared.ensures.vars c.in_ok-declared.ensures.inputs refl
    (map alg_tree c.as_slice.result.now) (ap (map alg_tree) c.as_slice.ensures) c.in_err-table.field-0.0 c.in_err-table.ensures.fault)

pub returns-in_err-check_widths-clause-refused : goal.returns-in_err-check_widths-clause-refused
returns-in_err-check_widths-clause-refused c =
    fault-told (due (net_tree c.args.net.now)) Width c.from_residual-in_err-check_widths.result c.in_err-check_widths.field-0.0 c.from_residual-in_err-check_widths.ensures.1
    (fault-due (net_tree c.args.net.now) (ranges_of c.ranges_with.result)
    (over-declared (net_tree c.args.net.now) (c.nets_are_nets.ensures c.args.net.now) c.args.order.now c.requires (stored_ranges c.in_ok-declared.declared) c.in_ok-declared.ensures.vars c.in_ok-declared.ensures.inputs refl
    (ranges_of c.ranges_with.result) c.as_slice-2.result.now (map alg_tree c.as_slice.result.now) c.ranges_with.ensures (c.as_slice-2.ensures ∙ c.in_ok-table.ensures.table) (ap (map alg_tree) c.as_slice.ensures))
    c.in_err-check_widths.field-0.0 (order-acyclic (net_tree c.args.net.now) c.args.order.now c.requires) c.in_err-check_widths.ensures.fault)

pub returns-clause-divides : goal.returns-clause-divides
returns-clause-divides c =
    declared-divide (net_tree c.args.net.now) (ranges_of c.ranges_with.result)
    (over-declared (net_tree c.args.net.now) (c.nets_are_nets.ensures c.args.net.now) c.args.order.now c.requires (stored_ranges c.in_ok-declared.declared) c.in_ok-declared.ensures.vars c.in_ok-declared.ensures.inputs refl
    (ranges_of c.ranges_with.result) c.as_slice-2.result.now (map alg_tree c.as_slice.result.now) c.ranges_with.ensures (c.as_slice-2.ensures ∙ c.in_ok-table.ensures.table) (ap (map alg_tree) c.as_slice.ensures))
    c.in_ok-check_widths.ensures.divides

pub returns-clause-narrow : goal.returns-clause-narrow
returns-clause-narrow c =
    declared-narrow (net_tree c.args.net.now) (ranges_of c.ranges_with.result)
    (over-declared (net_tree c.args.net.now) (c.nets_are_nets.ensures c.args.net.now) c.args.order.now c.requires (stored_ranges c.in_ok-declared.declared) c.in_ok-declared.ensures.vars c.in_ok-declared.ensures.inputs refl
    (ranges_of c.ranges_with.result) c.as_slice-2.result.now (map alg_tree c.as_slice.result.now) c.ranges_with.ensures (c.as_slice-2.ensures ∙ c.in_ok-table.ensures.table) (ap (map alg_tree) c.as_slice.ensures))
    c.in_ok-check_widths.ensures.narrow

pub returns-clause-no_zero : goal.returns-clause-no_zero
returns-clause-no_zero c = none-divides (net_tree c.args.net.now) (returns-clause-divides c)

pub returns-clause-fit : goal.returns-clause-fit
returns-clause-fit c = none-wide (net_tree c.args.net.now) (returns-clause-narrow c)
