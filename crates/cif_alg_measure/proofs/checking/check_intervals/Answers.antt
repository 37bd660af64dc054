use Rattle.cif_net_model.specs.Interval.{as_range}
use Rattle.cif_net.specs.View.{net_tree}
use Rattle.cif_alg_measure.proofs.IntervalLaws.{tables, tables-declared, declared-divide, declared-narrow, none-divides, none-wide, plain-all, acyclic, fault-due, fault-told}
use Rattle.cif_alg_measure.proofs.NameLaws.{evaluated-free}
use Rattle.cif_alg_measure.proofs.checking.check_intervals.Goals as goal

pub returns-clause-divides : goal.returns-clause-divides
returns-clause-divides c =
    declared-divide (net_tree c.args.net.now) (tables c.as_slice.result.now c.as_slice-2.result.now (as_range c.truths.result))
    (tables-declared (net_tree c.args.net.now) c.requires c.as_slice.result.now c.in_ok-declared.declared.vars c.as_slice-2.result.now c.in_ok-declared.declared.inputs (as_range c.truths.result) c.as_slice.ensures c.as_slice-2.ensures c.in_ok-declared.ensures.vars c.in_ok-declared.ensures.inputs)
    c.in_ok-check_widths.ensures.divides

pub returns-clause-narrow : goal.returns-clause-narrow
returns-clause-narrow c =
    declared-narrow (net_tree c.args.net.now) (tables c.as_slice.result.now c.as_slice-2.result.now (as_range c.truths.result))
    (tables-declared (net_tree c.args.net.now) c.requires c.as_slice.result.now c.in_ok-declared.declared.vars c.as_slice-2.result.now c.in_ok-declared.declared.inputs (as_range c.truths.result) c.as_slice.ensures c.as_slice-2.ensures c.in_ok-declared.ensures.vars c.in_ok-declared.ensures.inputs)
    c.in_ok-check_widths.ensures.narrow

pub returns-clause-plain : goal.returns-clause-plain
returns-clause-plain c = plain-all (net_tree c.args.net.now) (evaluated-free (net_tree c.args.net.now) c.requires (c.nets_are_nets.ensures c.args.net.now)) (returns-clause-divides c) (returns-clause-narrow c)

pub returns-clause-no_zero : goal.returns-clause-no_zero
returns-clause-no_zero c = none-divides (net_tree c.args.net.now) (returns-clause-divides c)

pub returns-clause-fit : goal.returns-clause-fit
returns-clause-fit c = none-wide (net_tree c.args.net.now) (returns-clause-narrow c)

pub returns-in_err-check_widths-clause-refused : goal.returns-in_err-check_widths-clause-refused
returns-in_err-check_widths-clause-refused c =
    fault-told (net_tree c.args.net.now) c.from_residual-in_err-check_widths.result c.in_err-check_widths.field-0.0 c.from_residual-in_err-check_widths.ensures.1
    (fault-due (net_tree c.args.net.now) (tables c.as_slice.result.now c.as_slice-2.result.now (as_range c.truths.result))
    (tables-declared (net_tree c.args.net.now) c.requires c.as_slice.result.now c.in_ok-declared.declared.vars c.as_slice-2.result.now c.in_ok-declared.declared.inputs (as_range c.truths.result) c.as_slice.ensures c.as_slice-2.ensures c.in_ok-declared.ensures.vars c.in_ok-declared.ensures.inputs)
    c.in_err-check_widths.field-0.0 (acyclic (net_tree c.args.net.now) c.requires) c.in_err-check_widths.ensures.fault)
