use Rattle.cif_net_expr.specs.View.{view}
use Rattle.cif_alg_measure.specs.Meanings.{ranges_of}
use Rattle.cif_alg_measure.proofs.CheckedLaws.{range-told, divides-told, narrow-told, fault-told}
use Rattle.cif_alg_measure.proofs.intervals.interval.Goals as goal

pub returns-clause-range : goal.returns-clause-range
returns-clause-range c = range-told (ranges_of c.args.ranges.now) (view c.args.expr.now) c.interval_of.result c.interval_of.ensures

pub returns-clause-divides : goal.returns-clause-divides
returns-clause-divides c = divides-told (ranges_of c.args.ranges.now) (view c.args.expr.now) c.interval_of.result c.interval_of.ensures

pub returns-clause-narrow : goal.returns-clause-narrow
returns-clause-narrow c = narrow-told (ranges_of c.args.ranges.now) (view c.args.expr.now) c.interval_of.result c.interval_of.ensures

pub returns-clause-fault : goal.returns-clause-fault
returns-clause-fault c = fault-told (ranges_of c.args.ranges.now) (view c.args.expr.now) c.interval_of.result c.interval_of.ensures
