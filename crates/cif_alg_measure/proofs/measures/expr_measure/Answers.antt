use Rattle.std.proofs.Common.{◌∙◌}
use Rattle.cif_net_expr.specs.View.{view}
use Rattle.cif_alg_measure.specs.Meanings.{table_measure}
use Rattle.cif_alg_measure.proofs.CountedLaws.{counted-is, stopped-alike}
use Rattle.cif_alg_measure.proofs.measures.expr_measure.Goals as goal

pub returns-clause-value : goal.returns-clause-value
returns-clause-value c = c.measure_of.ensures ∙ counted-is (table_measure c.args.algs.now) (view c.args.expr.now)

pub returns-clause-whole : goal.returns-clause-whole
returns-clause-whole c alg h = c.measure_of.ensures ∙ counted-is (table_measure c.args.algs.now) (view c.args.expr.now) ∙ stopped-alike (table_measure c.args.algs.now) alg (view c.args.expr.now) h
