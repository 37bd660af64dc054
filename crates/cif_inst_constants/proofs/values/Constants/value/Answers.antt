use Rattle.std.proofs.Common.{◌∙◌}
use Rattle.cif_ast.specs.View.{view}
use Rattle.cif_inst_constants.specs.Named.{table_value}
use Rattle.cif_inst_constants.specs.Outcomes.{evaluated}
use Rattle.cif_inst_constants.proofs.ValueLaws.{value-is}
use Rattle.cif_inst_constants.proofs.values.Constants.value.Goals as goal

pub returns-clause-computed : goal.returns-clause-computed
returns-clause-computed c = c.evaluate.ensures ∙ (λ i. evaluated (table_value c.args.scopes.now (c.as_slice.ensures i) (c.as_slice-2.ensures i) c.args.body) (view c.args.expr.now))

pub returns-clause-constant : goal.returns-clause-constant
returns-clause-constant c = λ t d h listed own names.
    c.evaluate.ensures
    ∙ (λ i. evaluated (table_value c.args.scopes.now (c.as_slice.ensures i) (c.as_slice-2.ensures i) c.args.body) (view c.args.expr.now))
    ∙ value-is t c.args.scopes.now c.args.self.now.numbers c.args.self.now.values c.args.body d (view c.args.expr.now) h listed own names
