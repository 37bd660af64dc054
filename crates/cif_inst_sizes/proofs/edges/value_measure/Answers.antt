use Rattle.cif_ast.specs.View.{view}
use Rattle.cif_inst_sizes.specs.declared.measuring.Measurer.{Measurer}
use Rattle.cif_inst_sizes.proofs.WeightLaws.{knows, value-told}
use Rattle.cif_inst_sizes.proofs.edges.value_measure.Goals as goal

pub expr-requires : goal.expr-requires
expr-requires c = knows _ (record { names = c.requires.names; weights = c.requires.weights })

pub returns : goal.returns
returns c =
    let m : Measurer = record { looking = c.args.looking; weights = c.args.weights; component = c.args.component } in
    value-told m (view c.args.value.now) c.expr.result c.expr.ensures
