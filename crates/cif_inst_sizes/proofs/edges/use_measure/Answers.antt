use Rattle.std.proofs.Common.{rules, ◌≡◌, Some, ◌∙◌, ap}
use Rattle.cif_ast.specs.View.{view}
use Rattle.cif_source.specs.Source.{use_tree}
use Rattle.cif_inst_model.specs.Flat.{sent_tree}
use Rattle.cif_alg_measure.specs.Counted.{beside_stopped}
use Rattle.cif_inst_names.specs.Looking.{component_at}
use Rattle.cif_inst_sizes.specs.Weights.{alg_by}
use Rattle.cif_inst_sizes.proofs.CountedLaws.{use-measured}
use Rattle.cif_inst_sizes.proofs.edges.use_measure.Goals as goal

pub returns-in_ok-sent-in-Send-Some : goal.returns-in_ok-sent-in-Send-Some
returns-in_ok-sent-in-Send-Some c e without =
    let is : sent_tree (use_tree c.args.event_use.now).role ≡ Some (view c.in-Send-Some.value) = search rules in
    c.beside.ensures
    ∙ ap (beside_stopped c.args.shared) c.in_ok-sent-in-Send-Some.ensures
    ∙ use-measured (alg_by c.args.looking.now c.args.weights.now) (component_at c.args.looking.now c.args.component) e (use_tree c.args.event_use.now) c.args.shared without (Some (view c.in-Send-Some.value)) is

pub returns-in-Send-None : goal.returns-in-Send-None
returns-in-Send-None c e without = without (use_tree c.args.event_use.now) (search rules)

pub returns-in-Send-None-2 : goal.returns-in-Send-None-2
returns-in-Send-None-2 c e without = without (use_tree c.args.event_use.now) (search rules)

pub returns-in-Send-None-3 : goal.returns-in-Send-None-3
returns-in-Send-None-3 c e without = without (use_tree c.args.event_use.now) (search rules)
