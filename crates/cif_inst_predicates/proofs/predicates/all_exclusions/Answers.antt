use Rattle.cif_inst_paths.proofs.LoopLaws.{listed_at}
use Rattle.cif_inst_predicates.specs.Views.{stated_tree}
use Rattle.cif_inst_predicates.proofs.predicates.all_exclusions.Goals as goal

pub add_exclusions-requires-clause-component : goal.add_exclusions-requires-clause-component
add_exclusions-requires-clause-component c =
    c.requires.below (stated_tree c.one-item.result) (listed_at stated_tree c.args.found.now c.loop-one.one-index c.one-item.result c.loop-one-test.true c.one-item.is)
