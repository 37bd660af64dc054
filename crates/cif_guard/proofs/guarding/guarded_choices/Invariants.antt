use Rattle.std.proofs.Common.{◌≡◌, ◌++◌, map, take, drop}
use Rattle.cif_net.specs.View.{net_tree, choice_tree}
use Rattle.cif_guard.specs.Tests.{guarded_from}
use Rattle.cif_guard.proofs.guarding.guarded_choices.Given as goal

abbrev pub invariant-loop-choice : goal.invariant-loop-choice
invariant-loop-choice l = map choice_tree l.choice-items
    ≡ map (guarded_from (net_tree l.net) l.places) (take l.choice-index (map choice_tree l.initial.choice-items))
    ++ drop l.choice-index (map choice_tree l.initial.choice-items)
