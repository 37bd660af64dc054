use Rattle.std.proofs.Common.{◌≡◌, map, drop}
use Rattle.cif_net.specs.View.{choice_tree, net_tree}
use Rattle.plc_event_model.specs.Own.{tests_range}
use Rattle.plc_gen.proofs.faces.any_range_tested.Given as goal

abbrev pub invariant-loop-choice : goal.invariant-loop-choice
invariant-loop-choice l = tests_range (net_tree l.net) (map choice_tree (drop l.choice-index l.choices)) ≡ tests_range (net_tree l.net) (map choice_tree l.choices)
