use Rattle.std.proofs.Common.{◌≡◌, map, drop}
use Rattle.std.specs.List.{list_all}
use Rattle.cif_net.specs.View.{choice_tree, net_tree}
use Rattle.plc_event_model.specs.Events.{is_bare}
use Rattle.plc_gen.proofs.bare.are_bare.Given as goal

abbrev pub invariant-loop-choice : goal.invariant-loop-choice
invariant-loop-choice l = list_all (is_bare (net_tree l.net)) (map choice_tree (drop l.choice-index l.choices)) ≡ list_all (is_bare (net_tree l.net)) (map choice_tree l.choices)
