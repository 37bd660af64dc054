use Rattle.std.proofs.Common.{◌≡◌, ◌++◌, map, drop, flat_map}
use Rattle.cif_net.specs.View.{choice_tree, net_tree}
use Rattle.plc_event_model.specs.Own.{choice_types}
use Rattle.plc_gen.proofs.faces.all_types.Given as goal

abbrev pub invariant-loop-choice : goal.invariant-loop-choice
invariant-loop-choice l =
    l.all ++ flat_map (choice_types (net_tree l.net)) (map choice_tree (drop l.choice-index l.choices)) ≡ flat_map (choice_types (net_tree l.net)) (map choice_tree l.choices)
