use Rattle.std.proofs.Common.{◌≡◌, ◌++◌, map, drop, flat_map}
use Rattle.cif_net_model.specs.Exprs.{targets}
use Rattle.cif_net_model.specs.Listing.{NetChoice}
use Rattle.cif_net.specs.View.{choice_tree}
use Rattle.plc_event.proofs.targets.all_targets.Given as goal

abbrev pub invariant-loop-choice : goal.invariant-loop-choice
invariant-loop-choice l =
    l.all ++ flat_map (λ (c : NetChoice). targets c.writes) (map choice_tree (drop l.choice-index l.choices)) ≡ flat_map (λ (c : NetChoice). targets c.writes) (map choice_tree l.choices)
