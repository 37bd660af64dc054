use Rattle.std.proofs.Common.{◌≡◌, ◌+◌, map, drop}
use Rattle.cif_net.specs.View.{choice_tree}
use Rattle.plc_gen.specs.Order.{leading}
use Rattle.plc_gen.proofs.parts.count_of.Given as goal

abbrev pub invariant-loop-at : goal.invariant-loop-at
invariant-loop-at l = l.at + leading l.event (map choice_tree (drop l.at l.choices)) ≡ leading l.event (map choice_tree l.choices)
