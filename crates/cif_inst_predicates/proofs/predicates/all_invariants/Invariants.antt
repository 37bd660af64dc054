use Rattle.std.proofs.Common.{◌≡◌, ◌++◌, map, flat_map, drop}
use Rattle.cif_net.specs.View.{invariant_tree}
use Rattle.cif_inst_predicates.specs.Predicates.{stated_invariants}
use Rattle.cif_inst_predicates.specs.Views.{stated_tree}
use Rattle.cif_inst_predicates.proofs.predicates.all_invariants.Given as goal

abbrev pub invariant-loop-one : goal.invariant-loop-one
invariant-loop-one l = map invariant_tree l.all ++ flat_map (stated_invariants l.looking) (map stated_tree (drop l.one-index l.found)) ≡ flat_map (stated_invariants l.looking) (map stated_tree l.found)
