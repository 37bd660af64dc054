use Rattle.std.proofs.Common.{◌≡◌, ◌++◌, drop, map}
use Rattle.cif_net.specs.View.{invariant_tree}
use Rattle.cif_sim.specs.Names.{name_read}
use Rattle.cif_sim.specs.Readers.{predicate_names}
use Rattle.cif_sim.proofs.readers.names_of_invariants.Given as goal

abbrev pub invariant-loop-invariant : goal.invariant-loop-invariant
invariant-loop-invariant l = map name_read l.found ++ predicate_names (map invariant_tree (drop l.invariant-index l.invariants)) ≡ predicate_names (map invariant_tree l.invariants)
