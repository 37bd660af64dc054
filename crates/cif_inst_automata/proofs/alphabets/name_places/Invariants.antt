use Rattle.std.proofs.Common.{◌≡◌, ◌++◌, drop}
use Rattle.cif_inst_automata.specs.Alphabets as alphabets
use Rattle.cif_inst_automata.proofs.alphabets.name_places.Given as goal

abbrev pub invariant-loop-name : goal.invariant-loop-name
invariant-loop-name l = l.all ++ alphabets.name_places (drop l.name-index l.names) ≡ alphabets.name_places l.names
