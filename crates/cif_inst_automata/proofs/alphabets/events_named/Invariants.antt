use Rattle.std.proofs.Common.{◌≡◌, ◌++◌, drop}
use Rattle.cif_inst_automata.specs.Alphabets as alphabets
use Rattle.cif_inst_automata.proofs.alphabets.events_named.Given as goal

abbrev pub invariant-loop-name : goal.invariant-loop-name
invariant-loop-name l = l.all ++ alphabets.events_named l.looking l.component (drop l.name-index l.names) ≡ alphabets.events_named l.looking l.component l.names
