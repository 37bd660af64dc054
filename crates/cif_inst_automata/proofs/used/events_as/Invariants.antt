use Rattle.std.proofs.Common.{◌≡◌, ◌++◌, drop}
use Rattle.cif_net.specs.View.{role_of}
use Rattle.cif_inst_automata.specs.Alphabets as alphabets
use Rattle.cif_inst_automata.proofs.used.events_as.Given as goal

abbrev pub invariant-loop-one : goal.invariant-loop-one
invariant-loop-one l = l.all ++ alphabets.events_as (role_of l.role) (drop l.one-index l.used) ≡ alphabets.events_as (role_of l.role) l.used
