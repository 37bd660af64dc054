use Rattle.std.proofs.Common.{◌≡◌, map, drop}
use Rattle.cif_net.specs.declared.events.Event.{Event}
use Rattle.cif_script.proofs.Finding.{found}
use Rattle.cif_why_command.proofs.explaining.number_of_path.Given as goal

abbrev pub invariant-loop-number : goal.invariant-loop-number
invariant-loop-number l =
    found l.path l.number (map (λ (e : Event). e.path) (drop l.number l.events)) ≡ found l.path 0 (map (λ (e : Event). e.path) l.events)
