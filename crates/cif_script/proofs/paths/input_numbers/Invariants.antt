use Rattle.std.proofs.Common.{◌≡◌, map, drop}
use Rattle.std.specs.Prelude.{option_map}
use Rattle.grammar.specs.Pieces.{Text}
use Rattle.cif_net.specs.declared.data.Input.{Input}
use Rattle.cif_script.specs.Numbers.{first_number, number_at}
use Rattle.cif_script.proofs.Finding.{either, found}
use Rattle.cif_script.proofs.paths.input_numbers.Given as goal

abbrev pub invariant-loop-number : goal.invariant-loop-number
invariant-loop-number l =
    (t : Text) → either (number_at l.all t) (option_map (λ y. y.0) (found t l.number (map (λ (e : Input). e.path) (drop l.number l.inputs)))) ≡ first_number (map (λ (e : Input). e.path) l.inputs) t
