use Rattle.std.proofs.Common.{◌≡◌, drop}
use Rattle.std.specs.Prelude.{find}
use Rattle.std.specs.List.{enumerate_from}
use Rattle.grammar.specs.Pieces.{same}
use Rattle.cif_script.proofs.values.literal_of.Given as goal

abbrev pub invariant-loop-place : goal.invariant-loop-place
invariant-loop-place l =
    find (λ x. same x.1 l.word) (enumerate_from l.place (drop l.place l.literals)) ≡ find (λ x. same x.1 l.word) (enumerate_from 0 l.literals)
