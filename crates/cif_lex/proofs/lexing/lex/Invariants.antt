use Rattle.std.proofs.Common.{◌≤◌, length}
use Rattle.cif_lex.proofs.StepLaws.{Taken}
use Rattle.cif_lex.proofs.lexing.lex.Given as goal

abbrev pub invariant-loop-rest : goal.invariant-loop-rest
invariant-loop-rest l = record {
  found : Taken l.text l.rest l.tokens.items;
  within : length l.rest ≤ length l.text;
}

abbrev pub decreases-loop-rest : goal.decreases-loop-rest
decreases-loop-rest l = length l.rest
