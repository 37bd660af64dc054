use Rattle.std.proofs.Common.{◌≤◌, length}
use Rattle.st_read.proofs.Marked.{Marked}
use Rattle.st_read.proofs.lexing.token_marks.Given as goal

abbrev pub invariant-loop-rest : goal.invariant-loop-rest
invariant-loop-rest l = record {
  found : Marked l.text l.rest l.marks;
  shorter : length l.rest ≤ length l.text;
}

abbrev pub decreases-loop-rest : goal.decreases-loop-rest
decreases-loop-rest l = length l.rest
