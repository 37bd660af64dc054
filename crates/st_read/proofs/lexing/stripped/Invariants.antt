use Rattle.std.proofs.Common.{◌≡◌, length}
use Rattle.grammar.specs.Pieces.{strip}
use Rattle.st_read.proofs.lexing.stripped.Given as goal

abbrev pub invariant-loop-left : goal.invariant-loop-left
invariant-loop-left l = strip l.sign l.text ≡ strip l.left l.right

abbrev pub decreases-loop-left : goal.decreases-loop-left
decreases-loop-left l = length l.left
