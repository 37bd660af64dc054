use Rattle.std.proofs.Common.{◌≡◌, length}
use Rattle.st_ast.specs.Tokens.{is_identifier}
use Rattle.st_read.proofs.words.is_identifier.Given as goal

abbrev pub invariant-loop-last : goal.invariant-loop-last
invariant-loop-last l = is_identifier l.word ≡ is_identifier l.rest

abbrev pub decreases-loop-last : goal.decreases-loop-last
decreases-loop-last l = length l.rest
