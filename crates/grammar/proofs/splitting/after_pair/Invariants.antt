use Rattle.std.proofs.Common.{◌≡◌, length}
use Rattle.grammar.specs.Pieces.{rest_after}
use Rattle.grammar.proofs.splitting.after_pair.Given as goal

abbrev pub invariant-loop-rest : goal.invariant-loop-rest
invariant-loop-rest l = rest_after l.fn.first l.fn.second l.fn.text ≡ rest_after l.fn.first l.fn.second l.rest

abbrev pub decreases-loop-rest : goal.decreases-loop-rest
decreases-loop-rest l = length l.rest
