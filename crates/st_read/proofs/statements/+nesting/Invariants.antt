use Rattle.std.proofs.Common.{◌≡◌, ◌+◌, ◌*◌, ◌-◌, map}
use Rattle.grammar.specs.Reader.{many_at, many_from}
use Rattle.grammar.specs.Loops.{after}
use Rattle.st_ast.specs.Grammar.{sort}
use Rattle.st_ast.specs.View.{view_stmt}
use Rattle.st_read.specs.Reading.{statement_first, statement_at}
use Rattle.st_read.proofs.statements.+nesting.Given as goal

abbrev pub decreases-statement : goal.decreases-statement
decreases-statement l = 2 * l.depth

abbrev pub decreases-statements_within : goal.decreases-statements_within
decreases-statements_within l = 2 * l.depth + 1

abbrev pub invariant-statements_within-loop-turn : goal.invariant-statements_within-loop-turn
invariant-statements_within-loop-turn l = many_at sort statement_first (statement_at l.fn.depth) l.fn.tokens
    ≡ after (map view_stmt l.found) (many_from sort statement_first (statement_at l.fn.depth) (l.most - l._turn) l.rest)
