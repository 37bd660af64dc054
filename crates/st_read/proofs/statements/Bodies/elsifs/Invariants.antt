use Rattle.std.proofs.Common.{◌≡◌, ◌-◌, map}
use Rattle.grammar.specs.Reader.{many_at, many_from}
use Rattle.grammar.specs.Loops.{after}
use Rattle.st_ast.specs.declared.kinds.TokenKind.TheVariants as kinds
use Rattle.st_ast.specs.Grammar.{sort}
use Rattle.st_ast.specs.View.{view_branch}
use Rattle.st_read.specs.Reading.{first, statements_at, elsif_at}
use Rattle.st_read.proofs.statements.Bodies.elsifs.Given as goal

abbrev pub invariant-loop-turn : goal.invariant-loop-turn
invariant-loop-turn g l = after (map view_branch l.fn.found) (many_at sort (first kinds.Elsif) (elsif_at (statements_at l.self.depth)) l.fn.tokens)
    ≡ after (map view_branch l.found) (many_from sort (first kinds.Elsif) (elsif_at (statements_at l.self.depth)) (l.most - l._turn) l.rest)
