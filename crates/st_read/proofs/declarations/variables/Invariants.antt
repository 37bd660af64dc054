use Rattle.std.proofs.Common.{◌≡◌, ◌-◌, []}
use Rattle.grammar.specs.Reader.{many_at, many_from}
use Rattle.st_ast.specs.Grammar.{sort}
use Rattle.grammar.specs.Loops.{flat_after}
use Rattle.st_read.specs.Reading.{block_first, block_at}
use Rattle.st_read.proofs.declarations.variables.Given as goal

abbrev pub invariant-loop-turn : goal.invariant-loop-turn
invariant-loop-turn l = flat_after [] (many_at sort block_first block_at l.fn.tokens)
    ≡ flat_after l.found (many_from sort block_first block_at (l.most - l._turn) l.rest)
