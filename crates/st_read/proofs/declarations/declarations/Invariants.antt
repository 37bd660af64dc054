use Rattle.std.proofs.Common.{◌≡◌, ◌-◌}
use Rattle.grammar.specs.Reader.{many_at, many_from}
use Rattle.grammar.specs.Loops.{after}
use Rattle.st_ast.specs.declared.kinds.TokenKind.TheVariants as kinds
use Rattle.st_ast.specs.Grammar.{sort}
use Rattle.st_read.specs.Reading.{first, declaration_at}
use Rattle.st_read.proofs.declarations.declarations.Given as goal

abbrev pub invariant-loop-turn : goal.invariant-loop-turn
invariant-loop-turn l = after l.fn.found (many_at sort (first kinds.Name) (declaration_at l.class) l.fn.tokens)
    ≡ after l.found (many_from sort (first kinds.Name) (declaration_at l.class) (l.most - l._turn) l.rest)
