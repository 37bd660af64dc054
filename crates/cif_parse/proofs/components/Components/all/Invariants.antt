use Rattle.std.proofs.Common.{◌≡◌, ◌-◌, []}
use Rattle.grammar.specs.Reader.{many_at, many_from}
use Rattle.grammar.specs.Loops.{flat_after}
use Rattle.cif_parse_expr.specs.TokenKinds.{sort}
use Rattle.cif_parse.specs.Reading.{item_first, item_at}
use Rattle.cif_parse.proofs.components.Components.all.Given as goal

abbrev pub invariant-loop-turn : goal.invariant-loop-turn
invariant-loop-turn g l = flat_after [] (many_at sort item_first (item_at l.self.text.now l.self.depth) l.fn.tokens)
    ≡ flat_after l.found (many_from sort item_first (item_at l.self.text.now l.self.depth) (l._turn-end - l._turn) l.rest)
