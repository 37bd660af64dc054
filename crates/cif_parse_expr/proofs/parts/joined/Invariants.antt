use Rattle.std.proofs.Common.{◌≡◌, ◌-◌, []}
use Rattle.grammar.specs.Reader.{many_from, many_at}
use Rattle.grammar.specs.Loops.{flat_after}
use Rattle.cif_parse_expr.specs.TokenKinds.{sort, codes_of}
use Rattle.cif_parse_expr.proofs.parts.joined.Given as goal

abbrev pub invariant-loop-turn : goal.invariant-loop-turn
invariant-loop-turn g l = flat_after [] (many_at sort (codes_of l.among) (g.P.Part.tree_at l.part l.text) l.fn.tokens)
    ≡ flat_after l.found (many_from sort (codes_of l.among) (g.P.Part.tree_at l.part l.text) (l._turn-end - l._turn) l.rest)
