use Rattle.std.proofs.Common.{◌≡◌, ◌-◌}
use Rattle.grammar.specs.Reader.{many_from, many_at}
use Rattle.grammar.specs.Loops.{after}
use Rattle.cif_parse_expr.specs.TokenKinds.{sort}
use Rattle.cif_parse_expr.specs.Reading.{first_sign, after_sign_at}
use Rattle.cif_parse_expr.proofs.parts.more.Given as goal

abbrev pub invariant-loop-turn : goal.invariant-loop-turn
invariant-loop-turn g l = after l.fn.found (many_at sort (first_sign l.mark) (after_sign_at l.mark (g.P.Part.tree_at l.part l.text)) l.fn.tokens)
    ≡ after l.found (many_from sort (first_sign l.mark) (after_sign_at l.mark (g.P.Part.tree_at l.part l.text)) (l._turn-end - l._turn) l.rest)
