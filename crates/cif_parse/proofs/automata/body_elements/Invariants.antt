use Rattle.std.proofs.Common.{◌≡◌, ◌-◌}
use Rattle.grammar.specs.Reader.{many_from, many_at}
use Rattle.grammar.specs.Loops.{after}
use Rattle.cif_parse_expr.specs.TokenKinds.{sort}
use Rattle.cif_parse.specs.Reading.{body_element_first, body_element_at}
use Rattle.cif_parse.proofs.automata.body_elements.Given as goal

abbrev pub invariant-loop-turn : goal.invariant-loop-turn
invariant-loop-turn l = many_at sort body_element_first (body_element_at l.text) l.fn.tokens
    ≡ after l.found (many_from sort body_element_first (body_element_at l.text) (l._turn-end - l._turn) l.rest)
