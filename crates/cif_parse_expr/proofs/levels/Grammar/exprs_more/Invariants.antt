use Rattle.std.proofs.Common.{◌≡◌, ◌-◌}
use Rattle.cif_lex.specs.declared.token.Mark.TheVariants as m
use Rattle.grammar.specs.Reader.{deep_from, deep_many}
use Rattle.grammar.specs.Loops.{deep_after}
use Rattle.cif_parse_expr.specs.TokenKinds.{sort}
use Rattle.cif_parse_expr.specs.Reading.{first_sign, next_at, whole_at}
use Rattle.cif_parse_expr.proofs.levels.Grammar.exprs_more.Given as goal

abbrev pub invariant-loop-turn : goal.invariant-loop-turn
invariant-loop-turn g l = deep_after l.fn.found l.fn.deep (deep_many sort (first_sign m.Comma) (next_at (whole_at l.self.text.now l.self.fuel)) l.fn.tokens)
    ≡ deep_after l.found l.deep (deep_from sort (first_sign m.Comma) (next_at (whole_at l.self.text.now l.self.fuel)) (l._turn-end - l._turn) l.rest)
