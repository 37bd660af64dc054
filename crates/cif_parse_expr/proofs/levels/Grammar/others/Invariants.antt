use Rattle.std.proofs.Common.{◌≡◌, ◌-◌}
use Rattle.cif_lex.specs.declared.token.Word.TheVariants as w
use Rattle.grammar.specs.Reader.{deep_from, deep_many}
use Rattle.grammar.specs.Loops.{deep_after}
use Rattle.cif_parse_expr.specs.TokenKinds.{sort}
use Rattle.cif_parse_expr.specs.Reading.{first_word, other_at, whole_at}
use Rattle.cif_parse_expr.proofs.levels.Grammar.others.Given as goal

abbrev pub invariant-loop-turn : goal.invariant-loop-turn
invariant-loop-turn g l = deep_after l.fn.found l.fn.deep (deep_many sort (first_word w.Elif) (other_at (whole_at l.self.text.now l.self.fuel)) l.fn.tokens)
    ≡ deep_after l.found l.deep (deep_from sort (first_word w.Elif) (other_at (whole_at l.self.text.now l.self.fuel)) (l._turn-end - l._turn) l.rest)
