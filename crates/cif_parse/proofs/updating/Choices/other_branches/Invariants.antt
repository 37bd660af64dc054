use Rattle.std.proofs.Common.{◌≡◌, ◌-◌}
use Rattle.grammar.specs.Reader.{many_at, many_from}
use Rattle.grammar.specs.Loops.{after}
use Rattle.cif_lex.specs.declared.token.Word.TheVariants as w
use Rattle.cif_parse_expr.specs.TokenKinds.{sort}
use Rattle.cif_parse_expr.specs.Reading.{first_word}
use Rattle.cif_parse.specs.Reading.{updates_at, other_branch_at}
use Rattle.cif_parse.proofs.updating.Choices.other_branches.Given as goal

abbrev pub invariant-loop-turn : goal.invariant-loop-turn
invariant-loop-turn g l = after l.fn.found (many_at sort (first_word w.Elif) (other_branch_at l.self.text.now (updates_at l.self.text.now l.self.depth)) l.fn.tokens)
    ≡ after l.found (many_from sort (first_word w.Elif) (other_branch_at l.self.text.now (updates_at l.self.text.now l.self.depth)) (l._turn-end - l._turn) l.rest)
