use Rattle.std.proofs.Common.{◌≡◌, ◌∙◌, take, rules, subst}
use Rattle.st_ast.specs.Tokens.{Token}
use Rattle.st_ast.specs.declared.kinds.TokenKind.TheVariants.{Name}
use Rattle.st_read.proofs.Marked.{name_spelled, name_taken}
use Rattle.st_read.proofs.marks.Token.name.Goals as goal

pub returns-then-length-rest : goal.returns-then-length-rest
returns-then-length-rest c = subst (λ (t : Token). t.kind ≡ Name → c.split_at.result.0.now ≡ t.text) c.self.view_is
    (λ e.
    let cut : c.split_at.result.0.now ≡ take c.self.inside.mark.length c.rest_from-rest.result.now = search rules in
    cut ∙ name_taken c.self.inside.text.now c.rest_from-rest.result.now c.self.inside.mark.at c.self.inside.mark.length c.rest_from-rest.ensures (search rules) e)

pub returns-else-self-lt65535 : goal.returns-else-self-lt65535
returns-else-self-lt65535 c = subst (λ (t : Token). t.kind ≡ Name → c.split_word.result.0.now ≡ t.text) c.self.view_is
    (name_spelled c.self.inside.text.now c.rest_from-rest.result.now c.split_word.result.0.now c.split_word.result.1.now c.self.inside.mark.at c.rest_from-rest.ensures c.split_word.ensures)
