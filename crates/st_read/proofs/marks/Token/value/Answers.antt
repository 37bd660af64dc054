use Rattle.std.proofs.Common.{◌≡◌, sym, subst}
use Rattle.st_ast.specs.Tokens.{Token, number_of}
use Rattle.st_ast.specs.declared.kinds.TokenKind.TheVariants.{Literal}
use Rattle.st_read.proofs.Marked.{literal_valued, literal_found, value_small}
use Rattle.st_read.proofs.marks.Token.value.Goals as goal

pub returns-in-Some-clause-of_literal : goal.returns-in-Some-clause-of_literal
returns-in-Some-clause-of_literal c = subst (λ (t : Token). t.kind ≡ Literal → c.in-Some.value ≡ number_of t.text) c.self.view_is
    (literal_valued c.self.inside.text.now c.rest_from.result.now c.split_number.result.0.now c.split_number.result.1.now c.self.inside.mark.at c.rest_from.ensures c.split_number.ensures
    c.in-Some.value (sym c.in-Some.ensures))

pub returns-in-Some-clause-small : goal.returns-in-Some-clause-small
returns-in-Some-clause-small c = value_small c.split_number.result.0.now c.in-Some.value (sym c.in-Some.ensures)

pub returns-in-None-clause-of_literal : goal.returns-in-None-clause-of_literal
returns-in-None-clause-of_literal c = subst (λ (t : Token). t.kind ≡ Literal → 0 ≡ number_of t.text) c.self.view_is
    (literal_found c.self.inside.text.now c.rest_from.result.now c.split_number.result.0.now c.split_number.result.1.now c.self.inside.mark.at c.rest_from.ensures c.split_number.ensures
    (sym c.in-None.ensures))
