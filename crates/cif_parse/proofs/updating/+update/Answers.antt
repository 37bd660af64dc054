use Rattle.std.proofs.Common.{rules, subst, sym}
use Rattle.cif_parse_expr.specs.Gives.{Gives}
use Rattle.cif_parse.proofs.Depths.{choice_read}
use Rattle.cif_parse.proofs.updating.+update.Goals as goal

pub returns : goal.returns
returns t c =
    subst (λ read. Gives (λ x. (x.0, x.1.now)) c.choice.result read) (sym (choice_read c.args.text.now c.args.depth _ c.args.tokens.now (search rules) (search rules))) c.choice.ensures
