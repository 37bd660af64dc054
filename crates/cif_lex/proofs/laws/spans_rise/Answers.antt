use Rattle.cif_lex.proofs.TokenLaws.{spans_rise_in}
use Rattle.cif_lex.proofs.laws.spans_rise.Goals as goal

pub returns : goal.returns
returns c = spans_rise_in
