use Rattle.cif_lex.proofs.TokenLaws.{refused_has_none}
use Rattle.cif_lex.proofs.laws.no_tokens_where_refused.Goals as goal

pub returns : goal.returns
returns c = refused_has_none
