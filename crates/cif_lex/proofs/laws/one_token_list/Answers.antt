use Rattle.cif_lex.proofs.TokenLaws.{token_lists_agree}
use Rattle.cif_lex.proofs.laws.one_token_list.Goals as goal

pub returns : goal.returns
returns c = token_lists_agree
