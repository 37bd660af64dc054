use Rattle.st_read.proofs.CuttingLaws.{token_lists_agree}
use Rattle.st_read.proofs.token_lists.one_token_list.Goals as goal

pub returns : goal.returns
returns c = token_lists_agree
