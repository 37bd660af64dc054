use Rattle.plc_back.proofs.TextLaws.{makes}
use Rattle.plc_back.proofs.laws.texts_make_the_scans.Goals as goal

pub returns : goal.returns
returns c = makes
