use Rattle.plc_gen_laws.proofs.Tried.{all-tried}
use Rattle.plc_gen_laws.proofs.trying.net_parts_are_tried.Goals as goal

pub returns : goal.returns
returns c = all-tried
