use Rattle.cif_inst_laws.proofs.NestingLaws.{shallow-nets}
use Rattle.cif_inst_laws.proofs.nesting.shallow_trees_have_shallow_nets.Goals as goal

pub returns : goal.returns
returns c = shallow-nets
