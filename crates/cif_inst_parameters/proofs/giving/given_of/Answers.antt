use Rattle.cif_inst_parameters.proofs.GivingLaws.{passed-given, nothing-given}
use Rattle.cif_inst_parameters.proofs.giving.given_of.Goals as goal

pub returns-in-Some : goal.returns-in-Some
returns-in-Some c = passed-given c.args.follower.now c.args.bodies c.args.component c.in-Some.passed c.passed_to.result c.passed_to.ensures c.in-Some.is c.arguments.result c.arguments.ensures

pub returns-in-None : goal.returns-in-None
returns-in-None c = nothing-given c.args.follower.now c.args.bodies c.args.component c.passed_to.result c.passed_to.ensures c.in-None.is c.new.result.items c.new.ensures.items
