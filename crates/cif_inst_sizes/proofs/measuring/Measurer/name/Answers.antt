use Rattle.cif_inst_sizes.proofs.WeightLaws.{ready, one-told, measure-told}
use Rattle.cif_inst_sizes.proofs.measuring.Measurer.name.Goals as goal

pub definition-requires : goal.definition-requires
definition-requires c = record { names = (ready c.args.self.now c.requires).names }

pub returns-in-None : goal.returns-in-None
returns-in-None c = one-told c.args.self.now c.requires c.args.name.now c.in_ok-definition.field-0 c.in-None.is c.in_ok-definition.ensures c.one.result c.one.ensures

pub returns-in-Some : goal.returns-in-Some
returns-in-Some c = measure-told c.args.self.now c.requires c.args.name.now c.in_ok-definition.field-0 c.in-Some.number c.in-Some.is c.in_ok-definition.ensures c.measure.result c.measure.ensures
