use Rattle.cif_source.specs.Source.{source_of}
use Rattle.cif_types_equations.proofs.FaultLaws.{fault-due, none-due}
use Rattle.cif_types_equations.proofs.checking.check_equations.Goals as goal

pub returns-in-Some-clause-refused : goal.returns-in-Some-clause-refused
returns-in-Some-clause-refused c = fault-due (source_of c.args.spec.now) c.in_ok-fault.fault c.in-Some.error c.in_ok-fault.ensures c.in-Some.is

pub returns-in-None-clause-single : goal.returns-in-None-clause-single
returns-in-None-clause-single c = none-due (source_of c.args.spec.now) c.in_ok-fault.fault c.in_ok-fault.ensures c.in-None.is
