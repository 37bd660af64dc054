use Rattle.cif_source.specs.Source.{source_of}
use Rattle.cif_types_targets.proofs.FaultLaws.{fault-due, none-own, none-twice}
use Rattle.cif_types_targets.proofs.checking.check_targets.Goals as goal

pub returns-in-Some-clause-refused : goal.returns-in-Some-clause-refused
returns-in-Some-clause-refused c = fault-due (source_of c.args.spec.now) c.args.scopes.now c.requires c.in_ok-fault.fault c.in-Some.error c.in_ok-fault.ensures c.in-Some.is

pub returns-in-None-clause-own : goal.returns-in-None-clause-own
returns-in-None-clause-own c = none-own (source_of c.args.spec.now) c.args.scopes.now c.requires c.in_ok-fault.fault c.in_ok-fault.ensures c.in-None.is

pub returns-in-None-clause-once : goal.returns-in-None-clause-once
returns-in-None-clause-once c = none-twice (source_of c.args.spec.now) c.args.scopes.now c.requires c.in_ok-fault.fault c.in_ok-fault.ensures c.in-None.is
