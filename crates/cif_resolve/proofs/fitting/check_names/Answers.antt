use Rattle.cif_source.specs.Source.{source_of}
use Rattle.cif_resolve.proofs.AnswerLaws.{checked-due, checked-fit}
use Rattle.cif_resolve.proofs.fitting.check_names.Goals as goal

pub returns-in-Some-clause-refused : goal.returns-in-Some-clause-refused
returns-in-Some-clause-refused c = checked-due (source_of c.args.spec.now) c.args.scopes.now c.in_ok-fault.fault c.in-Some.error c.requires c.in_ok-fault.ensures c.in-Some.is

pub returns-in-None-clause-fit : goal.returns-in-None-clause-fit
returns-in-None-clause-fit c = checked-fit (source_of c.args.spec.now) c.args.scopes.now c.in_ok-fault.fault c.requires c.in_ok-fault.ensures c.in-None.is
