use Rattle.cif_source.specs.Source.{source_of}
use Rattle.cif_resolve.proofs.SingleLaws.{fitting-are, duplicate-due}
use Rattle.cif_resolve.proofs.fitting.names_fit.Goals as goal

pub returns-in_ok-check_names-in-Ok-clause-scopes : goal.returns-in_ok-check_names-in-Ok-clause-scopes
returns-in_ok-check_names-in-Ok-clause-scopes c = fitting-are (source_of c.args.spec.now) c.in-Ok.scopes c.in-Ok.ensures.scopes c.in_ok-check_names-in-Ok.ensures.fit

pub returns-in-Err-clause-refused : goal.returns-in-Err-clause-refused
returns-in-Err-clause-refused c = duplicate-due (source_of c.args.spec.now) c.in-Err.error c.in-Err.ensures.twice
