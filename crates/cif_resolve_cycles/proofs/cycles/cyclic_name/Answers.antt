use Rattle.cif_source.specs.Source.{source_of}
use Rattle.cif_resolve_cycles.proofs.AnswerLaws.{definition-answered, type-answered}
use Rattle.cif_resolve_cycles.proofs.cycles.cyclic_name.Goals as goal

pub returns-in-Some : goal.returns-in-Some
returns-in-Some c = definition-answered (source_of c.args.spec.now) c.in_ok-at.field-0 c.in-Some.at c.in_ok-at.ensures c.in-Some.is

pub returns-in-None : goal.returns-in-None
returns-in-None c = type-answered (source_of c.args.spec.now) c.in_ok-at.field-0 c.cyclic_type.result c.in_ok-at.ensures c.in-None.is c.cyclic_type.ensures
