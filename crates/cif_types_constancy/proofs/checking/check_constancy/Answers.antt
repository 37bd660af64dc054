use Rattle.cif_source.specs.Source.{source_of}
use Rattle.cif_types_constancy.proofs.ConstancyLaws.{due-at, none-due}
use Rattle.cif_types_constancy.proofs.checking.check_constancy.Goals as goal

pub returns-in-Some-clause-refused : goal.returns-in-Some-clause-refused
returns-in-Some-clause-refused c = due-at (source_of c.args.spec.now) c.args.scopes.now c.in_ok-unfit.unfit c.in-Some.at c.requires c.in_ok-unfit.ensures c.in-Some.is

pub returns-in-None-clause-constant : goal.returns-in-None-clause-constant
returns-in-None-clause-constant c = none-due (source_of c.args.spec.now) c.args.scopes.now c.in_ok-unfit.unfit c.requires c.in_ok-unfit.ensures c.in-None.is
