use Rattle.cif_source.specs.Source.{source_of}
use Rattle.cif_inst_constants.specs.Used.{used_bodies}
use Rattle.cif_inst_constants.proofs.UsedLaws.{bodies-marked}
use Rattle.cif_inst_constants.proofs.LeavesLaws.{range-refused, none-broken}
use Rattle.cif_inst_constants.proofs.keeping.check_constants.Goals as goal

pub returns-in-Some-clause-refused : goal.returns-in-Some-clause-refused
returns-in-Some-clause-refused c =
    range-refused (source_of c.args.spec.now) c.args.scopes.now (used_bodies c.args.scopes.now c.args.components.now)
    (bodies-marked (source_of c.args.spec.now) c.args.scopes.now c.args.components.now c.requires.scopes.numbers c.requires.components c.requires.constancy)
    c.in_ok-constants.constants.numbers c.in_ok-constants.constants.values c.in_ok-constants.ensures.values c.in_ok-check_bounds.ensures.bounded c.in_ok-fault.fault c.in-Some.at c.in_ok-fault.ensures c.in-Some.is

pub returns-in-None-clause-none : goal.returns-in-None-clause-none
returns-in-None-clause-none c =
    none-broken (source_of c.args.spec.now) c.args.scopes.now (used_bodies c.args.scopes.now c.args.components.now)
    (bodies-marked (source_of c.args.spec.now) c.args.scopes.now c.args.components.now c.requires.scopes.numbers c.requires.components c.requires.constancy)
    c.in_ok-constants.constants.numbers c.in_ok-constants.constants.values c.in_ok-constants.ensures.values c.in_ok-check_bounds.ensures.bounded c.in_ok-fault.fault c.in_ok-fault.ensures c.in-None.is
