use Rattle.cif_source.specs.Source.{source_of}
use Rattle.cif_types_kinds.specs.declared.kind.Kind.TheVariants as kind
use Rattle.cif_types_kinds.specs.declared.reading.Reading.{Reading}
use Rattle.cif_types.proofs.BodyLaws.{reading_there, written_there, one_further, all_fine}
use Rattle.cif_types.proofs.bodies.check_bodies.Goals as goal

pub check_body-requires-clause-reading : goal.check_body-requires-clause-reading
check_body-requires-clause-reading c =
    reading_there (record { spec = c.args.spec; scopes = c.args.scopes; table = c.args.table; body = c.in_ok-number.field-0; received = kind.None }) c.args.all.now c.loop-body.body
    c.requires.scopes c.requires.kinds c.requires.written c.loop-body-test.true c.in_ok-number.ensures.is

pub check_body-requires-clause-all : goal.check_body-requires-clause-all
check_body-requires-clause-all c = c.requires.written

pub check_body-requires-clause-written : goal.check_body-requires-clause-written
check_body-requires-clause-written c =
    let r : Reading = record { spec = c.args.spec; scopes = c.args.scopes; table = c.args.table; body = c.in_ok-number.field-0; received = kind.None } in
    written_there r c.args.all.now c.loop-body.body c.index-all-body.result
    (reading_there r c.args.all.now c.loop-body.body c.requires.scopes c.requires.kinds c.requires.written c.loop-body-test.true c.in_ok-number.ensures.is)
    c.requires.written c.loop-body-test.true c.index-all-body.is c.in_ok-number.ensures.is

pub loop-body-preserved : goal.loop-body-preserved
loop-body-preserved c = one_further (source_of c.args.spec.now) c.loop-body.body c.in_ok-number.field-0 c.loop-body.invariant c.in_ok-check_body.ensures.fine c.in_ok-number.ensures.is

pub returns-clause-fine : goal.returns-clause-fine
returns-clause-fine c = all_fine (source_of c.args.spec.now) c.args.all.now c.loop-body.body c.requires.written c.loop-body-test.false c.loop-body.invariant
