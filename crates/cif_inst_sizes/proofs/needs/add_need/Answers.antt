use Rattle.std.proofs.Common.{map, subst}
use Rattle.cif_inst_parameters.specs.Given.{given_items}
use Rattle.cif_inst_sizes.specs.Naming.{AreArguments, Resolves}
use Rattle.cif_inst_sizes.specs.Weights.{source_by, home}
use Rattle.cif_inst_sizes.proofs.GrowLaws.{free-needed, push-needed, push-more}
use Rattle.cif_inst_sizes.proofs.needs.add_need.Goals as goal

pub returns-in-None-clause-needed : goal.returns-in-None-clause-needed
returns-in-None-clause-needed c = λ all are.
    let m = c.args.measurer.now in
    free-needed (source_by m) m.weights.now.count all (home m) c.args.name.now c.args.needs.now
    (subst (Resolves (source_by m) m.weights.now.count all (home m) c.args.name.now) c.in-None.is (c.in_ok-definition.ensures all are))

pub returns-else-number-total-clause-needed : goal.returns-else-number-total-clause-needed
returns-else-number-total-clause-needed c =
    let m = c.args.measurer.now in
    push-needed c.args.needs.now c.push.new.self c.in-Some.number (source_by m) m.weights.now.count (home m) c.args.name.now (AreArguments (map given_items m.looking.now.given.now) m.weights.now.firsts) c.push.result
    (λ all are. subst (Resolves (source_by m) m.weights.now.count all (home m) c.args.name.now) c.in-Some.is (c.in_ok-definition.ensures all are)) c.push.ensures.ok

pub returns-else-number-total-clause-more : goal.returns-else-number-total-clause-more
returns-else-number-total-clause-more c = push-more c.args.needs.now c.push.new.self c.in-Some.number c.args.total c.push.result c.if-number-total.false c.push.ensures.ok
