use Rattle.cif_inst_automata.proofs.AutoLaws.{name_pushed}
use Rattle.cif_inst_automata.proofs.autos.location_names.Goals as goal

pub loop-loc-preserved : goal.loop-loc-preserved
loop-loc-preserved c =
    name_pushed c.args.locs.now c.loop-loc.loc-index c.loc-item.result c.loop-loc.names c.push.new.self c.in_ok-name_of.field-0 c.loop-loc-test.true c.loc-item.is c.in_ok-push.ensures.ok c.in_ok-name_of.ensures c.loop-loc.invariant
