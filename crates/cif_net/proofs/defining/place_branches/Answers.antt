use Rattle.std.proofs.Common.{arith}
use Rattle.std.proofs.lemmas.Grind.{common_steps}
use Rattle.cif_net.proofs.PlaceLaws.{place-added}
use Rattle.cif_net.proofs.defining.place_branches.Goals as goal

pub loop-value-preserved : goal.loop-value-preserved
loop-value-preserved c = record {
  made =
      place-added c.args.auto c.loop-value.place c.loop-value.all c.push.new.self c.loop-value.yielded c.in-Some.value c.branch_at.result c.loop-value.invariant.count c.loop-value.invariant.made
      c.branch_at.ensures c.in_ok-push.ensures.ok;
  count = grind (arith, common_steps);
}
