use Rattle.std.proofs.Common.{drop, ◌+◌, arith}
use Rattle.std.proofs.lemmas.Grind.{common_steps}
use Rattle.cif_lin.proofs.LimitLaws.{counted-more}
use Rattle.cif_lin.proofs.adding.counted.Goals as goal

pub loop-party-preserved : goal.loop-party-preserved
loop-party-preserved c =
    let more = counted-more c.loop-party.count c.times-count.result c.len.result c.party-item.result (drop (c.loop-party.party-index + 1) c.args.parties.now) in
    grind (arith, common_steps, more)
