use Rattle.std.proofs.Common.{map, drop, ◌+◌, arith}
use Rattle.std.proofs.Math.Seq.{drop-cons}
use Rattle.std.proofs.lemmas.Grind.{common_steps}
use Rattle.cif_net.specs.View.{net_tree, choice_tree, event_roles_tree}
use Rattle.cif_lin.specs.Cells.{choices_from}
use Rattle.cif_lin.specs.Limits.{limited}
use Rattle.cif_lin.proofs.LimitLaws.{events-added, events-stopped}
use Rattle.cif_lin.proofs.listing.add_events.Goals as goal

pub returns-then-not-branch : goal.returns-then-not-branch
returns-then-not-branch c =
    let n = net_tree c.args.net.now in
    let xs = c.args.roles.now in
    let k = c.loop-event.event in
    let x = c.index-roles-event.result in
    let d = drop-cons xs k x in
    let e = events-stopped n k (map choice_tree c.loop-event.all) (drop k xs) (drop (k + 1) xs) x (limited (map choice_tree c.args.all.now) (choices_from n 0 (map event_roles_tree xs))) in
    grind (arith, common_steps, d, e)

pub loop-event-preserved : goal.loop-event-preserved
loop-event-preserved c =
    let n = net_tree c.args.net.now in
    let xs = c.args.roles.now in
    let k = c.loop-event.event in
    let x = c.index-roles-event.result in
    let d = drop-cons xs k x in
    let e = events-added n k (map choice_tree c.loop-event.all) (map choice_tree c.add_event.new.all) (drop k xs) (drop (k + 1) xs) x (limited (map choice_tree c.args.all.now) (choices_from n 0 (map event_roles_tree xs))) in
    grind (arith, common_steps, d, e)
