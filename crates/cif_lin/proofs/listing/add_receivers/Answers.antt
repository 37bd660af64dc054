use Rattle.std.proofs.Common.{map, flat_map, drop, get_or, ◌+◌, arith}
use Rattle.std.proofs.Math.Seq.{drop-cons}
use Rattle.std.proofs.lemmas.Grind.{common_steps}
use Rattle.cif_net.specs.View.{auto_tree, choice_tree, event_roles_tree}
use Rattle.cif_lin.specs.Cells as cells
use Rattle.cif_lin.specs.Limits.{limited}
use Rattle.cif_lin.proofs.LimitLaws.{spread-added, spread-stopped}
use Rattle.cif_lin.proofs.listing.add_receivers.Goals as goal

pub returns-then-not-branch : goal.returns-then-not-branch
returns-then-not-branch c =
    let f = cells.between (map auto_tree c.args.net.now.autos) c.args.event (event_roles_tree c.args.roles.now) c.args.sender in
    let xs = c.args.roles.now.receives in
    let k = c.loop-receiver.receiver-index in
    let d = drop-cons xs k 0 in
    let e = spread-stopped f (map choice_tree c.loop-receiver.all) (drop k xs) (drop (k + 1) xs) (get_or xs k 0) (limited (map choice_tree c.args.all.now) (flat_map f xs)) in
    grind (arith, common_steps, d, e)

pub loop-receiver-preserved : goal.loop-receiver-preserved
loop-receiver-preserved c =
    let f = cells.between (map auto_tree c.args.net.now.autos) c.args.event (event_roles_tree c.args.roles.now) c.args.sender in
    let xs = c.args.roles.now.receives in
    let k = c.loop-receiver.receiver-index in
    let d = drop-cons xs k 0 in
    let e = spread-added f (map choice_tree c.loop-receiver.all) (map choice_tree c.add_pair.new.all) (drop k xs) (drop (k + 1) xs) (get_or xs k 0) (limited (map choice_tree c.args.all.now) (flat_map f xs)) in
    grind (arith, common_steps, d, e)
