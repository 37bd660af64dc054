use Rattle.std.proofs.Common.{map, flat_map, drop, get_or, ◌+◌, arith}
use Rattle.std.proofs.Math.Seq.{drop-cons}
use Rattle.std.proofs.lemmas.Grind.{common_steps}
use Rattle.cif_net.specs.View.{auto_tree, choice_tree, event_roles_tree}
use Rattle.cif_lin.specs.Cells as cells
use Rattle.cif_lin.specs.Limits.{limited}
use Rattle.cif_lin.proofs.LimitLaws.{spread-added, spread-stopped}
use Rattle.cif_lin.proofs.listing.add_senders.Goals as goal

pub returns-then-not-branch : goal.returns-then-not-branch
returns-then-not-branch c =
    let f = cells.sent_to (map auto_tree c.args.net.now.autos) c.args.event (event_roles_tree c.args.roles.now) in
    let xs = c.args.roles.now.sends in
    let k = c.loop-sender.sender-index in
    let d = drop-cons xs k 0 in
    let e = spread-stopped f (map choice_tree c.loop-sender.all) (drop k xs) (drop (k + 1) xs) (get_or xs k 0) (limited (map choice_tree c.args.all.now) (flat_map f xs)) in
    grind (arith, common_steps, d, e)

pub loop-sender-preserved : goal.loop-sender-preserved
loop-sender-preserved c =
    let f = cells.sent_to (map auto_tree c.args.net.now.autos) c.args.event (event_roles_tree c.args.roles.now) in
    let xs = c.args.roles.now.sends in
    let k = c.loop-sender.sender-index in
    let d = drop-cons xs k 0 in
    let e = spread-added f (map choice_tree c.loop-sender.all) (map choice_tree c.add_receivers.new.all) (drop k xs) (drop (k + 1) xs) (get_or xs k 0) (limited (map choice_tree c.args.all.now) (flat_map f xs)) in
    grind (arith, common_steps, d, e)
