use Rattle.std.proofs.Common.{map, arith}
use Rattle.std.proofs.lemmas.Grind.{common_steps}
use Rattle.cif_net.specs.View.{net_tree, choice_tree, event_roles_tree}
use Rattle.cif_lin.proofs.LinearLaws.{listed-of, refused-of}
use Rattle.cif_lin.proofs.listing.linearise.Goals as goal

pub returns-then-branch-clause-listed : goal.returns-then-branch-clause-listed
returns-then-branch-clause-listed c =
    let e = listed-of (net_tree c.args.plain.now.net) (map event_roles_tree c.args.roles.now.events) (map choice_tree c.add_events.new.all) c.requires in
    grind (arith, common_steps, e)

pub returns-then-branch-clause-few : goal.returns-then-branch-clause-few
returns-then-branch-clause-few c =
    let e = listed-of (net_tree c.args.plain.now.net) (map event_roles_tree c.args.roles.now.events) (map choice_tree c.add_events.new.all) c.requires in
    grind (arith, common_steps, e)

pub returns-else-branch-clause-refused : goal.returns-else-branch-clause-refused
returns-else-branch-clause-refused c =
    let e = refused-of (net_tree c.args.plain.now.net) (map event_roles_tree c.args.roles.now.events) c.requires in
    grind (arith, common_steps, e)
