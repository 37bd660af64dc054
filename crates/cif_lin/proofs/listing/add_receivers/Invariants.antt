use Rattle.std.proofs.Common.{◌≡◌, map, flat_map, drop}
use Rattle.cif_net.specs.View.{auto_tree, choice_tree, event_roles_tree}
use Rattle.cif_lin.specs.Cells as c
use Rattle.cif_lin.specs.Limits.{limited}
use Rattle.cif_lin.proofs.listing.add_receivers.Given as goal

abbrev pub invariant-loop-receiver : goal.invariant-loop-receiver
invariant-loop-receiver l =
    limited (map choice_tree l.all) (flat_map (c.between (map auto_tree l.net.autos) l.event (event_roles_tree l.roles) l.sender) (drop l.receiver-index l.roles.receives))
    ≡ limited (map choice_tree l.initial.all) (flat_map (c.between (map auto_tree l.net.autos) l.event (event_roles_tree l.roles) l.sender) l.roles.receives)
