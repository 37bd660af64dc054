use Rattle.std.proofs.Common.{◌≡◌, map, flat_map, drop}
use Rattle.cif_net.specs.View.{auto_tree, choice_tree, event_roles_tree}
use Rattle.cif_lin.specs.Cells as c
use Rattle.cif_lin.specs.Limits.{limited}
use Rattle.cif_lin.proofs.listing.add_senders.Given as goal

abbrev pub invariant-loop-sender : goal.invariant-loop-sender
invariant-loop-sender l =
    limited (map choice_tree l.all) (flat_map (c.sent_to (map auto_tree l.net.autos) l.event (event_roles_tree l.roles)) (drop l.sender-index l.roles.sends))
    ≡ limited (map choice_tree l.initial.all) (flat_map (c.sent_to (map auto_tree l.net.autos) l.event (event_roles_tree l.roles)) l.roles.sends)
