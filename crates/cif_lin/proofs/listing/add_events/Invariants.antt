use Rattle.std.proofs.Common.{◌≡◌, map, drop}
use Rattle.cif_net.specs.View.{net_tree, choice_tree, event_roles_tree}
use Rattle.cif_lin.specs.Cells as c
use Rattle.cif_lin.specs.Limits.{limited}
use Rattle.cif_lin.proofs.listing.add_events.Given as goal

abbrev pub invariant-loop-event : goal.invariant-loop-event
invariant-loop-event l =
    limited (map choice_tree l.all) (c.choices_from (net_tree l.net) l.event (map event_roles_tree (drop l.event l.roles)))
    ≡ limited (map choice_tree l.initial.all) (c.choices_from (net_tree l.net) 0 (map event_roles_tree l.roles))
