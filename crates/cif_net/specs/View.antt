-- What plain data a net, a state, and a table of roles or choices stand for.
use Rattle.std.specs.Prelude.{List, map, option_map}
use Rattle.cif_system.specs.System as s
use Rattle.cif_net_expr.specs.View.{view, view_updates}
use Rattle.cif_net_model.specs.Net as n
use Rattle.cif_net_model.specs.Listing.{NetRoles, NetMove, NetChoice}
use Rattle.cif_net.specs.declared.net.Net.{Net}
use Rattle.cif_net.specs.declared.state.State.{State}
use Rattle.cif_net.specs.declared.listing.EventRoles.{EventRoles}
use Rattle.cif_net.specs.declared.listing.Roles.{Roles}
use Rattle.cif_net.specs.declared.listing.Move.{Move}
use Rattle.cif_net.specs.declared.listing.Choice.{Choice}
use Rattle.cif_net.specs.declared.listing.Linear.{Linear}
pub use Rattle.cif_net.specs.Parts.{role_of, edge_tree, auto_tree, class_of, chan_of, event_tree, input_tree, var_tree, value_of, alg_tree, exclusion_tree, invariant_tree, net_of_parts}

abbrev pub net_tree : Net → n.Net
net_tree x = net_of_parts x.autos x.events x.inputs x.vars x.algs x.exclusions x.invariants

abbrev pub state_tree : State → s.State
state_tree x = record { locs = x.locs; vals = x.vals; ins = x.ins }

-- ---- roles

abbrev pub event_roles_tree : EventRoles → NetRoles
event_roles_tree r = record { syncs = r.syncs; monitors = r.monitors; sends = r.sends; receives = r.receives }

abbrev pub roles_tree : Roles → List NetRoles
roles_tree r = map event_roles_tree r.events

-- ---- choices

abbrev pub move_tree : Move → NetMove
move_tree m = record { auto = m.auto; edge = m.edge }

abbrev pub choice_tree : Choice → NetChoice
choice_tree c = record {
  event = c.event;
  moves = map move_tree c.moves;
  test = view c.test;
  sent = option_map view c.sent;
  writes = view_updates c.writes;
  invariants = c.invariants;
}

abbrev pub linear_tree : Linear → List NetChoice
linear_tree l = map choice_tree l.choices
