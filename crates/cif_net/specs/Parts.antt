-- What the parts of a net stand for as plain data. A net's own fact stands on these, so no function here names its type.
use Rattle.std.specs.Prelude.{List, map, option_map}
use Rattle.cif_system.specs.System as s
use Rattle.cif_net_expr.specs.View.{view, view_updates}
use Rattle.cif_net_model.specs.Net as n
use Rattle.cif_net.specs.declared.automata.NetRole.{NetRole}
use Rattle.cif_net.specs.declared.automata.NetRole.TheVariants as role
use Rattle.cif_net.specs.declared.automata.NetEdge.{NetEdge}
use Rattle.cif_net.specs.declared.automata.Auto.{Auto}
use Rattle.cif_net.specs.declared.events.Class.{Class}
use Rattle.cif_net.specs.declared.events.Class.TheVariants as class
use Rattle.cif_net.specs.declared.events.NetChan.{NetChan}
use Rattle.cif_net.specs.declared.events.NetChan.TheVariants as chan
use Rattle.cif_net.specs.declared.events.Event.{Event}
use Rattle.cif_net.specs.declared.data.Input.{Input}
use Rattle.cif_net.specs.declared.data.Var.{Var}
use Rattle.cif_net.specs.declared.data.AlgValue.{AlgValue}
use Rattle.cif_net.specs.declared.data.AlgValue.TheVariants as value
use Rattle.cif_net.specs.declared.data.Alg.{Alg}
use Rattle.cif_net.specs.declared.predicates.Exclusion.{Exclusion}
use Rattle.cif_net.specs.declared.predicates.Invariant.{Invariant}

-- ---- automata

abbrev pub role_of : NetRole → s.Role
role_of role.Sync = s.syncing
role_of role.Send = s.sending
role_of role.Recv = s.receiving

abbrev pub edge_tree : NetEdge → n.NetEdge
edge_tree e = record {
  event = e.event;
  role = role_of e.role;
  from = e.from;
  to = e.to;
  guard = view e.guard;
  sent = option_map view e.sent;
  updates = view_updates e.updates;
  places = e.places;
}

abbrev pub auto_tree : Auto → n.NetAuto
auto_tree a = record {
  path = a.path;
  locs = a.locs;
  first = a.first;
  alphabet = a.alphabet;
  monitors = a.monitors;
  edges = map edge_tree a.edges;
}

-- ---- events

abbrev pub class_of : Class → s.Class
class_of class.Plain = s.plain
class_of class.Con = s.con
class_of class.Unc = s.unc

abbrev pub chan_of : NetChan → n.NetChan
chan_of chan.No = n.no_net_chan
chan_of chan.Void = n.void_net_chan
chan_of (chan.Of t) = n.net_chan_of t

abbrev pub event_tree : Event → n.NetEvent
event_tree e = record { path = e.path; class = class_of e.class; chan = chan_of e.chan }

-- ---- data

abbrev pub input_tree : Input → n.NetStored
input_tree i = record { path = i.path; type_of = i.ty; first = i.first; literals = i.literals }

abbrev pub var_tree : Var → n.NetStored
var_tree v = record { path = v.path; type_of = v.ty; first = v.first; literals = v.literals }

abbrev pub value_of : AlgValue → n.AlgValue
value_of (value.One e) = n.one_value (view e)
value_of (value.ByLoc k es) = n.by_loc k (map view es)

abbrev pub alg_tree : Alg → n.NetAlg
alg_tree a = record { path = a.path; type_of = a.ty; literals = a.literals; value = value_of a.value }

-- ---- predicates

abbrev pub exclusion_tree : Exclusion → n.NetExclusion
exclusion_tree x = record { event = x.event; pred = view x.pred; allows = x.allows }

abbrev pub invariant_tree : Invariant → n.NetInvariant
invariant_tree i = record { pred = view i.pred; at = i.at }

-- ---- the whole

abbrev pub net_of_parts : List Auto → List Event → List Input → List Var → List Alg → List Exclusion → List Invariant → n.Net
net_of_parts autos events inputs vars algs exclusions invariants = record {
  autos = map auto_tree autos;
  events = map event_tree events;
  inputs = map input_tree inputs;
  vars = map var_tree vars;
  algs = map alg_tree algs;
  exclusions = map exclusion_tree exclusions;
  invariants = map invariant_tree invariants;
}
