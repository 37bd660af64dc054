-- The range of what an edge receives, by the event that is found.
use Rattle.std.proofs.Common.{◌≡◌, List, map, Option, Some, None, slice_get, ◌∙◌, ap}
use Rattle.std.specs.Option.{option_map}
use Rattle.std.proofs.lemmas.Option.{slice_get-map}
use Rattle.cif_net_model.specs.Net as model
use Rattle.cif_net.specs.declared.events.Event.{Event}
use Rattle.cif_net.specs.View.{chan_of, event_tree}
use Rattle.cif_alg_measure.specs.Checked.{truth_bounds}
use Rattle.cif_alg_measure.specs.TypeBounds.{channel_bounds, received_bounds}

found : (events : List Event) (x : model.NetEdge) → received_bounds (map event_tree events) x ≡ elim (option_map event_tree (slice_get events x.event)) [ None ↦ truth_bounds | Some e ↦ channel_bounds e.chan ]
found events x = ap (λ (o : Option model.NetEvent). elim o [ None ↦ truth_bounds | Some e ↦ channel_bounds e.chan ]) (slice_get-map event_tree events x.event)

pub received_some : (events : List Event) (x : model.NetEdge) (e : Event) → slice_get events x.event ≡ Some e → received_bounds (map event_tree events) x ≡ channel_bounds (chan_of e.chan)
received_some events x e h = found events x ∙ ap (λ (o : Option Event). elim (option_map event_tree o) [ None ↦ truth_bounds | Some y ↦ channel_bounds y.chan ]) h

pub received_none : (events : List Event) (x : model.NetEdge) → slice_get events x.event ≡ None → received_bounds (map event_tree events) x ≡ truth_bounds
received_none events x h = found events x ∙ ap (λ (o : Option Event). elim (option_map event_tree o) [ None ↦ truth_bounds | Some y ↦ channel_bounds y.chan ]) h
