-- Worked sources with channels: one for numbers, one without a value, and one that two instances are given as an argument. The net of
-- each is a net and represents it, by computing.
use Rattle.std.proofs.Common.{◌≡◌, ℕ, ℤ, pos, List, [], ◌∷◌, Some, None, lit≤, refl}
use Rattle.std.specs.Prelude.{codes, true, map}
use Rattle.cif_base.specs.declared.types.Ty.TheVariants as ty
use Rattle.cif_system.specs.System.{State, sending, receiving, initial}
use Rattle.cif_system.specs.Choices.{first_step}
use Rattle.cif_net_expr.specs.Tree.{net_expr, n_truth, n_number, n_received, net_set, no_net_updates, net_updates}
use Rattle.cif_net_model.specs.Net.{void_net_chan, net_chan_of, NetAuto, NetEdge}
use Rattle.cif_net_model.specs.Exprs.{all_edges}
use Rattle.cif_net_model.specs.Facts.{is_net, channel_of}
use Rattle.cif_net_model.specs.Meaning.{system_of_net}
use Rattle.cif_source.specs.Components.{Component, whole, copy}
use Rattle.cif_source.specs.Objects.{automata}
use Rattle.cif_source.proofs.Terms.{word, single}
use Rattle.cif_inst_laws.proofs.Trees.{signal, delivering, s_params, s_body, s_item, r_params, r_body, r_item}
use Rattle.cif_inst_model.specs.Flat.{net_of_source, event_number}
use Rattle.cif_inst_model.specs.Represents.{Represents}
use Rattle.cif_inst_model.proofs.RepresentsLaws.{apart-differ, all-found, net-represents}
use Rattle.cif_inst_model.proofs.Trees.{channel}

abbrev at_places : List ℕ → List ℤ → State
at_places locs vals = record { locs = locs; vals = vals; ins = [] }

-- ---- numbers

channel_is_a_net : is_net (net_of_source channel) ≡ true
channel_is_a_net = refl

channel_is_represented : Represents (net_of_source channel) channel
channel_is_represented = net-represents channel (record { few = lit≤ tt; constants = refl; named = refl; differ = apart-differ channel refl; found = all-found channel tt })

-- the event has the type of its values, and none stands in an alphabet
type_of_the_channel : channel_of (net_of_source channel) 0 ≡ net_chan_of (ty.Int (pos 0) (pos 9))
type_of_the_channel = refl

alphabets_are_empty : map (λ (a : NetAuto). a.alphabet) (net_of_source channel).autos ≡ [] ∷ [] ∷ [] ∷ []
alphabets_are_empty = refl

-- the edges of the two senders and of the receiver, each with the places of its values
abbrev along : NetEdge → NetEdge → NetEdge → List NetEdge
along first second third = first ∷ second ∷ third ∷ []

edges_of_the_channel : all_edges (net_of_source channel) ≡ along
    (record { event = 0; role = sending; from = 0; to = 0; guard = net_expr (n_truth true) 56; sent = Some (net_expr (n_number (pos 5)) 58); updates = no_net_updates; places = 58 ∷ [] })
    (record { event = 0; role = sending; from = 0; to = 0; guard = net_expr (n_truth true) 102; sent = Some (net_expr (n_number (pos 4)) 104); updates = no_net_updates; places = 104 ∷ [] })
    (record { event = 0; role = receiving; from = 0; to = 0; guard = net_expr (n_truth true) 170; sent = None; updates = net_updates (net_set 0 (net_expr n_received 181)) no_net_updates; places = 176 ∷ [] })
edges_of_the_channel = refl

-- the receiver has no room for 5, so that the second sender is the first that can
second_sends : first_step (system_of_net (net_of_source channel)) (initial (system_of_net (net_of_source channel))) 0 ≡ Some (at_places (0 ∷ 0 ∷ 0 ∷ []) (pos 4 ∷ []))
second_sends = refl

-- ---- without a value

signal_is_a_net : is_net (net_of_source signal) ≡ true
signal_is_a_net = refl

signal_is_represented : Represents (net_of_source signal) signal
signal_is_represented = net-represents signal (record { few = lit≤ tt; constants = refl; named = refl; differ = apart-differ signal refl; found = all-found signal tt })

signal_is_void : channel_of (net_of_source signal) 0 ≡ void_net_chan
signal_is_void = refl

signal_passes : first_step (system_of_net (net_of_source signal)) (initial (system_of_net (net_of_source signal))) 0 ≡ Some (at_places (0 ∷ 0 ∷ []) [])
signal_passes = refl

-- ---- as a parameter

abbrev sender : Component
sender = copy (whole delivering) (word (codes "S") 61) s_params s_body (whole delivering) s_item

abbrev receiver : Component
receiver = copy (whole delivering) (word (codes "R") 148) r_params r_body (whole delivering) r_item

its_automata : automata delivering ≡ sender ∷ receiver ∷ []
its_automata = refl

delivering_is_a_net : is_net (net_of_source delivering) ≡ true
delivering_is_a_net = refl

delivering_is_represented : Represents (net_of_source delivering) delivering
delivering_is_represented = net-represents delivering (record { few = lit≤ tt; constants = refl; named = refl; differ = apart-differ delivering refl; found = all-found delivering tt })

-- both parameters are the one channel
one_channel : (event_number sender (single (word (codes "o") 125)) ≡ 0) × (event_number receiver (single (word (codes "i") 217)) ≡ 0)
one_channel = (refl, refl)

five_is_delivered : first_step (system_of_net (net_of_source delivering)) (initial (system_of_net (net_of_source delivering))) 0 ≡ Some (at_places (0 ∷ 0 ∷ []) (pos 5 ∷ []))
five_is_delivered = refl
