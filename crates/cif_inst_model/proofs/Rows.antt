-- The nets of worked sources, by computing: they are nets, and they have the first steps and the scans of the sources.
use Rattle.std.proofs.Common.{◌≡◌, ℕ, ℤ, pos, true, false, List, [], ◌∷◌, Some, None, refl}
use Rattle.std.specs.Prelude.{codes, map}
use Rattle.cif_base.specs.declared.types.Ty.TheVariants as ty
use Rattle.cif_ast.specs.Tree.{node, truth, paren}
use Rattle.cif_system.specs.System.{System, State, con, unc, syncing, initial, outputs}
use Rattle.cif_system.specs.Choices.{first_step, all_choices}
use Rattle.cif_system.specs.Scan.{exact_scan}
use Rattle.cif_net_expr.specs.Tree.{lt, net_expr, n_truth, n_number, n_var, n_alg, n_not, n_sum, n_compare, n_and, no_net_exprs, net_exprs, no_net_terms, net_terms, net_set, no_net_updates, net_updates}
use Rattle.cif_net_model.specs.Net.{no_net_chan, one_value, NetAuto, NetEdge, Net}
use Rattle.cif_net_model.specs.Meaning.{system_of_net}
use Rattle.cif_net_model.specs.Facts.{is_net}
use Rattle.cif_source.specs.Source.{Source, no_source}
use Rattle.cif_source.specs.Components.{whole}
use Rattle.cif_source.proofs.Rows.{two_classes, counter, guarded_counter, invariant, frames}
use Rattle.cif_source.proofs.Cell.{cell_tree}
use Rattle.cif_source.proofs.Features.{features_tree}
use Rattle.cif_inst_model.specs.Translation.{net_of, net_guard}
use Rattle.cif_inst_model.specs.Flat.{net_of_source}
use Rattle.cif_inst_model.proofs.Trees.{swap, channel, fixed, monitored}

abbrev net_system : Source → System
net_system t = system_of_net (net_of_source t)

abbrev start : Source → State
start t = initial (net_system t)

abbrev at : List ℕ → List ℤ → State
at locs vals = record { locs = locs; vals = vals; ins = [] }

-- ---- places

outermost_parenthesis : net_of (whole no_source) (node (paren (node (paren (node (truth true) 2)) 1)) 0) ≡ net_expr (n_truth true) 0
outermost_parenthesis = refl

no_guard : net_guard (whole no_source) 7 [] ≡ net_expr (n_truth true) 7
no_guard = refl

one_guard : net_guard (whole no_source) 7 (node (truth false) 9 ∷ []) ≡ net_expr (n_truth false) 9
one_guard = refl

two_guards : net_guard (whole no_source) 7 (node (truth false) 9 ∷ node (truth true) 16 ∷ []) ≡ net_expr (n_and (net_exprs (net_expr (n_truth false) 9) (net_exprs (net_expr (n_truth true) 16) no_net_exprs))) 9
two_guards = refl

-- ---- two classes

two_classes_is_a_net : is_net (net_of_source two_classes) ≡ true
two_classes_is_a_net = refl

u_leads_to_y : first_step (net_system two_classes) (start two_classes) 0 ≡ Some (at (1 ∷ []) [])
u_leads_to_y = refl

c_waits_in_x : first_step (net_system two_classes) (start two_classes) 1 ≡ None
c_waits_in_x = refl

-- ---- a counter

abbrev counter_net : Net
counter_net = record {
  autos = record {
    path = codes "a";
    locs = [] ∷ [];
    first = 0;
    alphabet = 0 ∷ [];
    monitors = [];
    edges = record {
      event = 0;
      role = syncing;
      from = 0;
      to = 0;
      guard = net_expr (n_compare (net_expr (n_var 0) 81) lt (net_expr (n_number (pos 10)) 85)) 81;
      sent = None;
      updates = net_updates (net_set 0 (net_expr (n_sum (net_expr (n_var 0) 96) (net_terms false (net_expr (n_number (pos 1)) 100) no_net_terms)) 96)) no_net_updates;
      places = 91 ∷ [];
    } ∷ [];
  } ∷ [];
  events = record { path = codes "a.u"; class = unc; chan = no_net_chan } ∷ [];
  inputs = [];
  vars = record { path = codes "a.n"; type_of = ty.Int (pos 0) (pos 10); first = pos 0; literals = [] } ∷ [];
  algs = [];
  exclusions = [];
  invariants = [];
}

the_counter_is_this_net : net_of_source guarded_counter ≡ counter_net
the_counter_is_this_net = refl

counter_is_a_net : is_net (net_of_source counter) ≡ true
counter_is_a_net = refl

three_rounds_count_three : exact_scan (net_system counter) (start counter) [] 3 100 ≡ at (0 ∷ []) (pos 3 ∷ [])
three_rounds_count_three = refl

leaving_the_range_is_no_step : exact_scan (net_system counter) (at (0 ∷ []) (pos 9 ∷ [])) [] 3 100 ≡ at (0 ∷ []) (pos 10 ∷ [])
leaving_the_range_is_no_step = refl

-- ---- right sides read the old values

swap_is_a_net : is_net (net_of_source swap) ≡ true
swap_is_a_net = refl

values_are_swapped : first_step (net_system swap) (start swap) 0 ≡ Some (at (0 ∷ []) (pos 2 ∷ pos 1 ∷ []))
values_are_swapped = refl

-- ---- a channel

channel_is_a_net : is_net (net_of_source channel) ≡ true
channel_is_a_net = refl

four_is_received : first_step (net_system channel) (start channel) 0 ≡ Some (at (0 ∷ 0 ∷ 0 ∷ []) (pos 4 ∷ []))
four_is_received = refl

-- the places of a sent value and of an assigned name
channel_places : map (λ (a : NetAuto). map (λ (x : NetEdge). x.places) a.edges) (net_of_source channel).autos ≡ ((58 ∷ []) ∷ []) ∷ ((104 ∷ []) ∷ []) ∷ ((176 ∷ []) ∷ []) ∷ []
channel_places = refl

-- ---- alphabets and monitors, in the order of the text and with repetitions

monitored_is_a_net : is_net (net_of_source monitored) ≡ true
monitored_is_a_net = refl

-- declared by a, and those of the edges of b
monitored_alphabets : map (λ (a : NetAuto). a.alphabet) (net_of_source monitored).autos ≡ (1 ∷ 0 ∷ 1 ∷ []) ∷ (1 ∷ 0 ∷ 1 ∷ []) ∷ []
monitored_alphabets = refl

-- a monitors all of its alphabet, and b what it names
monitored_events : map (λ (a : NetAuto). a.monitors) (net_of_source monitored).autos ≡ (1 ∷ 0 ∷ 1 ∷ []) ∷ (1 ∷ 1 ∷ []) ∷ []
monitored_events = refl

-- a has no edge for f, and stays
f_passes : first_step (net_system monitored) (start monitored) 1 ≡ Some (at (0 ∷ 0 ∷ []) [])
f_passes = refl

-- ---- a boolean constant is true or false

fixed_is_a_net : is_net (net_of_source fixed) ≡ true
fixed_is_a_net = refl

-- ---- an invariant over two automata

invariant_is_a_net : is_net (net_of_source invariant) ≡ true
invariant_is_a_net = refl

first_edge_breaks_it : first_step (net_system invariant) (start invariant) 0 ≡ Some (at (0 ∷ 0 ∷ []) (pos 1 ∷ pos 2 ∷ []))
first_edge_breaks_it = refl

then_both_edges_break_it : first_step (net_system invariant) (at (0 ∷ 0 ∷ []) (pos 1 ∷ pos 2 ∷ [])) 0 ≡ None
then_both_edges_break_it = refl

scan_steps_once : exact_scan (net_system invariant) (start invariant) [] 3 3 ≡ at (0 ∷ 0 ∷ []) (pos 1 ∷ pos 2 ∷ [])
scan_steps_once = refl

-- ---- two instances of one definition: parameters are their arguments, read where the instances stand

abbrev frames_net : Net
frames_net = record {
  autos = record {
    path = codes "p";
    locs = [] ∷ [];
    first = 0;
    alphabet = 0 ∷ [];
    monitors = [];
    edges = record { event = 0; role = syncing; from = 0; to = 0; guard = net_expr (n_alg 0) 46; sent = None; updates = no_net_updates; places = [] } ∷ [];
  } ∷ record {
    path = codes "q";
    locs = [] ∷ [];
    first = 0;
    alphabet = 1 ∷ [];
    monitors = [];
    edges = record { event = 1; role = syncing; from = 0; to = 0; guard = net_expr (n_not (net_expr (n_alg 0) 62)) 58; sent = None; updates = no_net_updates; places = [] } ∷ [];
  } ∷ [];
  events = record { path = codes "e"; class = con; chan = no_net_chan } ∷ record { path = codes "f"; class = con; chan = no_net_chan } ∷ [];
  inputs = [];
  vars = [];
  algs = record { path = codes "k"; type_of = ty.Bool; literals = []; value = one_value (net_expr (n_truth true) 32) }
      ∷ record { path = codes "p.k"; type_of = ty.Bool; literals = []; value = one_value (net_expr (n_truth false) 124) }
      ∷ record { path = codes "q.k"; type_of = ty.Bool; literals = []; value = one_value (net_expr (n_truth false) 124) }
      ∷ [];
  exclusions = [];
  invariants = [];
}

the_frames_are_this_net : net_of_source frames ≡ frames_net
the_frames_are_this_net = refl

frames_is_a_net : is_net (net_of_source frames) ≡ true
frames_is_a_net = refl

e_is_enabled : first_step (net_system frames) (start frames) 0 ≡ Some (at (0 ∷ 0 ∷ []) [])
e_is_enabled = refl

f_is_not_enabled : first_step (net_system frames) (start frames) 1 ≡ None
f_is_not_enabled = refl

-- ---- equations by location, enumerations, conditional updates and a void channel

features_is_a_net : is_net (net_of_source features_tree) ≡ true
features_is_a_net = refl

abbrev sent : State
sent = at (1 ∷ 0 ∷ 0 ∷ []) (pos 3 ∷ pos 0 ∷ pos 0 ∷ [])

v_reads_the_old_location : first_step (net_system features_tree) (start features_tree) 0 ≡ Some sent
v_reads_the_old_location = refl

c_is_permitted : first_step (net_system features_tree) sent 1 ≡ Some (at (0 ∷ 0 ∷ 0 ∷ []) (pos 0 ∷ pos 0 ∷ pos 0 ∷ []))
c_is_permitted = refl

algebraic_values : outputs (net_system features_tree) sent ≡ record { places = 1 ∷ 0 ∷ 0 ∷ []; values = pos 3 ∷ pos 0 ∷ pos 0 ∷ []; algs = pos 5 ∷ pos 1 ∷ [] }
algebraic_values = refl

-- ---- a feed cell

the_cell_is_a_net : is_net (net_of_source cell_tree) ≡ true
the_cell_is_a_net = refl

ten_events_have_thirteen_choices : all_choices (net_system cell_tree) ≡ 13
ten_events_have_thirteen_choices = refl

-- the places of start, stop, part, motor, lamp and Run, the value of Run.count, and the inputs i_start, i_stop and i_part
abbrev cell_at : List ℕ → ℕ → List ℤ → State
cell_at places count inputs = record { locs = places; vals = pos count ∷ []; ins = inputs }

cell_scan : exact_scan (net_system cell_tree) (start cell_tree) (pos 1 ∷ pos 0 ∷ pos 0 ∷ []) 100 100 ≡ cell_at (1 ∷ 0 ∷ 0 ∷ 1 ∷ 0 ∷ 1 ∷ []) 0 (pos 1 ∷ pos 0 ∷ pos 0 ∷ [])
cell_scan = refl

full_is_seen : outputs (net_system cell_tree) (cell_at (0 ∷ 0 ∷ 1 ∷ 0 ∷ 1 ∷ 1 ∷ []) 3 (pos 0 ∷ pos 0 ∷ pos 1 ∷ [])) ≡ record { places = 0 ∷ 0 ∷ 1 ∷ 0 ∷ 1 ∷ 1 ∷ []; values = pos 3 ∷ []; algs = pos 1 ∷ [] }
full_is_seen = refl
