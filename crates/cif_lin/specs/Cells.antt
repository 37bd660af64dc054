-- Helper of the code: who takes part in the choices for an event, and what each may do, as code lists it.
use Rattle.std.specs.Prelude.{ℕ, ◌+◌, nat_eq, nat_lt, Bool, true, false, ◌&&◌, List, [], ◌∷◌, ◌++◌, map, length, flat_map, Option, Some, None, slice_get, if◌then◌else◌}
use Rattle.std.specs.List.{range_with_len}
use Rattle.cif_system.specs.System.{Role, syncing, sending, receiving}
use Rattle.cif_system.specs.Choices.{stay, product_by}
use Rattle.cif_net_model.specs.Net.{NetEdge, NetAuto, NetChan, no_net_chan, Net}
use Rattle.cif_net_model.specs.Listing.{NetRoles, NetChoice, is_edge_for, monitors_event}
use Rattle.cif_net_model.specs.Facts.{channel_of}
use Rattle.cif_lin.specs.Numbers.{nth}
use Rattle.cif_lin.specs.Pieces.{Cell, joined, choice_of, piece_of}

-- the numbers of the edges for e in a role, from number k on
abbrev pub numbers_for : Role → ℕ → ℕ → List NetEdge → List (Option ℕ)
numbers_for p e k [] = []
numbers_for p e k (x ∷ xs) = if is_edge_for p e x then Some k ∷ numbers_for p e (k + 1) xs else numbers_for p e (k + 1) xs

abbrev pub edges_at : List NetAuto → Role → ℕ → ℕ → List (Option ℕ)
edges_at autos p e k = elim (slice_get autos k) [ None ↦ [] | Some a ↦ numbers_for p e 0 a.edges ]

-- an automaton that synchronises, and may stay where it monitors
abbrev pub sync_options : ℕ → NetAuto → List (Option ℕ)
sync_options e a = numbers_for syncing e 0 a.edges ++ stay (monitors_event e a)

abbrev pub sync_at : List NetAuto → ℕ → ℕ → List (Option ℕ)
sync_at autos e k = elim (slice_get autos k) [ None ↦ [] | Some a ↦ sync_options e a ]

abbrev pub sync_cell : List NetAuto → ℕ → ℕ → Cell
sync_cell autos e k = record { auto = k; options = sync_at autos e k }

-- where automaton i sends to automaton j
abbrev pub cell_between : List NetAuto → ℕ → ℕ → ℕ → ℕ → Cell
cell_between autos e i j k = record {
  auto = k;
  options = if nat_eq k i then edges_at autos sending e k else (if nat_eq k j then edges_at autos receiving e k else sync_at autos e k);
}

-- a number among ascending ones, unless it is there
abbrev pub with_number : ℕ → List ℕ → List ℕ
with_number i [] = i ∷ []
with_number i (k ∷ ks) = if nat_lt k i then k ∷ with_number i ks else (if nat_eq k i then k ∷ ks else i ∷ k ∷ ks)

-- how many choices there are
abbrev pub count : List Cell → ℕ
count cs = product_by (λ (c : Cell). length c.options) cs

-- the choice of a number
abbrev pub choice_at : List NetAuto → ℕ → List Cell → ℕ → NetChoice
choice_at autos e cs t = choice_of e (joined (nth (map (λ (c : Cell). map (piece_of autos c) c.options) cs) t))

abbrev pub all_at : List NetAuto → ℕ → List Cell → List NetChoice
all_at autos e cs = map (choice_at autos e cs) (range_with_len 0 (count cs))

-- ---- the choices for an event

abbrev pub is_empty : List ℕ → Bool
is_empty [] = true
is_empty (k ∷ ks) = false

abbrev pub synced : List NetAuto → ℕ → NetRoles → List NetChoice
synced autos e r =
    if is_empty r.syncs && is_empty r.sends && is_empty r.receives then [] else all_at autos e (map (sync_cell autos e) r.syncs)

abbrev pub between : List NetAuto → ℕ → NetRoles → ℕ → ℕ → List NetChoice
between autos e r i j =
    if nat_eq i j then [] else all_at autos e (map (cell_between autos e i j) (with_number i (with_number j r.syncs)))

abbrev pub sent_to : List NetAuto → ℕ → NetRoles → ℕ → List NetChoice
sent_to autos e r i = flat_map (between autos e r i) r.receives

abbrev pub sent_all : List NetAuto → ℕ → NetRoles → List NetChoice
sent_all autos e r = flat_map (sent_to autos e r) r.sends

abbrev pub is_plain : NetChan → Bool
is_plain no_net_chan = true
is_plain _ = false

abbrev pub event_choices : Net → ℕ → NetRoles → List NetChoice
event_choices n e r = if is_plain (channel_of n e) then synced n.autos e r else sent_all n.autos e r

-- for events from number e on
abbrev pub choices_from : Net → ℕ → List NetRoles → List NetChoice
choices_from n e [] = []
choices_from n e (r ∷ rs) = event_choices n e r ++ choices_from n (e + 1) rs
