-- What a net keeps.
use Rattle.std.specs.Prelude.{ℕ, ◌+◌, int_le, Bool, true, false, not, ◌&&◌, nat_eq, nat_le, nat_lt, List, [], ◌∷◌, map, length, flat_map, sum, Option, Some, None, slice_get, is_none}
use Rattle.std.specs.List.{list_all, list_any}
use Rattle.cif_base.specs.declared.types.Ty.{Ty}
use Rattle.cif_base.specs.declared.types.Ty.TheVariants as ty
use Rattle.cif_system.specs.System.{Role, syncing, sending, receiving, in_range}
use Rattle.cif_system.specs.Step.{same_role}
use Rattle.cif_net_expr.specs.Tree.{NetExpr, NetUpdate, net_set, net_choose, NetUpdates, no_net_updates, net_updates, NetUpdateBranches, no_net_update_branches, net_update_branches}
use Rattle.cif_net_model.specs.Net.{Text, NetChan, no_net_chan, void_net_chan, net_chan_of, NetEdge, NetAuto, NetEvent, NetStored, one_value, by_loc, NetAlg, NetExclusion, NetInvariant, Net}
use Rattle.cif_net_model.specs.Meaning.{type_range}
use Rattle.cif_net_model.specs.Exprs.{edge_values, targets}
use Rattle.cif_net_model.specs.Kinds.{Kind, bool_kind, kind_of, in_32_bits, places_of, fits, fits_type}

-- ---- types

-- bounds are in 32 bits and in order, and an enumeration has a literal
abbrev pub is_type : Ty → Bool
is_type ty.Bool = true
is_type (ty.Int lo hi) = in_32_bits lo && in_32_bits hi && int_le lo hi
is_type (ty.Enum size) = nat_lt 0 size

-- as many as the enumeration has, and none for another type
abbrev pub literals_fit : Ty → List Text → Bool
literals_fit ty.Bool ls = nat_eq (length ls) 0
literals_fit (ty.Int lo hi) ls = nat_eq (length ls) 0
literals_fit (ty.Enum size) ls = nat_eq (length ls) size

-- the first value is of the type
abbrev pub stored_stands : NetStored → Bool
stored_stands v = is_type v.type_of && literals_fit v.type_of v.literals && in_range (type_range v.type_of) v.first

abbrev pub event_stands : NetEvent → Bool
event_stands e = elim e.chan [ net_chan_of t ↦ is_type t | _ ↦ true ]

-- ---- numbers

abbrev pub are_below : ℕ → List ℕ → Bool
are_below k xs = list_all (λ x. nat_lt x k) xs

abbrev pub has : List ℕ → ℕ → Bool
has xs x = list_any (nat_eq x) xs

abbrev pub are_apart : List ℕ → List ℕ → Bool
are_apart xs ys = list_all (λ x. not (has ys x)) xs

-- ---- updates

abbrev pub var_kind : Option NetStored → Option Kind
var_kind None = None
var_kind (Some v) = Some (kind_of v.type_of v.literals)

abbrev pub assigns_kind : Net → Option Ty → Option Kind → NetExpr → Bool
assigns_kind n r None e = false
assigns_kind n r (Some k) e = fits n r k e

-- The variable is there, and the value has its kind. No two updates of one list assign one variable.
abbrev mutual
  pub updates_stand : Net → Option Ty → NetUpdates → Bool
  updates_stand n r no_net_updates = true
  updates_stand n r (net_updates u us) = update_stands n r u && are_apart (targets (net_updates u no_net_updates)) (targets us) && updates_stand n r us

  pub update_stands : Net → Option Ty → NetUpdate → Bool
  update_stands n r (net_set v e) = assigns_kind n r (var_kind (slice_get n.vars v)) e
  update_stands n r (net_choose bs us) = branches_stand n r bs && updates_stand n r us

  pub branches_stand : Net → Option Ty → NetUpdateBranches → Bool
  branches_stand n r no_net_update_branches = true
  branches_stand n r (net_update_branches c us bs) = fits n r bool_kind c && updates_stand n r us && branches_stand n r bs

-- ---- edges

abbrev pub channel_of : Net → ℕ → NetChan
channel_of n e = elim (slice_get n.events e) [ None ↦ no_net_chan | Some x ↦ x.chan ]

-- the type of what an edge receives
abbrev pub received_type : Net → NetEdge → Option Ty
received_type n x = elim x.role [ receiving ↦ elim (channel_of n x.event) [ net_chan_of t ↦ Some t | _ ↦ None ] | _ ↦ None ]

abbrev pub sends_type : Net → Ty → Option NetExpr → Bool
sends_type n t None = false
sends_type n t (Some e) = fits_type n t e

-- A value is sent on a channel for values, and none on a void one. Only a channel is received from.
abbrev pub role_stands : Net → Role → NetChan → Option NetExpr → Bool
role_stands n sending (net_chan_of t) v = sends_type n t v
role_stands n sending void_net_chan v = is_none v
role_stands n sending no_net_chan v = false
role_stands n receiving no_net_chan v = false
role_stands n receiving _ v = is_none v
role_stands n syncing _ v = is_none v

abbrev pub has_use : Role → ℕ → List NetEdge → Bool
has_use p e xs = list_any (λ (x : NetEdge). nat_eq x.event e && same_role x.role p) xs

-- An edge that synchronises has its event in the alphabet, and another one does not. No event is both sent and received.
abbrev pub is_one_role : NetAuto → NetEdge → Bool
is_one_role a x = elim x.role [
  | syncing ↦ has a.alphabet x.event
  | sending ↦ not (has a.alphabet x.event) && not (has_use receiving x.event a.edges)
  | receiving ↦ not (has a.alphabet x.event)
]

abbrev pub edge_stands : Net → NetAuto → NetEdge → Bool
edge_stands n a x = nat_lt x.event (length n.events)
    && nat_lt x.from (length a.locs)
    && nat_lt x.to (length a.locs)
    && fits n None bool_kind x.guard
    && role_stands n x.role (channel_of n x.event) x.sent
    && updates_stand n (received_type n x) x.updates
    && nat_eq (length x.places) (length (edge_values x))
    && nat_lt (length x.places) 4294967296
    && is_one_role a x

-- ---- automata

abbrev pub auto_stands : Net → NetAuto → Bool
auto_stands n a = nat_lt a.first (length a.locs)
    && are_below (length n.events) a.alphabet
    && list_all (has a.alphabet) a.monitors
    && list_all (edge_stands n a) a.edges

abbrev pub auto_targets : NetAuto → List ℕ
auto_targets a = flat_map (λ (x : NetEdge). targets x.updates) a.edges

-- no two of the lists have a number in common
abbrev pub are_all_apart : List (List ℕ) → Bool
are_all_apart [] = true
are_all_apart (xs ∷ xss) = list_all (are_apart xs) xss && are_all_apart xss

-- ---- the rest

-- by location there is one value for each location
abbrev pub alg_stands : Net → NetAlg → Bool
alg_stands n a = is_type a.type_of
    && literals_fit a.type_of a.literals
    && elim a.value [
      | one_value e ↦ fits n None (kind_of a.type_of a.literals) e
      | by_loc k es ↦ nat_lt k (length n.autos) && nat_eq (length es) (places_of (slice_get n.autos k)) && list_all (fits n None (kind_of a.type_of a.literals)) es
    ]

abbrev pub exclusion_stands : Net → NetExclusion → Bool
exclusion_stands n x = nat_lt x.event (length n.events) && fits n None bool_kind x.pred

abbrev pub invariant_stands : Net → NetInvariant → Bool
invariant_stands n i = fits n None bool_kind i.pred

-- automata with their locations and edges, events, inputs, variables, algebraic variables, exclusions and invariants
abbrev pub things : Net → ℕ
things n = length n.autos + sum (map (λ (a : NetAuto). length a.locs + length a.edges) n.autos) + length n.events + length n.inputs
    + length n.vars + length n.algs + length n.exclusions + length n.invariants

abbrev pub is_net : Net → Bool
is_net n = nat_le (things n) 100000
    && list_all event_stands n.events
    && list_all stored_stands n.inputs
    && list_all stored_stands n.vars
    && list_all (auto_stands n) n.autos
    && list_all (alg_stands n) n.algs
    && list_all (exclusion_stands n) n.exclusions
    && list_all (invariant_stands n) n.invariants
    && are_all_apart (map auto_targets n.autos)
