-- Helper of the code: a choice that is being put together.
use Rattle.std.specs.Prelude.{ℕ, nat_eq, ◌/◌, ◌%◌, length, slice_get, if◌then◌else◌, List, [], ◌∷◌, ◌++◌, map, Option, Some, None, option_map}
use Rattle.cif_net_expr.specs.Tree.{NetExpr, NetUpdates, no_net_updates}
use Rattle.cif_net_expr.specs.View.{view, view_updates}
use Rattle.cif_net_model.specs.Net.{NetEdge, NetAuto}
use Rattle.cif_net_model.specs.Listing.{NetMove, NetChoice, both, sent_by, writes_of, all_hold}
use Rattle.cif_net.specs.View.{move_tree}
use Rattle.cif_lin.specs.declared.draft.Draft.{Draft}
use Rattle.cif_lin.specs.Pieces.{Piece, Cell, piece_of}

pub record Made : Type 0 where
  pub moves : List NetMove
  pub tests : List NetExpr
  pub sent : Option NetExpr
  pub writes : NetUpdates

abbrev pub draft_tree : Draft → Made
draft_tree d = record { moves = map move_tree d.moves; tests = map view d.tests; sent = option_map view d.sent; writes = view_updates d.writes }

-- the first of two, and else the second
abbrev pub first_sent : Option NetExpr → Option NetExpr → Option NetExpr
first_sent None e = e
first_sent (Some d) e = Some d

abbrev pub nothing_made : Made
nothing_made = record { moves = []; tests = []; sent = None; writes = no_net_updates }

-- with what is sent, unless something is, and with more that is assigned
abbrev pub with_sent : Made → Option NetExpr → Made
with_sent m e = record m { sent = first_sent m.sent e }

abbrev pub with_writes : Made → NetUpdates → Made
with_writes m us = record m { writes = both m.writes us }

-- with what the edges of one more automaton do
abbrev pub with_edges : Made → List NetEdge → Made
with_edges m xs = record m { sent = first_sent m.sent (sent_by xs); writes = both m.writes (writes_of xs) }

abbrev pub with_piece : Made → Piece → Made
with_piece m p = record { moves = m.moves ++ p.moves; tests = m.tests ++ p.tests; sent = first_sent m.sent (sent_by p.edges); writes = both m.writes (writes_of p.edges) }

abbrev pub with_pieces : Made → List Piece → Made
with_pieces m [] = m
with_pieces m (p ∷ ps) = with_pieces (with_piece m p) ps

-- 0 where there is no divisor
abbrev pub quotient : ℕ → ℕ → ℕ
quotient a b = if nat_eq b 0 then 0 else a / b

abbrev pub remainder : ℕ → ℕ → ℕ
remainder a b = if nat_eq b 0 then 0 else a % b

abbrev pub with_option : List NetAuto → Made → Cell → ℕ → Made
with_option autos m c q = elim (slice_get c.options q) [ None ↦ m | Some o ↦ with_piece m (piece_of autos c o) ]

-- an option of each, where these many choices are left and t is the number of one
abbrev pub with_cells : List NetAuto → List Cell → Made → (left t : ℕ) → Made
with_cells autos [] m left t = m
with_cells autos (c ∷ cs) m left t =
    let below = quotient left (length c.options) in
    with_cells autos cs (with_option autos m c (quotient t below)) below (remainder t below)

abbrev pub choice_from : ℕ → Made → NetChoice
choice_from e m = record { event = e; moves = m.moves; test = all_hold m.tests; sent = m.sent; writes = m.writes; invariants = [] }
