-- Helper of the code: what each automaton that takes part adds to a choice.
use Rattle.std.specs.Prelude.{ℕ, List, [], ◌∷◌, ◌++◌, Option, Some, None, slice_get}
use Rattle.cif_net_expr.specs.Tree.{NetExpr}
use Rattle.cif_net_model.specs.Net.{NetEdge, NetAuto}
use Rattle.cif_net_model.specs.Listing.{NetMove, NetChoice, all_hold, fails, opens, sent_by, writes_of}

pub record Piece : Type 0 where
  pub moves : List NetMove
  pub tests : List NetExpr
  pub edges : List NetEdge

abbrev pub no_piece : Piece
no_piece = record { moves = []; tests = []; edges = [] }

-- one after the other
abbrev pub beside : Piece → Piece → Piece
beside p q = record { moves = p.moves ++ q.moves; tests = p.tests ++ q.tests; edges = p.edges ++ q.edges }

abbrev pub joined : List Piece → Piece
joined [] = no_piece
joined (p ∷ ps) = beside p (joined ps)

-- the choice for event e that has these parts
abbrev pub choice_of : ℕ → Piece → NetChoice
choice_of e p = record {
  event = e;
  moves = p.moves;
  test = all_hold p.tests;
  sent = sent_by p.edges;
  writes = writes_of p.edges;
  invariants = [];
}

-- an automaton that takes part, and what it may do
pub record Cell : Type 0 where
  pub auto : ℕ
  pub options : List (Option ℕ)

abbrev pub edge_of : List NetAuto → (auto edge : ℕ) → Option NetEdge
edge_of autos k x = elim (slice_get autos k) [ None ↦ None | Some a ↦ slice_get a.edges x ]

-- it takes an edge
abbrev pub taking : (auto edge : ℕ) → Option NetEdge → Piece
taking k x None = record { moves = record { auto = k; edge = Some x } ∷ []; tests = []; edges = [] }
taking k x (Some y) = record { moves = record { auto = k; edge = Some x } ∷ []; tests = opens k y; edges = y ∷ [] }

-- that none of the edges that it may take is open
abbrev pub closed : List NetAuto → (auto : ℕ) → List (Option ℕ) → List NetExpr
closed autos k [] = []
closed autos k (None ∷ os) = closed autos k os
closed autos k (Some x ∷ os) = elim (edge_of autos k x) [ None ↦ closed autos k os | Some y ↦ fails (all_hold (opens k y)) ∷ closed autos k os ]

abbrev pub piece_of : List NetAuto → Cell → Option ℕ → Piece
piece_of autos c (Some x) = taking c.auto x (edge_of autos c.auto x)
piece_of autos c None = record { moves = record { auto = c.auto; edge = None } ∷ []; tests = closed autos c.auto c.options; edges = [] }
