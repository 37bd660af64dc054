-- What it means that values are told as a system assigns them.
use Rattle.std.specs.Prelude.{◌≡◌, ◌<◌, ℕ, ℤ, map, length, Some, slice_get}
use Rattle.grammar.specs.Pieces.{Text}
use Rattle.cif_system.specs.System.{Automaton, Edge, State, System}
use Rattle.cif_why_model.specs.Told.{Assigned, AutomatonTold, EdgeTold, Told, ValueTold}

abbrev pub pair_of : Assigned → ℕ × ℤ
pair_of w = (w.variable, w.value)

-- The values that are assigned are those of the edge, each with the number of one of its values that goes to the same variable, by
-- the names of variables. Where one is sent, it is one of them.
pub record TellsEdge (names : ℕ → Text) (x : Edge) (y : EdgeTold) : Type 0 where
  pub assigned : (s : State) (r : ℤ) → map pair_of (y.assigned s r) ≡ x.assigned s r
  pub numbered : (s : State) (r : ℤ) (l : ℕ) (w : Assigned) → slice_get (y.assigned s r) l ≡ Some w
      → (v : ValueTold) × (slice_get y.values w.number ≡ Some v) × (v.path ≡ names w.variable)
  pub sent : (s : State) (z : ℤ) → x.sent s ≡ Some z → 0 < length y.values

abbrev pub TellsEdges : (names : ℕ → Text) → Automaton → AutomatonTold → Type 0
TellsEdges names a b = (j : ℕ) (x : Edge) → slice_get a.edges j ≡ Some x → (y : EdgeTold) × (slice_get b.edges j ≡ Some y) × TellsEdge names x y

-- each edge of each automaton is told of
abbrev pub TellsOf : (names : ℕ → Text) → System → Told → Type 0
TellsOf names m t = (k : ℕ) (a : Automaton) → slice_get m.automata k ≡ Some a → (b : AutomatonTold) × (slice_get t.automata k ≡ Some b) × TellsEdges names a b
