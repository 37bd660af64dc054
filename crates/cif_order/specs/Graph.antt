-- A graph of needs as a list for each node, an order of its nodes, and the lowest node that reaches itself.
use Rattle.std.specs.Prelude.{ℕ, ◌<◌, List, [], length, slice_index_or, Option, None, Some}
use Rattle.cif_system.specs.Words.{Member, AreDistinct, Before, Chain}

-- the nodes that a node needs; one past the last needs none
abbrev pub needs_of : List (List ℕ) → ℕ → List ℕ
needs_of needs x = slice_index_or needs x []

-- node x needs node y
abbrev pub Needs : List (List ℕ) → ℕ → ℕ → Type 0
Needs needs x y = Member y (needs_of needs x)

-- each need is a node
abbrev pub AreInside : List (List ℕ) → Type 0
AreInside needs = (x y : ℕ) → Needs needs x y → y < length needs

-- the list has each node once and nothing else, and each need of a node stands before it
pub record IsOrder (needs : List (List ℕ)) (order : List ℕ) : Type 0 where
  pub each : (x : ℕ) → x < length needs → Member x order
  pub only : (x : ℕ) → Member x order → x < length needs
  pub once : AreDistinct order
  pub after : (x y : ℕ) → Needs needs x y → Before y x order

-- node x reaches itself through needs
abbrev pub IsCyclic : List (List ℕ) → ℕ → Type 0
IsCyclic needs x = Chain (Needs needs) x x

-- it is the lowest node that reaches itself, or there is none
abbrev pub IsLowest : List (List ℕ) → Option ℕ → Type 0
IsLowest needs None = (x : ℕ) → IsCyclic needs x → ⊥
IsLowest needs (Some n) = IsCyclic needs n × ((x : ℕ) → x < n → IsCyclic needs x → ⊥)

-- each node has a rank below the number of nodes, and a need has a lower one than the node that needs it
pub record IsRank (needs : List (List ℕ)) (rank : ℕ → ℕ) : Type 0 where
  pub within : (x : ℕ) → x < length needs → rank x < length needs
  pub falls : (x y : ℕ) → Needs needs x y → rank y < rank x
