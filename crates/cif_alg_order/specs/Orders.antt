-- An order of the algebraic variables of a net in which each stands after those that its definitions name, and why there is
-- none.
use Rattle.std.specs.Prelude.{ℕ, ◌<◌, List, length, Some}
use Rattle.cif_system.specs.Words.{Member, AreDistinct, Before}
use Rattle.cif_order.specs.Graph.{IsLowest}
use Rattle.cif_net_model.specs.Net.{Net}
use Rattle.cif_net_model.specs.Rules.{Needs, AlgCycle}
use Rattle.cif_alg_order.specs.declared.error.AlgebraicErr.{AlgebraicErr}
use Rattle.cif_alg_order.specs.declared.error.AlgebraicErr.TheVariants as err

-- the list has each algebraic variable once and nothing else, and each that a definition of j names stands before j
pub record IsOrderOf (n : Net) (order : List ℕ) : Type 0 where
  pub each : (k : ℕ) → k < length n.algs → Member k order
  pub only : (k : ℕ) → Member k order → k < length n.algs
  pub once : AreDistinct order
  pub after : (j k : ℕ) → Needs n j k → Before k j order

-- each algebraic variable has a rank below their number, and one that a definition of j names has a lower one than j
pub record IsRankOf (n : Net) (rank : ℕ → ℕ) : Type 0 where
  pub within : (k : ℕ) → k < length n.algs → rank k < length n.algs
  pub falls : (j k : ℕ) → Needs n j k → rank k < rank j

-- the lowest one that depends on itself; of want of memory nothing is said
abbrev pub due : Net → AlgebraicErr → Type 0
due n (err.Cycle alg) = AlgCycle n alg
due n err.Memory = Unit {0}

-- the same of a graph of needs
abbrev pub graph_due : List (List ℕ) → AlgebraicErr → Type 0
graph_due needs (err.Cycle alg) = IsLowest needs (Some alg)
graph_due needs err.Memory = Unit {0}
