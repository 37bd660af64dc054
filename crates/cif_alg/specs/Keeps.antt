-- What a plain net says of the net that it was made from, and why a net is not made plain.
use Rattle.std.specs.Prelude.{ℕ}
use Rattle.cif_net_model.specs.Net.{Net}
use Rattle.cif_net_model.specs.Rules.{AlgCycle, ZeroDivisor, TooWide, InvariantReadsInput, InvariantFalse, TooLarge}
use Rattle.cif_alg.specs.declared.error.AlgErr.{AlgErr}
use Rattle.cif_alg.specs.declared.error.AlgErr.TheVariants as err

-- none of the rules on algebraic variables, divisors, intervals and sizes is broken
pub record KeepsExpressions (n : Net) : Type 0 where
  pub acyclic : (alg : ℕ) → AlgCycle n alg → ⊥
  pub divides : (at : ℕ) → ZeroDivisor n at → ⊥
  pub narrow : (at : ℕ) → TooWide n at → ⊥
  pub small : (nodes depth : ℕ) → TooLarge n nodes depth → ⊥

-- nor one of those on state invariants
pub record KeepsAlgebraic (n : Net) : Type 0 where
  pub acyclic : (alg : ℕ) → AlgCycle n alg → ⊥
  pub divides : (at : ℕ) → ZeroDivisor n at → ⊥
  pub narrow : (at : ℕ) → TooWide n at → ⊥
  pub free : (at : ℕ) → InvariantReadsInput n at → ⊥
  pub holds : (at : ℕ) → InvariantFalse n at → ⊥
  pub small : (nodes depth : ℕ) → TooLarge n nodes depth → ⊥

-- the rule of the refusal is broken, with its fields; of want of memory nothing is said
abbrev pub due : Net → AlgErr → Type 0
due n (err.Cycle alg) = AlgCycle n alg
due n (err.ZeroDivisor at) = ZeroDivisor n at
due n (err.TooWide at) = TooWide n at
due n (err.InvariantReadsInput at) = InvariantReadsInput n at
due n (err.InvariantFalse at) = InvariantFalse n at
due n (err.TooLarge nodes depth) = TooLarge n nodes depth
due n err.Memory = Unit {0}
