-- Helper of the code: the rule on kinds, body by body.
use Rattle.std.specs.Prelude.{ℕ, ◌<◌}
use Rattle.cif_source.specs.Source.{Source}
use Rattle.cif_source.specs.Components.{Component}
use Rattle.cif_source.specs.BodyRules.{BadValue, BadUse, BadArgument, MismatchDue}
use Rattle.cif_scope.specs.Tables.{IsBody}
use Rattle.cif_types_kinds.specs.declared.error.KindErr.{KindErr}
use Rattle.cif_types_kinds.specs.declared.error.KindErr.TheVariants.{Mismatch, Memory}

-- the expressions, the uses of events and the arguments of body k keep the rule
pub record IsFine (t : Source) (k : ℕ) : Type 0 where
  pub values : (c : Component) → IsBody t k c → (at : ℕ) → BadValue c at → ⊥
  pub events : (c : Component) → IsBody t k c → (at : ℕ) → BadUse c at → ⊥
  pub arguments : (c : Component) → IsBody t k c → (at : ℕ) → BadArgument c at → ⊥

-- so do those of the bodies below n
abbrev pub AreFine : Source → ℕ → Type 0
AreFine t n = (k : ℕ) → k < n → IsFine t k

-- the rule is broken at the place that is told; of want of memory nothing is said
abbrev pub MismatchTold : Source → KindErr → Type 0
MismatchTold t (Mismatch at) = MismatchDue t at
MismatchTold t Memory = Unit {0}
