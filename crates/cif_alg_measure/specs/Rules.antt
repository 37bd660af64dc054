-- The rules on divisors that may be 0 and on values wider than 64 bits, over the declared ranges of a net.
use Rattle.std.specs.Prelude.{ℕ, Bool}
use Rattle.cif_net_model.specs.Net.{Net}
use Rattle.cif_net_model.specs.Interval.{declared_ranges}
use Rattle.cif_net_model.specs.Parts.{divides, is_narrow_expr}
use Rattle.cif_net_model.specs.Rules as rules
use Rattle.cif_net_model.specs.Rules.{Evaluated}
use Rattle.cif_alg_measure.specs.declared.error.WidthErr.TheVariants.{ZeroDivisor, TooWide}
use Rattle.cif_alg_measure.specs.declared.error.IntervalErr.{IntervalErr}
use Rattle.cif_alg_measure.specs.declared.error.IntervalErr.TheVariants.{Width, Memory}

abbrev pub declared_divides : Net → Evaluated → Bool
declared_divides n x = divides (declared_ranges n x.received) x.value

abbrev pub declared_is_narrow : Net → Evaluated → Bool
declared_is_narrow n x = is_narrow_expr (declared_ranges n x.received) x.value

abbrev pub NoZeroDivisor : Net → Type 0
NoZeroDivisor n = (at : ℕ) → rules.ZeroDivisor n at → ⊥

abbrev pub NoneTooWide : Net → Type 0
NoneTooWide n = (at : ℕ) → rules.TooWide n at → ⊥

-- the rule is broken; of want of memory nothing is said
abbrev pub due : Net → IntervalErr → Type 0
due n (Width (ZeroDivisor at)) = rules.ZeroDivisor n at
due n (Width (TooWide at)) = rules.TooWide n at
due n Memory = Unit {0}
