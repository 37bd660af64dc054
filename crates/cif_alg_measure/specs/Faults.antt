-- Why an expression has no interval of 64 bits.
use Rattle.std.specs.Prelude.{◌≡◌, pos, true, false}
use Rattle.cif_system.specs.System.{in_range}
use Rattle.cif_system.specs.Words.{Member}
use Rattle.cif_net_expr.specs.Tree.{NetExpr}
use Rattle.cif_net_model.specs.Interval.{Ranges, range_of}
use Rattle.cif_net_model.specs.Exprs.{expr_at}
use Rattle.cif_net_model.specs.Parts.{parts, divisors, is_narrow}
use Rattle.cif_alg_measure.specs.declared.error.WidthErr.{WidthErr}
use Rattle.cif_alg_measure.specs.declared.error.WidthErr.TheVariants.{ZeroDivisor, TooWide}

-- the interval of a divisor in the expression that begins there has 0, or that of a part that begins there leaves 64 bits
abbrev pub HasFault : Ranges → NetExpr → WidthErr → Type 0
HasFault g e (ZeroDivisor at) = (d : NetExpr) × Member d (divisors e) × (expr_at d ≡ at) × (in_range (range_of g d) (pos 0) ≡ true)
HasFault g e (TooWide at) = (p : NetExpr) × Member p (parts e) × (expr_at p ≡ at) × (is_narrow (range_of g p) ≡ false)
