-- Helper of the code: how the refusals of algebraic variables without an order, and of expressions without intervals, are told.
use Rattle.cif_alg_measure.specs.declared.error.WidthErr.TheVariants as width
use Rattle.cif_alg_measure.specs.declared.error.IntervalErr.{IntervalErr}
use Rattle.cif_alg_measure.specs.declared.error.IntervalErr.TheVariants as interval
use Rattle.cif_alg_order.specs.declared.error.AlgebraicErr.{AlgebraicErr}
use Rattle.cif_alg_order.specs.declared.error.AlgebraicErr.TheVariants as algebraic
use Rattle.cif_alg.specs.declared.error.AlgErr.{AlgErr}
use Rattle.cif_alg.specs.declared.error.AlgErr.TheVariants as err

abbrev pub interval_refusal : IntervalErr → AlgErr
interval_refusal (interval.Width (width.ZeroDivisor at)) = err.ZeroDivisor at
interval_refusal (interval.Width (width.TooWide at)) = err.TooWide at
interval_refusal interval.Memory = err.Memory

abbrev pub order_refusal : AlgebraicErr → AlgErr
order_refusal (algebraic.Cycle alg) = err.Cycle alg
order_refusal algebraic.Memory = err.Memory
