-- Helper of the code: the interval of an algebraic variable, given those that its definitions name, or why it has none.
use Rattle.std.specs.Prelude.{◌≡◌, ℕ, pos, List, [], ◌∷◌, take, Option, Some, None, slice_get}
use Rattle.cif_base.specs.Bounds.{Bounds, between, join_bounds}
use Rattle.cif_system.specs.System.{Range}
use Rattle.cif_system.specs.Words.{Member}
use Rattle.cif_net_expr.specs.Tree.{NetExpr}
use Rattle.cif_net_model.specs.Net.{NetAlg}
use Rattle.cif_net_model.specs.Exprs.{alg_exprs}
use Rattle.cif_net_model.specs.Unfolding.{at_or}
use Rattle.cif_net_model.specs.Interval.{point, truths, as_bounds, as_range, Ranges, range_of, with_algs, alg_range}
use Rattle.cif_alg_measure.specs.declared.error.WidthErr.{WidthErr}
use Rattle.cif_alg_measure.specs.declared.error.IntervalErr.{IntervalErr}
use Rattle.cif_alg_measure.specs.declared.error.IntervalErr.TheVariants.{Width, Memory}
use Rattle.cif_alg_measure.specs.declared.declared.Declared.{Declared}
use Rattle.cif_alg_measure.specs.Meanings.{table_range}
use Rattle.cif_alg_measure.specs.Faults.{HasFault}
use Rattle.cif_alg_order.specs.Filled.{filled}

abbrev pub zero_bounds : Bounds
zero_bounds = between (pos 0) (pos 0)

-- with the intervals of algebraic variables
abbrev pub with_table : Ranges → (ℕ → Bounds) → Ranges
with_table g table = with_algs g (λ k. as_range (table k))

-- the declared ranges, where nothing is received
abbrev pub stored_ranges : Declared → Ranges
stored_ranges d = record { vars = table_range d.vars; inputs = table_range d.inputs; algs = λ k. point (pos 0); received = truths }

-- where g has the ranges of all but the algebraic variables
abbrev pub alg_bounds : Ranges → (ℕ → Bounds) → NetAlg → Bounds
alg_bounds g table a = as_bounds (alg_range (range_of (with_table g table)) a)

-- ---- the join of intervals, with the join so far

abbrev pub join_more : Option Bounds → Range → Bounds
join_more None r = as_bounds r
join_more (Some a) r = join_bounds a (as_bounds r)

abbrev pub joined_all : Option Bounds → List Range → Option Bounds
joined_all a [] = a
joined_all a (r ∷ rs) = joined_all (Some (join_more a r)) rs

abbrev pub bounds_or_zero : Option Bounds → Bounds
bounds_or_zero None = zero_bounds
bounds_or_zero (Some a) = a

-- ---- faults

-- one of the expressions has the fault
abbrev pub ExprFault : Ranges → List NetExpr → WidthErr → Type 0
ExprFault g es w = (e : NetExpr) × Member e es × HasFault g e w

-- a definition has the fault
abbrev pub DefinitionFault : Ranges → NetAlg → WidthErr → Type 0
DefinitionFault g a w = ExprFault g (alg_exprs a) w

-- the algebraic variable that comes next has the fault, over the table that was filled up to it
abbrev pub FaultAt : Ranges → List NetAlg → List ℕ → WidthErr → Type 0
FaultAt g ds order w =
    (i : ℕ) × (k : ℕ) × (a : NetAlg) × (slice_get order i ≡ Some k) × (slice_get ds k ≡ Some a)
    × DefinitionFault (with_table g (at_or zero_bounds (filled zero_bounds (alg_bounds g) ds (take i order)))) a w

abbrev pub FaultAlong : Ranges → List NetAlg → List ℕ → IntervalErr → Type 0
FaultAlong g ds order (Width w) = FaultAt g ds order w
FaultAlong g ds order Memory = Unit {0}
