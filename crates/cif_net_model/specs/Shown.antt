-- Which values the guard of an edge shows to lie in their ranges, in a net that names no algebraic variable.
use Rattle.std.specs.Prelude.{ℕ, ℤ, pos, ◌+ℤ◌, ◌-ℤ◌, int_lt, int_le, Bool, true, false, not, ◌&&◌, ◌||◌, nat_eq, List, [], ◌∷◌, ◌++◌, map, Option, Some, None, slice_get, option_and_then, if◌then◌else◌}
use Rattle.std.specs.List.{list_any, enumerate_from}
use Rattle.std.specs.Int.{int_min, int_max}
use Rattle.cif_base.specs.declared.types.Ty.{Ty}
use Rattle.cif_base.specs.declared.types.Ty.TheVariants as ty
use Rattle.cif_system.specs.System.{Range}
use Rattle.cif_net_expr.specs.Tree.{CmpOp, eq, ne, lt, le, gt, ge, NetExpr, net_expr, NetForm, n_var, n_input, n_compare, n_and, NetExprs, no_net_exprs, net_exprs}
use Rattle.cif_net_model.specs.Net.{NetChan, net_chan_of, NetEdge, NetStored, Net}
use Rattle.cif_net_model.specs.Value.{net_value}
use Rattle.cif_net_model.specs.Meaning.{type_range}
use Rattle.cif_net_model.specs.Interval.{Ranges, range_of, between, point, truths}
use Rattle.cif_net_model.specs.Exprs.{Written, writes_all}
use Rattle.cif_net_model.specs.Facts.{channel_of}
use Rattle.cif_net_model.specs.Reads.{Read, a_var, an_input, is_fixed}

-- ---- conjuncts

abbrev mutual
  pub conjuncts : NetExpr → List NetExpr
  conjuncts (net_expr f at) = form_conjuncts at f

  pub form_conjuncts : ℕ → NetForm → List NetExpr
  form_conjuncts at (n_and es) = list_conjuncts es
  form_conjuncts at f = net_expr f at ∷ []

  pub list_conjuncts : NetExprs → List NetExpr
  list_conjuncts no_net_exprs = []
  list_conjuncts (net_exprs e es) = conjuncts e ++ list_conjuncts es

-- ---- narrowing

-- the numbers of the range that stand so to k
abbrev pub cut : CmpOp → ℤ → Range → Range
cut eq k r = between (int_max r.lo k) (int_min r.hi k)
cut ne k r = r
cut lt k r = between r.lo (int_min r.hi (k -ℤ pos 1))
cut le k r = between r.lo (int_min r.hi k)
cut gt k r = between (int_max r.lo (k +ℤ pos 1)) r.hi
cut ge k r = between (int_max r.lo k) r.hi

-- the operands of a comparison exchanged
abbrev pub turned : CmpOp → CmpOp
turned eq = eq
turned ne = ne
turned lt = gt
turned le = ge
turned gt = lt
turned ge = le

-- the expression is the variable or the input alone
abbrev pub is_the : Read → NetExpr → Bool
is_the (a_var k) (net_expr (n_var v) at) = nat_eq v k
is_the (an_input k) (net_expr (n_input v) at) = nat_eq v k
is_the _ _ = false

-- the value of an expression that reads nothing
abbrev pub fixed_value : NetExpr → ℤ
fixed_value e = net_value (λ k. pos 0) (record { locs = []; vals = []; ins = [] }) (pos 0) e

abbrev pub cut_if : Bool → CmpOp → ℤ → Range → Range
cut_if true op k r = cut op k r
cut_if false op k r = r

-- by a conjunct `v op k` or `k op v`
abbrev pub narrowed_by : Read → NetExpr → Range → Range
narrowed_by v (net_expr (n_compare a op b) at) r =
    cut_if (is_the v a && is_fixed b) op (fixed_value b)
    (cut_if (is_the v b && is_fixed a) (turned op) (fixed_value a) r)
narrowed_by v _ r = r

abbrev pub narrowed_all : Read → List NetExpr → Range → Range
narrowed_all v [] r = r
narrowed_all v (e ∷ es) r = narrowed_by v e (narrowed_all v es r)

abbrev pub is_int_type : Ty → Bool
is_int_type (ty.Int lo hi) = true
is_int_type _ = false

-- integer variables and inputs are narrowed by the conjuncts of the guard
abbrev pub narrowed : NetExpr → Read → Option NetStored → Range
narrowed guard v None = point (pos 0)
narrowed guard v (Some x) = if is_int_type x.type_of then narrowed_all v (conjuncts guard) (type_range x.type_of) else type_range x.type_of

-- the range of what is sent along the event
abbrev pub channel_range : NetChan → Range
channel_range (net_chan_of t) = type_range t
channel_range _ = truths

-- the ranges under the guard of an edge
abbrev pub guarded_ranges : Net → NetEdge → Ranges
guarded_ranges n x = record {
  vars = λ k. narrowed x.guard (a_var k) (slice_get n.vars k);
  inputs = λ k. narrowed x.guard (an_input k) (slice_get n.inputs k);
  algs = λ k. point (pos 0);
  received = channel_range (channel_of n x.event);
}

-- ---- values and their targets

abbrev pub is_empty : Range → Bool
is_empty r = int_lt r.hi r.lo

abbrev pub is_within : Range → Range → Bool
is_within a b = int_le b.lo a.lo && int_le a.hi b.hi

-- the range of some integer variable or input is empty, so that no state meets the guard
abbrev pub some_empty : Net → NetEdge → Bool
some_empty n x =
    list_any (λ (v : ℕ × NetStored). is_int_type v.1.type_of && is_empty (narrowed x.guard (a_var v.0) (Some v.1))) (enumerate_from 0 n.vars)
    || list_any (λ (v : ℕ × NetStored). is_int_type v.1.type_of && is_empty (narrowed x.guard (an_input v.0) (Some v.1))) (enumerate_from 0 n.inputs)

-- a value, and the type of what it is sent on or assigned to
abbrev pub Targeted : Type 0
Targeted = Option Ty × NetExpr

abbrev pub channel_type : NetChan → Option Ty
channel_type (net_chan_of t) = Some t
channel_type _ = None

abbrev pub var_type : Option NetStored → Option Ty
var_type None = None
var_type (Some v) = Some v.type_of

abbrev pub sent_targeted : Net → NetEdge → List Targeted
sent_targeted n x = elim x.sent [ None ↦ [] | Some e ↦ (channel_type (channel_of n x.event), e) ∷ [] ]

-- the values of an edge: the sent one, and then the right sides in the order of the text
abbrev pub targeted_values : Net → NetEdge → List Targeted
targeted_values n x = sent_targeted n x ++ map (λ (w : Written). (var_type (slice_get n.vars w.var), w.value)) (writes_all x.updates)

-- booleans and literals are always shown
abbrev pub targeted_shown : Net → NetEdge → Targeted → Bool
targeted_shown n x (None, e) = false
targeted_shown n x (Some t, e) = not (is_int_type t) || some_empty n x || is_within (range_of (guarded_ranges n x) e) (type_range t)

abbrev pub edge_of : Net → (auto edge : ℕ) → Option NetEdge
edge_of n a k = option_and_then (λ x. slice_get x.edges k) (slice_get n.autos a)

abbrev pub shown_value : Net → NetEdge → Option Targeted → Bool
shown_value n x None = false
shown_value n x (Some v) = targeted_shown n x v

-- the guard of an edge shows its value at a place
abbrev pub is_shown : Net → (auto edge place : ℕ) → Bool
is_shown n a k p = elim (edge_of n a k) [ None ↦ false | Some x ↦ shown_value n x (slice_get (targeted_values n x) p) ]
