-- The rules about algebraic variables, intervals, state invariants and sizes that a net may break, and what a net keeps
-- in which algebraic variables are replaced by their definitions.
use Rattle.std.specs.Prelude.{◌≡◌, ℕ, ◌<◌, pos, Bool, true, false, not, ◌&&◌, List, ◌++◌, map, flat_map, Some, slice_get}
use Rattle.std.specs.List.{list_all}
use Rattle.cif_system.specs.System.{Range, initial, in_range}
use Rattle.cif_system.specs.Words.{Member, Chain}
use Rattle.cif_net_expr.specs.Tree.{NetExpr}
use Rattle.cif_net_model.specs.Net.{NetEdge, NetAlg, NetInvariant, Net}
use Rattle.cif_net_model.specs.Meaning.{true_in, system_of_net}
use Rattle.cif_net_model.specs.Interval.{interval, declared_ranges, truths}
use Rattle.cif_net_model.specs.Exprs.{expr_at, alg_exprs, edge_exprs, all_edges, other_exprs}
use Rattle.cif_net_model.specs.Facts.{channel_of, is_net}
use Rattle.cif_net_model.specs.Reads.{an_alg, names_in, names_no_alg, reads_input}
use Rattle.cif_net_model.specs.Parts.{parts, divisors, divides, is_narrow, is_narrow_expr}
use Rattle.cif_net_model.specs.Counts.{nodes, depth, stopped, most_nodes, most_depth, is_too_large}
use Rattle.cif_net_model.specs.Shown.{channel_range}

-- ---- algebraic variables that need one another

-- a definition of algebraic variable j names k
abbrev pub Needs : Net → ℕ → ℕ → Type 0
Needs n j k = (a : NetAlg) × (slice_get n.algs j ≡ Some a) × Member (an_alg k) (flat_map names_in (alg_exprs a))

abbrev pub IsCyclic : Net → ℕ → Type 0
IsCyclic n k = Chain (Needs n) k k

-- the lowest-numbered one that depends on itself
abbrev pub AlgCycle : Net → ℕ → Type 0
AlgCycle n alg = IsCyclic n alg × ((k : ℕ) → k < alg → IsCyclic n k → ⊥)

abbrev pub IsAcyclic : Net → Type 0
IsAcyclic n = (k : ℕ) → IsCyclic n k → ⊥

-- The rules from here on to that of sizes are asked only where no algebraic variable depends on itself.

-- ---- intervals

-- an expression that is evaluated, with the range of the received value
pub record Evaluated : Type 0 where
  pub value : NetExpr
  pub received : Range

abbrev pub edge_evaluated : Net → NetEdge → List Evaluated
edge_evaluated n x = map (λ e. record { value = e; received = channel_range (channel_of n x.event) }) (edge_exprs x)

-- guards, sent values, updates, exclusions, state invariants and values of algebraic variables
abbrev pub evaluated : Net → List Evaluated
evaluated n = flat_map (edge_evaluated n) (all_edges n) ++ map (λ e. record { value = e; received = truths }) (other_exprs n)

abbrev pub ZeroDivisor : Net → ℕ → Type 0
ZeroDivisor n at =
    IsAcyclic n × (x : Evaluated) × (d : NetExpr) × Member x (evaluated n) × Member d (divisors x.value) × (expr_at d ≡ at) × (in_range (interval n x.received d) (pos 0) ≡ true)

abbrev pub TooWide : Net → ℕ → Type 0
TooWide n at =
    IsAcyclic n × (x : Evaluated) × (p : NetExpr) × Member x (evaluated n) × Member p (parts x.value) × (expr_at p ≡ at) × (is_narrow (interval n x.received p) ≡ false)

-- ---- state invariants

abbrev pub InvariantReadsInput : Net → ℕ → Type 0
InvariantReadsInput n at = IsAcyclic n × (i : NetInvariant) × Member i n.invariants × (i.at ≡ at) × (reads_input n i.pred ≡ true)

abbrev pub holds_first : Net → NetExpr → Bool
holds_first n p = true_in n (initial (system_of_net n)) p

abbrev pub InvariantFalse : Net → ℕ → Type 0
InvariantFalse n at = IsAcyclic n × (i : NetInvariant) × Member i n.invariants × (i.at ≡ at) × (reads_input n i.pred ≡ false) × (holds_first n i.pred ≡ false)

-- ---- counts

abbrev pub TooLarge : Net → (nodes depth : ℕ) → Type 0
TooLarge n a b = IsAcyclic n × (is_too_large n ≡ true) × (a ≡ stopped most_nodes (nodes n)) × (b ≡ stopped most_depth (depth n))

-- ---- what a plain net keeps

-- It names no algebraic variable, no divisor's interval has 0, and the interval of each part is in 64 bits.
abbrev pub is_plain_expr : Net → Evaluated → Bool
is_plain_expr n x = names_no_alg x.value && divides (declared_ranges n x.received) x.value && is_narrow_expr (declared_ranges n x.received) x.value

-- it reads no input, and holds in the initial state
abbrev pub invariant_keeps : Net → NetInvariant → Bool
invariant_keeps n i = not (reads_input n i.pred) && holds_first n i.pred

abbrev pub is_plain : Net → Bool
is_plain n = is_net n
    && list_all (is_plain_expr n) (evaluated n)
    && list_all (invariant_keeps n) n.invariants
    && not (is_too_large n)
