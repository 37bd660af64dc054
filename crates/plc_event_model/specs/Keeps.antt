-- What is asked of the values and places after a choice (CIF 3 language reference, "Invariants"): the state invariants that depend
-- on something that the choice may change. They are evaluated over the new values, before any of these is stored.
use Rattle.std.specs.Prelude.{ℕ, Bool, false, nat_eq, List, [], ◌∷◌, filter, filter_map, Option, Some, None, is_some, option_and_then, option_map, slice_get, if◌then◌else◌}
use Rattle.std.specs.List.{list_any}
use Rattle.cif_net_expr.specs.Tree.{NetExpr}
use Rattle.cif_net_model.specs.Exprs.{targets}
use Rattle.cif_net_model.specs.Facts.{has}
use Rattle.cif_net_model.specs.Listing.{NetChoice, all_hold, edge_at, edge_in}
use Rattle.cif_net_model.specs.Net.{NetEdge, NetAuto, NetInvariant, Net}
use Rattle.cif_net_model.specs.Reads.{Read, a_var, a_place, names_in}
use Rattle.grammar.specs.Pieces.{Text}
use Rattle.st_ast.specs.Tree.{Expr, truth, Stms, append}
use Rattle.plc_frame.specs.Events.{tested}
use Rattle.plc_expr.specs.Texts.{Naming, before, temps, text}
use Rattle.plc_event_model.specs.Writes.{NewNames}

-- ---- what changes

-- the edge that automaton k takes
abbrev pub taken_edge : Net → NetChoice → ℕ → Option NetEdge
taken_edge n c k = option_and_then (λ (a : NetAuto). edge_at (a, edge_in c.moves k)) (slice_get n.autos k)

-- the choice assigns the variable, or takes an edge of the automaton
abbrev pub may_change : Net → NetChoice → Read → Bool
may_change n c (a_var v) = has (targets c.writes) v
may_change n c (a_place k) = is_some (taken_edge n c k)
may_change n c _ = false

abbrev pub depends : Net → NetChoice → NetExpr → Bool
depends n c e = list_any (may_change n c) (names_in e)

-- ---- the invariants that are asked

abbrev pub invariants_at : Net → List ℕ → List NetExpr
invariants_at n ks = filter_map (λ k. option_map (λ (i : NetInvariant). i.pred) (slice_get n.invariants k)) ks

-- the others hold after the choice as they did before it
abbrev pub asked : Net → NetChoice → List NetExpr
asked n c = filter (depends n c) (invariants_at n c.invariants)

-- the own variables of their expressions
abbrev pub kept_temps : Net → NetChoice → ℕ
kept_temps n c = temps (all_hold (asked n c))

-- ---- names after the choice

-- an automaton that takes an edge is known to be where that ends
abbrev pub located_after : Net → Naming → NetChoice → ℕ → ℕ → Expr
located_after n w c k p = elim (taken_edge n c k) [ None ↦ w.located k p | Some x ↦ truth (nat_eq x.to p) ]

-- a variable that is assigned has its new value beside the old one
abbrev pub variable_after : Naming → NewNames → NetChoice → ℕ → Text
variable_after w y c v = if has (targets c.writes) v then y.next v else w.variable v

abbrev pub after_naming : Net → Naming → NewNames → NetChoice → Naming
after_naming n w y c = record {
  located = located_after n w c;
  variable = variable_after w y c;
  input = w.input;
  received = w.received;
  own = w.own;
}

-- ---- statements

-- where these hold, the own variables of whose expressions are numbered from k
abbrev pub where_hold : Naming → ℕ → List NetExpr → Stms → Stms
where_hold w k [] ss = ss
where_hold w k (e ∷ es) ss = append (before w k (all_hold (e ∷ es))) (tested (text w k (all_hold (e ∷ es))) ss)

-- where the invariants hold that are asked
abbrev pub where_kept : Net → Naming → NewNames → ℕ → NetChoice → Stms → Stms
where_kept n w y k c ss = where_hold (after_naming n w y c) k (asked n c) ss
