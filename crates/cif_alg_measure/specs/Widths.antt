-- Whether all expressions that a net evaluates have intervals of 64 bits, in their order.
use Rattle.std.specs.Prelude.{Bool, List, [], ◌∷◌, Option, Some, None, Result, Ok}
use Rattle.cif_system.specs.System.{Range}
use Rattle.cif_system.specs.Words.{Member}
use Rattle.cif_net_expr.specs.Tree.{NetExpr, NetUpdate, net_set, net_choose, NetUpdates, no_net_updates, net_updates, NetUpdateBranches, no_net_update_branches, net_update_branches}
use Rattle.cif_net_model.specs.Net.{NetEdge, NetAuto, NetEvent, one_value, by_loc, NetAlg, NetExclusion, NetInvariant, Net}
use Rattle.cif_net_model.specs.Interval.{as_range, truths, Ranges}
use Rattle.cif_net_model.specs.Parts.{divides, is_narrow_expr}
use Rattle.cif_net_model.specs.Rules.{Evaluated}
use Rattle.cif_alg_measure.specs.declared.error.WidthErr.{WidthErr}
use Rattle.cif_alg_measure.specs.Checked.{◌>>=◌, checked}
use Rattle.cif_alg_measure.specs.TypeBounds.{received_bounds}
use Rattle.cif_alg_measure.specs.Faults.{HasFault}

abbrev pub with_received : Ranges → Range → Ranges
with_received g r = record g { received = r }

-- ---- the rules, where g has the ranges of all but the received value

abbrev pub evaluated_divides : Ranges → Evaluated → Bool
evaluated_divides g x = divides (with_received g x.received) x.value

abbrev pub evaluated_is_narrow : Ranges → Evaluated → Bool
evaluated_is_narrow g x = is_narrow_expr (with_received g x.received) x.value

-- one of them breaks a rule
abbrev pub SomeFault : Ranges → List Evaluated → WidthErr → Type 0
SomeFault g xs e = (x : Evaluated) × Member x xs × HasFault (with_received g x.received) x.value e

-- ---- the answer, one after the other

abbrev pub checked_exprs : Ranges → List NetExpr → Result (Unit {0}) WidthErr
checked_exprs g [] = Ok tt
checked_exprs g (e ∷ es) = checked g e >>= λ a. checked_exprs g es

abbrev mutual
  pub checked_updates : Ranges → NetUpdates → Result (Unit {0}) WidthErr
  checked_updates g no_net_updates = Ok tt
  checked_updates g (net_updates u us) = checked_update g u >>= λ d. checked_updates g us

  pub checked_update : Ranges → NetUpdate → Result (Unit {0}) WidthErr
  checked_update g (net_set v e) = checked g e >>= λ a. Ok tt
  checked_update g (net_choose bs us) = checked_branches g bs >>= λ d. checked_updates g us

  pub checked_branches : Ranges → NetUpdateBranches → Result (Unit {0}) WidthErr
  checked_branches g no_net_update_branches = Ok tt
  checked_branches g (net_update_branches c us bs) = checked g c >>= λ a. (checked_updates g us >>= λ d. checked_branches g bs)

abbrev pub checked_sent : Ranges → Option NetExpr → Result (Unit {0}) WidthErr
checked_sent g None = Ok tt
checked_sent g (Some e) = checked g e >>= λ a. Ok tt

abbrev pub checked_edge : Ranges → NetEdge → Result (Unit {0}) WidthErr
checked_edge g x = checked g x.guard >>= λ a. (checked_sent g x.sent >>= λ d. checked_updates g x.updates)

abbrev pub checked_edges : Ranges → List NetEvent → List NetEdge → Result (Unit {0}) WidthErr
checked_edges g events [] = Ok tt
checked_edges g events (x ∷ xs) = checked_edge (with_received g (as_range (received_bounds events x))) x >>= λ d. checked_edges g events xs

abbrev pub checked_autos : Ranges → List NetEvent → List NetAuto → Result (Unit {0}) WidthErr
checked_autos g events [] = Ok tt
checked_autos g events (a ∷ rest) = checked_edges g events a.edges >>= λ d. checked_autos g events rest

abbrev pub checked_exclusions : Ranges → List NetExclusion → Result (Unit {0}) WidthErr
checked_exclusions g [] = Ok tt
checked_exclusions g (x ∷ xs) = checked g x.pred >>= λ a. checked_exclusions g xs

abbrev pub checked_invariants : Ranges → List NetInvariant → Result (Unit {0}) WidthErr
checked_invariants g [] = Ok tt
checked_invariants g (i ∷ is) = checked g i.pred >>= λ a. checked_invariants g is

abbrev pub checked_alg : Ranges → NetAlg → Result (Unit {0}) WidthErr
checked_alg g a = elim a.value [ one_value e ↦ checked g e >>= λ b. Ok tt | by_loc k es ↦ checked_exprs g es ]

abbrev pub checked_algs : Ranges → List NetAlg → Result (Unit {0}) WidthErr
checked_algs g [] = Ok tt
checked_algs g (a ∷ rest) = checked_alg g a >>= λ d. checked_algs g rest

abbrev pub checked_others : Ranges → Net → Result (Unit {0}) WidthErr
checked_others g n = checked_exclusions g n.exclusions >>= λ d. (checked_invariants g n.invariants >>= λ d. checked_algs g n.algs)

abbrev pub checked_net : Ranges → Net → Result (Unit {0}) WidthErr
checked_net g n = checked_autos g n.events n.autos >>= λ d. checked_others (with_received g truths) n
