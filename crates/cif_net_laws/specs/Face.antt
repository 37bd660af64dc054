-- What two nets have in common that differ in their expressions alone: events, inputs and variables, and of automata, edges,
-- algebraic variables, exclusions and state invariants all but their expressions.
use Rattle.std.specs.Prelude.{◌≡◌, true, [], map, None}
use Rattle.cif_net_expr.specs.Tree.{NetExpr, net_expr, n_truth, no_net_updates}
use Rattle.cif_net_model.specs.Net.{NetEdge, NetAuto, by_loc, NetAlg, NetExclusion, NetInvariant, Net}

-- in the place of an expression
abbrev pub no_expr : NetExpr
no_expr = net_expr (n_truth true) 0

-- event, role, ends and places
abbrev pub bare_edge : NetEdge → NetEdge
bare_edge x = record x { guard = no_expr; sent = None; updates = no_net_updates }

-- path, locations, first place, alphabet, monitors and bare edges
abbrev pub bare_auto : NetAuto → NetAuto
bare_auto a = record a { edges = map bare_edge a.edges }

-- path, type and literals
abbrev pub bare_alg : NetAlg → NetAlg
bare_alg a = record a { value = by_loc 0 [] }

-- event, and whether the event needs the predicate
abbrev pub bare_exclusion : NetExclusion → NetExclusion
bare_exclusion x = record x { pred = no_expr }

-- its place
abbrev pub bare_invariant : NetInvariant → NetInvariant
bare_invariant i = record i { pred = no_expr }

pub record HasSameFace (n p : Net) : Type 0 where
  pub events : p.events ≡ n.events
  pub inputs : p.inputs ≡ n.inputs
  pub vars : p.vars ≡ n.vars
  pub autos : map bare_auto p.autos ≡ map bare_auto n.autos
  pub algs : map bare_alg p.algs ≡ map bare_alg n.algs
  pub exclusions : map bare_exclusion p.exclusions ≡ map bare_exclusion n.exclusions
  pub invariants : map bare_invariant p.invariants ≡ map bare_invariant n.invariants
