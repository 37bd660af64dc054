-- What expressions of a net weigh together, and how deep they are.
use Rattle.std.specs.Prelude.{◌≡◌, ℕ, List, [], ◌∷◌, map, sum_by, Option, Some, None}
use Rattle.cif_net_expr.specs.Tree.{NetExpr, NetUpdate, net_set, net_choose, NetUpdates, no_net_updates, net_updates, NetUpdateBranches, no_net_update_branches, net_update_branches}
use Rattle.cif_net_model.specs.Net.{NetEdge, NetAuto, one_value, by_loc, NetAlg, NetExclusion, NetInvariant, Net}
use Rattle.cif_net_model.specs.Counts.{measure_by, alg_measures}
use Rattle.cif_net_model.specs.Counts as counts
use Rattle.cif_alg_measure.specs.declared.measures.Measure.{Measure}
use Rattle.cif_alg_measure.specs.Meanings.{as_measure, stopped_measure}
use Rattle.cif_alg_measure.specs.Counted.{beside_stopped, counted}

abbrev pub sizes_by : (ℕ → counts.Measure) → List NetExpr → ℕ
sizes_by alg es = sum_by (λ e. (measure_by alg e).size) es

-- these are the measures of the net's algebraic variables, where both stop one past the limits
abbrev pub AreMeasured : List Measure → Net → Type 0
AreMeasured ms n = map stopped_measure (map as_measure ms) ≡ map stopped_measure (alg_measures n)

-- ---- one after the other, from the measure so far

abbrev pub exprs_counted : (ℕ → Measure) → Measure → List NetExpr → Measure
exprs_counted alg a [] = a
exprs_counted alg a (e ∷ es) = exprs_counted alg (beside_stopped a (counted alg e)) es

abbrev mutual
  pub updates_counted : (ℕ → Measure) → Measure → NetUpdates → Measure
  updates_counted alg a no_net_updates = a
  updates_counted alg a (net_updates u us) = updates_counted alg (update_counted alg a u) us

  pub update_counted : (ℕ → Measure) → Measure → NetUpdate → Measure
  update_counted alg a (net_set v e) = beside_stopped a (counted alg e)
  update_counted alg a (net_choose bs us) = updates_counted alg (branches_counted alg a bs) us

  pub branches_counted : (ℕ → Measure) → Measure → NetUpdateBranches → Measure
  branches_counted alg a no_net_update_branches = a
  branches_counted alg a (net_update_branches c us bs) = branches_counted alg (updates_counted alg (beside_stopped a (counted alg c)) us) bs

abbrev pub sent_counted : (ℕ → Measure) → Measure → Option NetExpr → Measure
sent_counted alg a None = a
sent_counted alg a (Some e) = beside_stopped a (counted alg e)

abbrev pub edge_counted : (ℕ → Measure) → Measure → NetEdge → Measure
edge_counted alg a x = updates_counted alg (sent_counted alg (beside_stopped a (counted alg x.guard)) x.sent) x.updates

abbrev pub edges_counted : (ℕ → Measure) → Measure → List NetEdge → Measure
edges_counted alg a [] = a
edges_counted alg a (x ∷ xs) = edges_counted alg (edge_counted alg a x) xs

abbrev pub autos_counted : (ℕ → Measure) → Measure → List NetAuto → Measure
autos_counted alg a [] = a
autos_counted alg a (x ∷ xs) = autos_counted alg (edges_counted alg a x.edges) xs

abbrev pub exclusions_counted : (ℕ → Measure) → Measure → List NetExclusion → Measure
exclusions_counted alg a [] = a
exclusions_counted alg a (x ∷ xs) = exclusions_counted alg (beside_stopped a (counted alg x.pred)) xs

abbrev pub invariants_counted : (ℕ → Measure) → Measure → List NetInvariant → Measure
invariants_counted alg a [] = a
invariants_counted alg a (x ∷ xs) = invariants_counted alg (beside_stopped a (counted alg x.pred)) xs

abbrev pub alg_counted : (ℕ → Measure) → Measure → NetAlg → Measure
alg_counted alg a x = elim x.value [ one_value e ↦ beside_stopped a (counted alg e) | by_loc k es ↦ exprs_counted alg a es ]

abbrev pub algs_counted : (ℕ → Measure) → Measure → List NetAlg → Measure
algs_counted alg a [] = a
algs_counted alg a (x ∷ xs) = algs_counted alg (alg_counted alg a x) xs

abbrev pub net_counted : (ℕ → Measure) → Measure → Net → Measure
net_counted alg a n = algs_counted alg (invariants_counted alg (exclusions_counted alg (autos_counted alg a n.autos) n.exclusions) n.invariants) n.algs

-- with these measures themselves
abbrev pub table_counted : Measure → List Measure → Measure
table_counted a [] = a
table_counted a (m ∷ ms) = table_counted (beside_stopped a m) ms
