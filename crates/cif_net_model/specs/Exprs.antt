-- The expressions that a net evaluates, and the variables that its updates assign.
use Rattle.std.specs.Prelude.{ℕ, List, [], ◌∷◌, ◌++◌, map, flat_map, option_to_list}
use Rattle.cif_net_expr.specs.Tree.{NetExpr, net_expr, NetUpdate, net_set, net_choose, NetUpdates, no_net_updates, net_updates, NetUpdateBranches, no_net_update_branches, net_update_branches}
use Rattle.cif_net_model.specs.Net.{NetEdge, NetAuto, one_value, by_loc, NetAlg, NetExclusion, NetInvariant, Net}

abbrev pub expr_at : NetExpr → ℕ
expr_at (net_expr f at) = at

-- the expression, with another place
abbrev pub placed : ℕ → NetExpr → NetExpr
placed at (net_expr f k) = net_expr f at

-- the conditions and right sides of updates, in the order of the text
abbrev mutual
  pub updates_exprs : NetUpdates → List NetExpr
  updates_exprs no_net_updates = []
  updates_exprs (net_updates u us) = update_exprs u ++ updates_exprs us

  pub update_exprs : NetUpdate → List NetExpr
  update_exprs (net_set v e) = e ∷ []
  update_exprs (net_choose bs us) = branches_exprs bs ++ updates_exprs us

  pub branches_exprs : NetUpdateBranches → List NetExpr
  branches_exprs no_net_update_branches = []
  branches_exprs (net_update_branches c us bs) = c ∷ (updates_exprs us ++ branches_exprs bs)

-- a variable that is assigned, and the value
pub record Written : Type 0 where
  pub var : ℕ
  pub value : NetExpr

-- what updates may assign, at any depth, in the order of the text
abbrev mutual
  pub writes_all : NetUpdates → List Written
  writes_all no_net_updates = []
  writes_all (net_updates u us) = writes_by u ++ writes_all us

  pub writes_by : NetUpdate → List Written
  writes_by (net_set v e) = record { var = v; value = e } ∷ []
  writes_by (net_choose bs us) = writes_in bs ++ writes_all us

  pub writes_in : NetUpdateBranches → List Written
  writes_in no_net_update_branches = []
  writes_in (net_update_branches c us bs) = writes_all us ++ writes_in bs

abbrev pub targets : NetUpdates → List ℕ
targets us = map (λ (w : Written). w.var) (writes_all us)

-- the values of an edge: the sent one, and then the right sides
abbrev pub edge_values : NetEdge → List NetExpr
edge_values x = option_to_list x.sent ++ map (λ (w : Written). w.value) (writes_all x.updates)

abbrev pub edge_exprs : NetEdge → List NetExpr
edge_exprs x = x.guard ∷ (option_to_list x.sent ++ updates_exprs x.updates)

abbrev pub alg_exprs : NetAlg → List NetExpr
alg_exprs a = elim a.value [ one_value e ↦ e ∷ [] | by_loc k es ↦ es ]

abbrev pub all_edges : Net → List NetEdge
all_edges n = flat_map (λ (a : NetAuto). a.edges) n.autos

-- exclusions, state invariants, and values of algebraic variables
abbrev pub other_exprs : Net → List NetExpr
other_exprs n = map (λ (x : NetExclusion). x.pred) n.exclusions ++ (map (λ (i : NetInvariant). i.pred) n.invariants ++ flat_map alg_exprs n.algs)

-- all expressions that are evaluated
abbrev pub all_exprs : Net → List NetExpr
all_exprs n = flat_map edge_exprs (all_edges n) ++ other_exprs n
