-- A net in which algebraic variables are replaced by their definitions.
use Rattle.std.specs.Prelude.{◌≡◌, ℕ, suc, ◌<◌, pos, List, [], ◌∷◌, map, Some, option_map, slice_get}
use Rattle.cif_net_expr.specs.Tree.{NetExpr, net_expr, NetForm, n_truth, n_number, n_loc, n_var, n_input, n_alg, n_received, n_minus, n_plus, n_not, n_abs, n_min, n_max, n_sum, n_product, n_compare, n_and, n_or, n_implies, n_iff, n_if, NetExprs, no_net_exprs, net_exprs, NetTerms, no_net_terms, net_terms, NetFactors, no_net_factors, net_factors, NetBranches, no_net_branches, net_branches, NetUpdate, net_set, net_choose, NetUpdates, no_net_updates, net_updates, NetUpdateBranches, no_net_update_branches, net_update_branches}
use Rattle.cif_net_model.specs.Net.{NetEdge, NetAuto, one_value, by_loc, NetAlg, NetExclusion, NetInvariant, Net}
use Rattle.cif_net_model.specs.Exprs.{expr_at, placed}
use Rattle.cif_net_model.specs.Rules.{Needs}

-- each algebraic variable k replaced by the expression `by k`, which takes the place of the name
abbrev mutual
  pub replaced : (ℕ → NetExpr) → NetExpr → NetExpr
  replaced by (net_expr f at) = form_replaced by at f

  pub form_replaced : (ℕ → NetExpr) → ℕ → NetForm → NetExpr
  form_replaced by at (n_truth b) = net_expr (n_truth b) at
  form_replaced by at (n_number z) = net_expr (n_number z) at
  form_replaced by at (n_loc a k) = net_expr (n_loc a k) at
  form_replaced by at (n_var k) = net_expr (n_var k) at
  form_replaced by at (n_input k) = net_expr (n_input k) at
  form_replaced by at (n_alg k) = placed at (by k)
  form_replaced by at n_received = net_expr n_received at
  form_replaced by at (n_minus e) = net_expr (n_minus (replaced by e)) at
  form_replaced by at (n_plus e) = net_expr (n_plus (replaced by e)) at
  form_replaced by at (n_not e) = net_expr (n_not (replaced by e)) at
  form_replaced by at (n_abs e) = net_expr (n_abs (replaced by e)) at
  form_replaced by at (n_min a b) = net_expr (n_min (replaced by a) (replaced by b)) at
  form_replaced by at (n_max a b) = net_expr (n_max (replaced by a) (replaced by b)) at
  form_replaced by at (n_sum e es) = net_expr (n_sum (replaced by e) (terms_replaced by es)) at
  form_replaced by at (n_product e es) = net_expr (n_product (replaced by e) (factors_replaced by es)) at
  form_replaced by at (n_compare a op b) = net_expr (n_compare (replaced by a) op (replaced by b)) at
  form_replaced by at (n_and es) = net_expr (n_and (list_replaced by es)) at
  form_replaced by at (n_or es) = net_expr (n_or (list_replaced by es)) at
  form_replaced by at (n_implies a b) = net_expr (n_implies (replaced by a) (replaced by b)) at
  form_replaced by at (n_iff a b) = net_expr (n_iff (replaced by a) (replaced by b)) at
  form_replaced by at (n_if bs e) = net_expr (n_if (branches_replaced by bs) (replaced by e)) at

  pub terms_replaced : (ℕ → NetExpr) → NetTerms → NetTerms
  terms_replaced by no_net_terms = no_net_terms
  terms_replaced by (net_terms m e es) = net_terms m (replaced by e) (terms_replaced by es)

  pub factors_replaced : (ℕ → NetExpr) → NetFactors → NetFactors
  factors_replaced by no_net_factors = no_net_factors
  factors_replaced by (net_factors op e es) = net_factors op (replaced by e) (factors_replaced by es)

  pub list_replaced : (ℕ → NetExpr) → NetExprs → NetExprs
  list_replaced by no_net_exprs = no_net_exprs
  list_replaced by (net_exprs e es) = net_exprs (replaced by e) (list_replaced by es)

  pub branches_replaced : (ℕ → NetExpr) → NetBranches → NetBranches
  branches_replaced by no_net_branches = no_net_branches
  branches_replaced by (net_branches c e bs) = net_branches (replaced by c) (replaced by e) (branches_replaced by bs)

abbrev mutual
  pub updates_replaced : (ℕ → NetExpr) → NetUpdates → NetUpdates
  updates_replaced by no_net_updates = no_net_updates
  updates_replaced by (net_updates u us) = net_updates (update_replaced by u) (updates_replaced by us)

  pub update_replaced : (ℕ → NetExpr) → NetUpdate → NetUpdate
  update_replaced by (net_set v e) = net_set v (replaced by e)
  update_replaced by (net_choose bs us) = net_choose (update_branches_replaced by bs) (updates_replaced by us)

  pub update_branches_replaced : (ℕ → NetExpr) → NetUpdateBranches → NetUpdateBranches
  update_branches_replaced by no_net_update_branches = no_net_update_branches
  update_branches_replaced by (net_update_branches c us bs) = net_update_branches (replaced by c) (updates_replaced by us) (update_branches_replaced by bs)

abbrev pub edge_replaced : (ℕ → NetExpr) → NetEdge → NetEdge
edge_replaced by x = record x { guard = replaced by x.guard; sent = option_map (replaced by) x.sent; updates = updates_replaced by x.updates }

abbrev pub auto_replaced : (ℕ → NetExpr) → NetAuto → NetAuto
auto_replaced by a = record a { edges = map (edge_replaced by) a.edges }

abbrev pub alg_replaced : (ℕ → NetExpr) → NetAlg → NetAlg
alg_replaced by a = record a { value = elim a.value [ one_value e ↦ one_value (replaced by e) | by_loc k es ↦ by_loc k (map (replaced by) es) ] }

abbrev pub net_replaced : (ℕ → NetExpr) → Net → Net
net_replaced by n = record n {
  autos = map (auto_replaced by) n.autos;
  algs = map (alg_replaced by) n.algs;
  exclusions = map (λ (x : NetExclusion). record x { pred = replaced by x.pred }) n.exclusions;
  invariants = map (λ (i : NetInvariant). record i { pred = replaced by i.pred }) n.invariants;
}

-- ---- a definition as one expression

-- a branch for each place from k on but the last
abbrev pub place_branches : (auto k : ℕ) → NetExpr → List NetExpr → NetBranches
place_branches a k e [] = no_net_branches
place_branches a k e (f ∷ fs) = net_branches (net_expr (n_loc a k) (expr_at e)) e (place_branches a (suc k) f fs)

abbrev pub last_of : NetExpr → List NetExpr → NetExpr
last_of e [] = e
last_of e (f ∷ fs) = last_of f fs

-- an `if` over the location tests in the order of places, the last as `else`; of one location its equation alone
abbrev pub by_places : (auto : ℕ) → List NetExpr → NetExpr
by_places a [] = net_expr (n_number (pos 0)) 0
by_places a (e ∷ []) = e
by_places a (e ∷ f ∷ fs) = net_expr (n_if (place_branches a 0 e (f ∷ fs)) (last_of f fs)) (expr_at e)

abbrev pub defined_by : NetAlg → NetExpr
defined_by a = elim a.value [ one_value e ↦ e | by_loc k es ↦ by_places k es ]

-- p is n with each algebraic variable replaced by its definition, in which they are replaced too
pub record Unfolds (n p : Net) : Type 0 where
  pub by : ℕ → NetExpr
  pub each : (k : ℕ) (a : NetAlg) → slice_get n.algs k ≡ Some a → by k ≡ defined_by (alg_replaced by a)
  pub rank : ℕ → ℕ
  pub falls : (j k : ℕ) → Needs n j k → rank k < rank j
  pub whole : p ≡ net_replaced by n
