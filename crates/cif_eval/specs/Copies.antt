-- A state into which what expressions name is copied from another.
use Rattle.std.specs.Prelude.{ℕ, List, [], ◌∷◌, Option, None, Some, slice_get, slice_set}
use Rattle.cif_system.specs.System.{State}
use Rattle.cif_net_expr.specs.Tree.{NetExpr, net_expr, NetForm, n_truth, n_number, n_loc, n_var, n_input, n_alg, n_received, n_minus, n_plus, n_not, n_abs, n_min, n_max, n_sum, n_product, n_compare, n_and, n_or, n_implies, n_iff, n_if, NetExprs, no_net_exprs, net_exprs, NetTerms, no_net_terms, net_terms, NetFactors, no_net_factors, net_factors, NetBranches, no_net_branches, net_branches}
use Rattle.cif_net_model.specs.Net.{NetInvariant}
use Rattle.cif_net_model.specs.Reads.{Read, a_var, an_input, an_alg, a_place, the_received}

abbrev pub with_item : {A : Type 0} → List A → ℕ → Option A → List A
with_item xs k None = xs
with_item xs k (Some x) = slice_set xs k x

abbrev pub copied_item : {A : Type 0} → (from to : List A) → ℕ → List A
copied_item from to k = with_item to k (slice_get from k)

abbrev pub copied_one : (from to : State) → Read → State
copied_one from to (a_var k) = record to { vals = copied_item from.vals to.vals k }
copied_one from to (an_input k) = record to { ins = copied_item from.ins to.ins k }
copied_one from to (an_alg k) = to
copied_one from to (a_place k) = record to { locs = copied_item from.locs to.locs k }
copied_one from to the_received = to

-- what is read, one after the other
abbrev pub copied : List Read → (from to : State) → State
copied [] from to = to
copied (x ∷ xs) from to = copied xs from (copied_one from to x)

-- what an expression names, along its forms
abbrev mutual
  pub copied_expr : NetExpr → (from to : State) → State
  copied_expr (net_expr f at) s t = copied_form f s t

  pub copied_form : NetForm → (from to : State) → State
  copied_form (n_truth b) s t = t
  copied_form (n_number z) s t = t
  copied_form (n_loc a k) s t = copied_one s t (a_place a)
  copied_form (n_var k) s t = copied_one s t (a_var k)
  copied_form (n_input k) s t = copied_one s t (an_input k)
  copied_form (n_alg k) s t = t
  copied_form n_received s t = t
  copied_form (n_minus e) s t = copied_expr e s t
  copied_form (n_plus e) s t = copied_expr e s t
  copied_form (n_not e) s t = copied_expr e s t
  copied_form (n_abs e) s t = copied_expr e s t
  copied_form (n_min a b) s t = copied_expr b s (copied_expr a s t)
  copied_form (n_max a b) s t = copied_expr b s (copied_expr a s t)
  copied_form (n_sum e es) s t = copied_terms es s (copied_expr e s t)
  copied_form (n_product e es) s t = copied_factors es s (copied_expr e s t)
  copied_form (n_compare a op b) s t = copied_expr b s (copied_expr a s t)
  copied_form (n_and es) s t = copied_exprs es s t
  copied_form (n_or es) s t = copied_exprs es s t
  copied_form (n_implies a b) s t = copied_expr b s (copied_expr a s t)
  copied_form (n_iff a b) s t = copied_expr b s (copied_expr a s t)
  copied_form (n_if bs e) s t = copied_expr e s (copied_branches bs s t)

  pub copied_terms : NetTerms → (from to : State) → State
  copied_terms no_net_terms s t = t
  copied_terms (net_terms m e es) s t = copied_terms es s (copied_expr e s t)

  pub copied_factors : NetFactors → (from to : State) → State
  copied_factors no_net_factors s t = t
  copied_factors (net_factors op e es) s t = copied_factors es s (copied_expr e s t)

  pub copied_exprs : NetExprs → (from to : State) → State
  copied_exprs no_net_exprs s t = t
  copied_exprs (net_exprs e es) s t = copied_exprs es s (copied_expr e s t)

  pub copied_branches : NetBranches → (from to : State) → State
  copied_branches no_net_branches s t = t
  copied_branches (net_branches c e bs) s t = copied_branches bs s (copied_expr e s (copied_expr c s t))

-- what a state invariant names, if it is there
abbrev pub copied_invariant : Option NetInvariant → (from to : State) → State
copied_invariant None s t = t
copied_invariant (Some i) s t = copied_expr i.pred s t

-- what the state invariants with these numbers name
abbrev pub copied_invariants : List NetInvariant → List ℕ → (from to : State) → State
copied_invariants all [] s t = t
copied_invariants all (k ∷ ks) s t = copied_invariants all ks s (copied_invariant (slice_get all k) s t)
