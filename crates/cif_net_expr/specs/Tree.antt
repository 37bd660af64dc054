-- The expressions and updates of a flat net as plain data, on which definitions stand: numbers stand for names, and places
-- in the text stand beside what is told of there (CIF 3 language reference, "Automata", "Expressions"). `View` ties them to
-- the types of `src/`.
use Rattle.std.specs.Prelude.{ℕ, ℤ, Bool}

pub data CmpOp : Type 0 where
  eq ne lt le gt ge : CmpOp

pub data MulOp : Type 0 where
  times divided modulo : MulOp

mutual
  -- an expression: its form, and where it begins
  pub data NetExpr : Type 0 where
    net_expr : (form : NetForm) (at : ℕ) → NetExpr

  pub data NetForm : Type 0 where
    n_truth : Bool → NetForm
    n_number : ℤ → NetForm
    -- an automaton is in a location
    n_loc : (auto place : ℕ) → NetForm
    n_var n_input n_alg : ℕ → NetForm
    -- the value that is received
    n_received : NetForm
    n_minus n_plus n_not n_abs : NetExpr → NetForm
    n_min n_max : NetExpr → NetExpr → NetForm
    n_sum : NetExpr → NetTerms → NetForm
    n_product : NetExpr → NetFactors → NetForm
    n_compare : NetExpr → CmpOp → NetExpr → NetForm
    n_and n_or : NetExprs → NetForm
    n_implies n_iff : NetExpr → NetExpr → NetForm
    n_if : NetBranches → (other : NetExpr) → NetForm

  pub data NetExprs : Type 0 where
    no_net_exprs : NetExprs
    net_exprs : NetExpr → NetExprs → NetExprs

  -- each is subtracted or added
  pub data NetTerms : Type 0 where
    no_net_terms : NetTerms
    net_terms : (minus : Bool) → NetExpr → NetTerms → NetTerms

  pub data NetFactors : Type 0 where
    no_net_factors : NetFactors
    net_factors : MulOp → NetExpr → NetFactors → NetFactors

  -- each with its condition
  pub data NetBranches : Type 0 where
    no_net_branches : NetBranches
    net_branches : (cond value : NetExpr) → NetBranches → NetBranches

mutual
  -- a variable is assigned, or the first branch is taken whose condition holds
  pub data NetUpdate : Type 0 where
    net_set : (var : ℕ) (value : NetExpr) → NetUpdate
    net_choose : NetUpdateBranches → (other : NetUpdates) → NetUpdate

  pub data NetUpdates : Type 0 where
    no_net_updates : NetUpdates
    net_updates : NetUpdate → NetUpdates → NetUpdates

  pub data NetUpdateBranches : Type 0 where
    no_net_update_branches : NetUpdateBranches
    net_update_branches : (cond : NetExpr) → NetUpdates → NetUpdateBranches → NetUpdateBranches
