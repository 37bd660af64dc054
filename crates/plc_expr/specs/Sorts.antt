-- Which expressions are BOOL and which are integers, and what is asked of the names, so that a text has a spelling and breaks
-- no check.
use Rattle.std.specs.Prelude.{◌≡◌, ℕ, ◌+◌, ◌<◌, ◌≤◌, Bool, true, false, List, [], ◌∷◌, ◌++◌, Option, Some, None, slice_get, if◌then◌else◌}
use Rattle.cif_base.specs.declared.types.Ty.{Ty}
use Rattle.cif_base.specs.declared.types.Ty.TheVariants as cif_ty
use Rattle.cif_net_expr.specs.Tree.{NetExpr, net_expr, NetForm, n_truth, n_loc, n_var, n_input, n_received, n_minus, n_plus, n_not, n_abs, n_min, n_max, n_sum, n_product, n_compare, n_and, n_or, n_implies, n_iff, n_if, NetExprs, no_net_exprs, net_exprs, NetTerms, no_net_terms, net_terms, NetFactors, no_net_factors, net_factors, NetBranches, no_net_branches, net_branches}
use Rattle.cif_net_model.specs.Net.{NetStored, Net}
use Rattle.cif_net_model.specs.Kinds.{places_of}
use Rattle.grammar.specs.Pieces.{Text}
use Rattle.st_ast.specs.Tree.{Expr, named}
use Rattle.st_ast.specs.Names.{declared}
use Rattle.st_ast.specs.Checks.{Sort, boolean, integer, sort_of, knows, can_be_assigned}
use Rattle.st_ast.specs.Grammar.{at_or}
use Rattle.st_ast.specs.Spelled.{is_name, is_expr}
use Rattle.st_ast.specs.declared.tree.StVar.{StVar}
use Rattle.st_ast.specs.declared.tree.StTy.{StTy}
use Rattle.st_ast.specs.declared.tree.StTy.TheVariants as ty
use Rattle.plc_expr.specs.Texts.{Naming}

-- ---- of expressions

abbrev pub is_bool_type : Ty → Bool
is_bool_type cif_ty.Bool = true
is_bool_type (cif_ty.Int lo hi) = false
is_bool_type (cif_ty.Enum size) = false

abbrev pub stored_boolean : Option NetStored → Bool
stored_boolean None = false
stored_boolean (Some v) = is_bool_type v.type_of

abbrev pub received_boolean : Option Ty → Bool
received_boolean None = false
received_boolean (Some t) = is_bool_type t

-- true or false, and else a number; r is the type of the received value
abbrev mutual
  pub is_boolean : Net → Option Ty → NetExpr → Bool
  is_boolean n r (net_expr f at) = form_boolean n r f

  pub form_boolean : Net → Option Ty → NetForm → Bool
  form_boolean n r (n_truth b) = true
  form_boolean n r (n_loc a p) = true
  form_boolean n r (n_var k) = stored_boolean (slice_get n.vars k)
  form_boolean n r (n_input k) = stored_boolean (slice_get n.inputs k)
  form_boolean n r n_received = received_boolean r
  form_boolean n r (n_not e) = true
  form_boolean n r (n_compare a op b) = true
  form_boolean n r (n_and es) = true
  form_boolean n r (n_or es) = true
  form_boolean n r (n_implies a b) = true
  form_boolean n r (n_iff a b) = true
  form_boolean n r (n_if bs e) = is_boolean n r e
  form_boolean n r f = false

abbrev pub sort_by : Bool → Sort
sort_by b = if b then boolean else integer

abbrev pub type_by : Bool → StTy
type_by b = if b then ty.Bool else ty.Lint

-- the types of its own variables, in order
abbrev mutual
  pub own_types : Net → Option Ty → NetExpr → List StTy
  own_types n r (net_expr f at) = form_types n r f

  pub form_types : Net → Option Ty → NetForm → List StTy
  form_types n r (n_minus e) = own_types n r e
  form_types n r (n_plus e) = own_types n r e
  form_types n r (n_not e) = own_types n r e
  form_types n r (n_abs e) = own_types n r e
  form_types n r (n_min a b) = own_types n r a ++ own_types n r b
  form_types n r (n_max a b) = own_types n r a ++ own_types n r b
  form_types n r (n_sum e es) = own_types n r e ++ terms_types n r es
  form_types n r (n_product e es) = own_types n r e ++ factors_types n r es
  form_types n r (n_compare a op b) = own_types n r a ++ own_types n r b
  form_types n r (n_and es) = list_types n r es
  form_types n r (n_or es) = list_types n r es
  form_types n r (n_implies a b) = own_types n r a ++ own_types n r b
  form_types n r (n_iff a b) = own_types n r a ++ own_types n r b
  form_types n r (n_if bs e) = type_by (is_boolean n r e) ∷ (branches_types n r bs ++ own_types n r e)
  form_types n r f = []

  pub terms_types : Net → Option Ty → NetTerms → List StTy
  terms_types n r no_net_terms = []
  terms_types n r (net_terms m e es) = own_types n r e ++ terms_types n r es

  pub factors_types : Net → Option Ty → NetFactors → List StTy
  factors_types n r no_net_factors = []
  factors_types n r (net_factors op e es) = own_types n r e ++ factors_types n r es

  pub list_types : Net → Option Ty → NetExprs → List StTy
  list_types n r no_net_exprs = []
  list_types n r (net_exprs e es) = own_types n r e ++ list_types n r es

  pub branches_types : Net → Option Ty → NetBranches → List StTy
  branches_types n r no_net_branches = []
  branches_types n r (net_branches c e bs) = own_types n r c ++ (own_types n r e ++ branches_types n r bs)

-- ---- of names

-- the name is declared, and is BOOL or an integer
abbrev pub HasSort : List StVar → Expr → Bool → Type 0
HasSort vars e b = (knows vars e ≡ true) × (sort_of vars e ≡ Some (sort_by b))

-- what the net's expressions name is declared, each with its sort
pub record NamesHaveSorts (vars : List StVar) (w : Naming) (n : Net) (r : Option Ty) : Type 0 where
  pub located : (a p : ℕ) → p < places_of (slice_get n.autos a) → HasSort vars (w.located a p) true
  pub variable : (k : ℕ) (v : NetStored) → slice_get n.vars k ≡ Some v → HasSort vars (named (w.variable k)) (is_bool_type v.type_of)
  pub input : (k : ℕ) (v : NetStored) → slice_get n.inputs k ≡ Some v → HasSort vars (named (w.input k)) (is_bool_type v.type_of)
  pub received : (t : Ty) → r ≡ Some t → HasSort vars (named w.received) (is_bool_type t)

-- the variable with this name has this type, and can be assigned
pub record OwnIs (vars : List StVar) (name : Text) (t : StTy) : Type 0 where
  pub variable : StVar
  pub is_declared : declared vars name ≡ Some variable
  pub type_is : variable.ty ≡ t
  pub can : can_be_assigned (Some variable) ≡ true

-- the own variables from the k-th on can be assigned, and have these types
abbrev pub AreOwn : List StVar → Naming → ℕ → List StTy → Type 0
AreOwn vars w k [] = Unit {0}
AreOwn vars w k (t ∷ ts) = OwnIs vars (w.own k) t × AreOwn vars w (k + 1) ts

-- names are identifiers, and a test of a location is at most a comparison of two operands
pub record NamesAreSpelled (w : Naming) (n : Net) : Type 0 where
  pub located : (a p : ℕ) → p < places_of (slice_get n.autos a) → (depth : ℕ) → 1 ≤ depth → is_expr depth at_or (w.located a p) ≡ true
  pub variable : (k : ℕ) → is_name (w.variable k) ≡ true
  pub input : (k : ℕ) → is_name (w.input k) ≡ true
  pub received : is_name w.received ≡ true
  pub own : (k : ℕ) → is_name (w.own k) ≡ true
