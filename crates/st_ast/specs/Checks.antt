-- The checks of a program that its grammar derives, in the order in which the first broken one is told: variables come
-- first in the order of declaration, then statements, numbered from 0 in the order of their first words.
use Rattle.std.specs.Prelude.{ℕ, suc, ◌+◌, int_le, Bool, true, false, not, ◌&&◌, List, [], ◌∷◌, ◌++◌, Option, Some, None, is_some, option_map, if◌then◌else◌}
use Rattle.std.specs.List.{list_any}
use Rattle.st_ast.specs.Names.{same_name, declared}
use Rattle.st_ast.specs.Tree.{Expr, Exprs, Factors, Terms, truth, number, named, paren, negation, complement, product, sum, order, equal, all_of, odd_of, any_of, absolute, least, greatest, selection, no_exprs, exprs, no_factors, factors, no_terms, terms, Stm, Stms, Branches, Other, assign, choice, loop, no_stms, stms, no_branches, branches, no_other, other, Program}
use Rattle.st_ast.specs.Values.{is_between}
use Rattle.st_ast.specs.declared.tree.StVar.{StVar}
use Rattle.st_ast.specs.declared.tree.StTy.{StTy}
use Rattle.st_ast.specs.declared.tree.StTy.TheVariants as ty
use Rattle.st_ast.specs.declared.tree.StLit.{StLit}
use Rattle.st_ast.specs.declared.tree.StLit.TheVariants as lit
use Rattle.st_ast.specs.declared.tree.StClass.TheVariants as class

-- what breaks a check: a statement or a variable, by its number
pub data CheckFault : Type 0 where
  -- a name of the statement's own expressions or its target is undeclared
  unknown : ℕ → CheckFault
  -- an earlier variable has the same name
  duplicate : ℕ → CheckFault
  -- an operand, a condition or an assigned value has the wrong one of BOOL and integer
  mismatch : ℕ → CheckFault
  -- the target is an input or a constant
  not_assignable : ℕ → CheckFault
  -- a subrange has its lower bound above its upper one, or the first value isn't one of the type
  init_range : ℕ → CheckFault

abbrev pub unless : Bool → CheckFault → List CheckFault
unless b f = if b then [] else f ∷ []

-- ---- variables

abbrev pub is_type : StTy → Bool
is_type ty.Bool = true
is_type ty.Lint = true
is_type (ty.Range lo hi) = int_le lo hi

abbrev pub has_type : StTy → StLit → Bool
has_type ty.Bool (lit.Bool b) = true
has_type ty.Lint (lit.Int z) = true
has_type (ty.Range lo hi) (lit.Int z) = is_between lo hi z
has_type ty.Bool (lit.Int z) = false
has_type ty.Lint (lit.Bool b) = false
has_type (ty.Range lo hi) (lit.Bool b) = false

abbrev pub starts_well : StTy → Option StLit → Bool
starts_well t None = true
starts_well t (Some v) = has_type t v

abbrev pub variable_faults : List StVar → ℕ → StVar → List CheckFault
variable_faults before k v = unless (not (list_any (λ (u : StVar). same_name u.name v.name) before)) (duplicate k)
    ++ unless (is_type v.ty && starts_well v.ty v.init) (init_range k)

-- the variables from the k-th on, after those before it
abbrev pub variables_faults : List StVar → ℕ → List StVar → List CheckFault
variables_faults before k [] = []
variables_faults before k (v ∷ vs) = variable_faults before k v ++ variables_faults (before ++ v ∷ []) (suc k) vs

-- ---- expressions

pub data Sort : Type 0 where
  boolean integer : Sort

abbrev pub sort_of_type : StTy → Sort
sort_of_type ty.Bool = boolean
sort_of_type ty.Lint = integer
sort_of_type (ty.Range lo hi) = integer

abbrev pub is_boolean : Option Sort → Bool
is_boolean (Some boolean) = true
is_boolean (Some integer) = false
is_boolean None = false

abbrev pub is_integer : Option Sort → Bool
is_integer (Some integer) = true
is_integer (Some boolean) = false
is_integer None = false

abbrev pub is_same_sort : Option Sort → Option Sort → Bool
is_same_sort (Some boolean) o = is_boolean o
is_same_sort (Some integer) o = is_integer o
is_same_sort None o = false

abbrev pub given : Bool → Sort → Option Sort
given b s = if b then Some s else None

abbrev mutual
  -- BOOL or integer, where every operand is as asked
  pub sort_of : List StVar → Expr → Option Sort
  sort_of vars (truth b) = Some boolean
  sort_of vars (number z) = Some integer
  sort_of vars (named x) = option_map (λ (v : StVar). sort_of_type v.ty) (declared vars x)
  sort_of vars (paren e) = sort_of vars e
  sort_of vars (negation e) = given (is_integer (sort_of vars e)) integer
  sort_of vars (complement e) = given (is_boolean (sort_of vars e)) boolean
  sort_of vars (product e rest) = given (is_integer (sort_of vars e) && all_integer_factors vars rest) integer
  sort_of vars (sum e rest) = given (is_integer (sort_of vars e) && all_integers vars rest) integer
  sort_of vars (order a op b) = given (is_integer (sort_of vars a) && is_integer (sort_of vars b)) boolean
  sort_of vars (equal a same b) = given (is_same_sort (sort_of vars a) (sort_of vars b)) boolean
  sort_of vars (all_of es) = given (all_booleans vars es) boolean
  sort_of vars (odd_of es) = given (all_booleans vars es) boolean
  sort_of vars (any_of es) = given (all_booleans vars es) boolean
  sort_of vars (absolute e) = given (is_integer (sort_of vars e)) integer
  sort_of vars (least a b) = given (is_integer (sort_of vars a) && is_integer (sort_of vars b)) integer
  sort_of vars (greatest a b) = given (is_integer (sort_of vars a) && is_integer (sort_of vars b)) integer
  sort_of vars (selection g a b) =
      if is_boolean (sort_of vars g) && is_same_sort (sort_of vars a) (sort_of vars b) then sort_of vars a else None

  pub all_integer_factors : List StVar → Factors → Bool
  all_integer_factors vars no_factors = true
  all_integer_factors vars (factors op e fs) = is_integer (sort_of vars e) && all_integer_factors vars fs

  pub all_integers : List StVar → Terms → Bool
  all_integers vars no_terms = true
  all_integers vars (terms minus e ts) = is_integer (sort_of vars e) && all_integers vars ts

  pub all_booleans : List StVar → Exprs → Bool
  all_booleans vars no_exprs = true
  all_booleans vars (exprs e es) = is_boolean (sort_of vars e) && all_booleans vars es

abbrev mutual
  -- whether every name is declared
  pub knows : List StVar → Expr → Bool
  knows vars (truth b) = true
  knows vars (number z) = true
  knows vars (named x) = is_some (declared vars x)
  knows vars (paren e) = knows vars e
  knows vars (negation e) = knows vars e
  knows vars (complement e) = knows vars e
  knows vars (product e rest) = knows vars e && knows_factors vars rest
  knows vars (sum e rest) = knows vars e && knows_terms vars rest
  knows vars (order a op b) = knows vars a && knows vars b
  knows vars (equal a same b) = knows vars a && knows vars b
  knows vars (all_of es) = knows_all vars es
  knows vars (odd_of es) = knows_all vars es
  knows vars (any_of es) = knows_all vars es
  knows vars (absolute e) = knows vars e
  knows vars (least a b) = knows vars a && knows vars b
  knows vars (greatest a b) = knows vars a && knows vars b
  knows vars (selection g a b) = knows vars g && (knows vars a && knows vars b)

  pub knows_factors : List StVar → Factors → Bool
  knows_factors vars no_factors = true
  knows_factors vars (factors op e fs) = knows vars e && knows_factors vars fs

  pub knows_terms : List StVar → Terms → Bool
  knows_terms vars no_terms = true
  knows_terms vars (terms minus e ts) = knows vars e && knows_terms vars ts

  pub knows_all : List StVar → Exprs → Bool
  knows_all vars no_exprs = true
  knows_all vars (exprs e es) = knows vars e && knows_all vars es

-- ---- statements

abbrev pub can_be_assigned : Option StVar → Bool
can_be_assigned None = true
can_be_assigned (Some v) = elim v.class [ class.Plain ↦ true | class.Output ↦ true | class.Constant ↦ false | class.Input ↦ false ]

abbrev pub knows_conditions : List StVar → Branches → Bool
knows_conditions vars no_branches = true
knows_conditions vars (branches c ss bs) = knows vars c && knows_conditions vars bs

abbrev pub boolean_conditions : List StVar → Branches → Bool
boolean_conditions vars no_branches = true
boolean_conditions vars (branches c ss bs) = is_boolean (sort_of vars c) && boolean_conditions vars bs

-- of the statement with the number k: of its own expressions and its target
abbrev pub own_faults : List StVar → ℕ → Stm → List CheckFault
own_faults vars k (assign x e) =
    unless (knows vars e && is_some (declared vars x)) (unknown k)
    ++ unless (is_same_sort (option_map (λ (v : StVar). sort_of_type v.ty) (declared vars x)) (sort_of vars e)) (mismatch k)
    ++ unless (can_be_assigned (declared vars x)) (not_assignable k)
own_faults vars k (choice bs o) = unless (knows_conditions vars bs) (unknown k) ++ unless (boolean_conditions vars bs) (mismatch k)
own_faults vars k (loop c ss) = unless (knows vars c) (unknown k) ++ unless (is_boolean (sort_of vars c)) (mismatch k)

abbrev mutual
  -- how many statements there are
  pub stm_count : Stm → ℕ
  stm_count (assign x e) = 1
  stm_count (choice bs o) = 1 + (branches_count bs + other_count o)
  stm_count (loop c ss) = 1 + stms_count ss

  pub stms_count : Stms → ℕ
  stms_count no_stms = 0
  stms_count (stms s ss) = stm_count s + stms_count ss

  pub branches_count : Branches → ℕ
  branches_count no_branches = 0
  branches_count (branches c ss bs) = stms_count ss + branches_count bs

  pub other_count : Other → ℕ
  other_count no_other = 0
  other_count (other ss) = stms_count ss

abbrev mutual
  -- of the statement with the number k, and of those inside it
  pub stm_faults : List StVar → ℕ → Stm → List CheckFault
  stm_faults vars k (assign x e) = own_faults vars k (assign x e)
  stm_faults vars k (choice bs o) = own_faults vars k (choice bs o)
      ++ branches_faults vars (k + 1) bs ++ other_faults vars (k + 1 + branches_count bs) o
  stm_faults vars k (loop c ss) = own_faults vars k (loop c ss) ++ stms_faults vars (k + 1) ss

  pub stms_faults : List StVar → ℕ → Stms → List CheckFault
  stms_faults vars k no_stms = []
  stms_faults vars k (stms s ss) = stm_faults vars k s ++ stms_faults vars (k + stm_count s) ss

  pub branches_faults : List StVar → ℕ → Branches → List CheckFault
  branches_faults vars k no_branches = []
  branches_faults vars k (branches c ss bs) = stms_faults vars k ss ++ branches_faults vars (k + stms_count ss) bs

  pub other_faults : List StVar → ℕ → Other → List CheckFault
  other_faults vars k no_other = []
  other_faults vars k (other ss) = stms_faults vars k ss

-- what breaks the checks, in order; the first is told, so that it doesn't matter that an undeclared name has no sort either
abbrev pub check_faults : Program → List CheckFault
check_faults p = variables_faults [] 0 p.vars ++ stms_faults p.vars 0 p.body
