-- What a memory holds before an expression is evaluated: what the expression names is read from it, and the expression's own
-- variables hold the values of the `if`s.
use Rattle.std.specs.Prelude.{◌≡◌, ℕ, ◌+◌, ◌<◌, ◌≤◌, ℤ, pos, nat_eq, true, List, length, Ok, Option, is_some, slice_get, slice_index_or}
use Rattle.std.specs.List.{AllByRecursion}
use Rattle.cif_net_expr.specs.Tree.{NetExpr, net_expr, NetForm, n_minus, n_plus, n_not, n_abs, n_min, n_max, n_sum, n_product, n_compare, n_and, n_or, n_implies, n_iff, n_if, NetExprs, no_net_exprs, net_exprs, NetTerms, no_net_terms, net_terms, NetFactors, no_net_factors, net_factors, NetBranches, no_net_branches, net_branches}
use Rattle.cif_base.specs.declared.types.Ty.{Ty}
use Rattle.cif_net_model.specs.Net.{Net}
use Rattle.cif_net_model.specs.Value.{net_cases}
use Rattle.cif_net_model.specs.Reads.{Read, a_var, an_input, an_alg, a_place, the_received, names_in}
use Rattle.grammar.specs.Pieces.{Text}
use Rattle.st_ast.specs.Names.{place_of}
use Rattle.st_ast.specs.Values.{Memory, of_bool, value_of}
use Rattle.st_ast.specs.Exec.{Ended, exec, is_within, type_at}
use Rattle.st_ast.specs.declared.tree.StVar.{StVar}
use Rattle.plc_expr.specs.Texts.{Naming, temps, branches_temps, before}
use Rattle.cif_net_model.specs.Safe.{Setting, value_at}

-- what the variable with this name holds
abbrev pub held_at : List StVar → Memory → Text → ℤ
held_at vars m name = slice_index_or m (place_of vars name) (pos 0)

-- ---- names

abbrev pub IsRead : List StVar → Naming → Setting → Memory → Read → Type 0
IsRead vars w x m (a_var k) = held_at vars m (w.variable k) ≡ slice_index_or x.state.vals k (pos 0)
IsRead vars w x m (an_input k) = held_at vars m (w.input k) ≡ slice_index_or x.state.ins k (pos 0)
IsRead vars w x m (an_alg k) = ⊥
IsRead vars w x m (a_place a) = (p : ℕ) → value_of vars (w.located a p) m ≡ Ok (of_bool (nat_eq (slice_index_or x.state.locs a 0) p))
IsRead vars w x m the_received = held_at vars m w.received ≡ x.received

-- all that the expression names is read from the memory as it is in the setting
abbrev pub Reads : List StVar → Naming → Setting → Memory → NetExpr → Type 0
Reads vars w x m e = AllByRecursion (IsRead vars w x m) (names_in e)

-- what is named is one of the net's; r is the type of the received value, and algebraic variables have been replaced
abbrev pub IsThere : Net → Option Ty → Read → Type 0
IsThere n r (a_var k) = k < length n.vars
IsThere n r (an_input k) = k < length n.inputs
IsThere n r (an_alg k) = ⊥
IsThere n r (a_place a) = a < length n.autos
IsThere n r the_received = is_some r ≡ true

-- ---- own variables

-- those from the k-th on hold the values of the `if`s
abbrev mutual
  pub Held : List StVar → Naming → Setting → Memory → ℕ → NetExpr → Type 0
  Held vars w x m k (net_expr f at) = HeldForm vars w x m k f

  pub HeldForm : List StVar → Naming → Setting → Memory → ℕ → NetForm → Type 0
  HeldForm vars w x m k (n_minus e) = Held vars w x m k e
  HeldForm vars w x m k (n_plus e) = Held vars w x m k e
  HeldForm vars w x m k (n_not e) = Held vars w x m k e
  HeldForm vars w x m k (n_abs e) = Held vars w x m k e
  HeldForm vars w x m k (n_min a b) = Held vars w x m k a × Held vars w x m (k + temps a) b
  HeldForm vars w x m k (n_max a b) = Held vars w x m k a × Held vars w x m (k + temps a) b
  HeldForm vars w x m k (n_sum e es) = Held vars w x m k e × HeldTerms vars w x m (k + temps e) es
  HeldForm vars w x m k (n_product e es) = Held vars w x m k e × HeldFactors vars w x m (k + temps e) es
  HeldForm vars w x m k (n_compare a op b) = Held vars w x m k a × Held vars w x m (k + temps a) b
  HeldForm vars w x m k (n_and es) = HeldList vars w x m k es
  HeldForm vars w x m k (n_or es) = HeldList vars w x m k es
  HeldForm vars w x m k (n_implies a b) = Held vars w x m k a × Held vars w x m (k + temps a) b
  HeldForm vars w x m k (n_iff a b) = Held vars w x m k a × Held vars w x m (k + temps a) b
  HeldForm vars w x m k (n_if bs e) =
      HeldBranches vars w x m (k + 1) bs × Held vars w x m (k + 1 + branches_temps bs) e
      × (held_at vars m (w.own k) ≡ net_cases x.algs x.state x.received (value_at x e) bs)
  HeldForm vars w x m k f = Unit {0}

  pub HeldTerms : List StVar → Naming → Setting → Memory → ℕ → NetTerms → Type 0
  HeldTerms vars w x m k no_net_terms = Unit {0}
  HeldTerms vars w x m k (net_terms s e es) = Held vars w x m k e × HeldTerms vars w x m (k + temps e) es

  pub HeldFactors : List StVar → Naming → Setting → Memory → ℕ → NetFactors → Type 0
  HeldFactors vars w x m k no_net_factors = Unit {0}
  HeldFactors vars w x m k (net_factors op e es) = Held vars w x m k e × HeldFactors vars w x m (k + temps e) es

  pub HeldList : List StVar → Naming → Setting → Memory → ℕ → NetExprs → Type 0
  HeldList vars w x m k no_net_exprs = Unit {0}
  HeldList vars w x m k (net_exprs e es) = Held vars w x m k e × HeldList vars w x m (k + temps e) es

  pub HeldBranches : List StVar → Naming → Setting → Memory → ℕ → NetBranches → Type 0
  HeldBranches vars w x m k no_net_branches = Unit {0}
  HeldBranches vars w x m k (net_branches c e bs) =
      Held vars w x m k c × Held vars w x m (k + temps c) e × HeldBranches vars w x m (k + temps c + temps e) bs

-- the own variables from `low` on, `count` of them, stand one after another, each by its number behind `base`, and hold any number
pub record OwnPlaces (vars : List StVar) (w : Naming) (base low count : ℕ) : Type 0 where
  pub place : (k : ℕ) → low ≤ k → k < low + count → place_of vars (w.own k) ≡ base + k
  pub holds_any : (k : ℕ) → low ≤ k → k < low + count → (z : ℤ) → is_within (type_at vars (base + k)) z ≡ true

-- ---- runs

-- the second memory is as the first but for the places from `first` on, `count` of them
pub record IsBeside (first count : ℕ) (m after : Memory) : Type 0 where
  pub same_length : length after ≡ length m
  pub others : (j : ℕ) → (first ≤ j → first + count ≤ j) → slice_get after j ≡ slice_get m j

-- The statements before the expression end without a fault and without a turn, and change its own variables alone, which
-- then hold what they are to hold.
pub record Prepares (vars : List StVar) (w : Naming) (x : Setting) (base k : ℕ) (e : NetExpr) (turns : ℕ) (m : Memory) : Type 0 where
  pub after : Memory
  pub runs : exec vars (before w k e) turns m ≡ Ended turns after
  pub beside : IsBeside (base + k) (temps e) m after
  pub held : Held vars w x after k e
