-- How the updates of a choice are written in Structured Text (CIF 3 language reference, "Edges"; IEC 61131-3, "Statements").
-- All right sides and conditions read the values before the step, so a new value goes to a variable of its own first, and a
-- mark keeps whether all new values so far are in their ranges. The last update comes first: of two values for one variable
-- the first in the net is its value after the step.
use Rattle.std.specs.Prelude.{ℕ, ◌+◌, Bool, true, false, ◌||◌, Option, Some, None, slice_get, if◌then◌else◌}
use Rattle.cif_base.specs.declared.types.Ty.{Ty}
use Rattle.cif_base.specs.declared.types.Ty.TheVariants as cif_ty
use Rattle.cif_system.specs.System.{Range}
use Rattle.cif_net_expr.specs.Tree.{NetUpdate, net_set, net_choose, NetUpdates, no_net_updates, net_updates, NetUpdateBranches, no_net_update_branches, net_update_branches}
use Rattle.cif_net_model.specs.Net.{NetStored, Net}
use Rattle.cif_net_model.specs.Meaning.{type_range}
use Rattle.grammar.specs.Pieces.{Text}
use Rattle.st_ast.specs.Tree.{Expr, named, order, all_of, exprs, no_exprs, Stms, Branches, Other, assign, choice, no_stms, stms, append, no_branches, branches, no_other, other}
use Rattle.st_ast.specs.declared.tree.StOrder.TheVariants as cmp
use Rattle.plc_expr.specs.Texts.{Naming, number_text, temps, text, before}

-- How new values are named: the mark that all so far are in range, and the new value of a variable.
pub record NewNames : Type 0 where
  pub in_range : Text
  pub next : ℕ → Text

-- ---- ranges

-- A new integer is tested against its range. A boolean and a literal of an enumeration are in theirs by their kinds.
abbrev pub is_tested : Ty → Bool
is_tested cif_ty.Bool = false
is_tested (cif_ty.Int lo hi) = true
is_tested (cif_ty.Enum size) = false

abbrev pub tests_stored : Option NetStored → Bool
tests_stored None = false
tests_stored (Some v) = is_tested v.type_of

-- the variable is tested
abbrev pub tests : Net → ℕ → Bool
tests n v = tests_stored (slice_get n.vars v)

-- `mark AND lo <= name AND name <= hi`
abbrev pub stays_in : Text → Text → Range → Expr
stays_in mark name r = all_of (exprs (named mark) (exprs (order (number_text r.lo) cmp.Le (named name)) (exprs (order (named name) cmp.Le (number_text r.hi)) no_exprs)))

abbrev pub range_test : NewNames → ℕ → Option NetStored → Stms
range_test y v None = no_stms
range_test y v (Some d) = if is_tested d.type_of then stms (assign y.in_range (stays_in y.in_range (y.next v) (type_range d.type_of))) no_stms else no_stms

abbrev mutual
  -- whether some new value is tested
  pub any_tested : Net → NetUpdates → Bool
  any_tested n no_net_updates = false
  any_tested n (net_updates u us) = update_tested n u || any_tested n us

  pub update_tested : Net → NetUpdate → Bool
  update_tested n (net_set v e) = tests n v
  update_tested n (net_choose bs us) = branches_tested n bs || any_tested n us

  pub branches_tested : Net → NetUpdateBranches → Bool
  branches_tested n no_net_update_branches = false
  branches_tested n (net_update_branches c us bs) = any_tested n us || branches_tested n bs

-- ---- own variables of the expressions

abbrev pub conditions_temps : NetUpdateBranches → ℕ
conditions_temps no_net_update_branches = 0
conditions_temps (net_update_branches c us bs) = temps c + conditions_temps bs

abbrev mutual
  -- how many there are: one for each `if`
  pub updates_temps : NetUpdates → ℕ
  updates_temps no_net_updates = 0
  updates_temps (net_updates u us) = updates_temps us + update_temps u

  pub update_temps : NetUpdate → ℕ
  update_temps (net_set v e) = temps e
  update_temps (net_choose bs us) = conditions_temps bs + (bodies_temps bs + updates_temps us)

  -- those of the updates alone
  pub bodies_temps : NetUpdateBranches → ℕ
  bodies_temps no_net_update_branches = 0
  bodies_temps (net_update_branches c us bs) = updates_temps us + bodies_temps bs

-- ---- statements

-- what stands before the conditions, whether they are reached or not
abbrev pub conditions_before : Naming → ℕ → NetUpdateBranches → Stms
conditions_before w k no_net_update_branches = no_stms
conditions_before w k (net_update_branches c us bs) = append (before w k c) (conditions_before w (k + temps c) bs)

-- no ELSE without a statement
abbrev pub otherwise : Stms → Other
otherwise no_stms = no_other
otherwise (stms s ss) = other (stms s ss)

-- where there is no branch, the last statements stand alone
abbrev pub chosen : Branches → Stms → Stms
chosen no_branches ss = ss
chosen (branches c bs rest) ss = stms (choice (branches c bs rest) (otherwise ss)) no_stms

-- The own variables of expressions are numbered from k, in the order of the statements.
abbrev mutual
  pub writes : Net → Naming → NewNames → ℕ → NetUpdates → Stms
  writes n w y k no_net_updates = no_stms
  writes n w y k (net_updates u us) = append (writes n w y k us) (write n w y (k + updates_temps us) u)

  pub write : Net → Naming → NewNames → ℕ → NetUpdate → Stms
  write n w y k (net_set v e) = append (before w k e) (stms (assign (y.next v) (text w k e)) (range_test y v (slice_get n.vars v)))
  write n w y k (net_choose bs us) =
      append (conditions_before w k bs) (chosen (write_branches n w y k (k + conditions_temps bs) bs) (writes n w y (k + conditions_temps bs + bodies_temps bs) us))

  -- with numbers for the conditions, and for the updates
  pub write_branches : Net → Naming → NewNames → ℕ → ℕ → NetUpdateBranches → Branches
  write_branches n w y k j no_net_update_branches = no_branches
  write_branches n w y k j (net_update_branches c us bs) =
      branches (text w k c) (writes n w y j us) (write_branches n w y (k + temps c) (j + updates_temps us) bs)
