-- Helper of the code: what expressions, definitions and choices name is in the net.
use Rattle.std.specs.Prelude.{◌≡◌, ◌<◌, ℕ, true, length, Option, None, option_to_list}
use Rattle.std.specs.List.{AllByRecursion}
use Rattle.cif_base.specs.declared.types.Ty.{Ty}
use Rattle.cif_net_expr.specs.Tree.{NetExpr}
use Rattle.cif_net_model.specs.Exprs.{targets, updates_exprs}
use Rattle.cif_net_model.specs.Facts.{has}
use Rattle.cif_net_model.specs.Listing.{NetChoice}
use Rattle.cif_net_model.specs.Inline.{defined_by}
use Rattle.cif_net_model.specs.Net.{NetAlg, Net}
use Rattle.cif_net_model.specs.Reads.{names_in}
use Rattle.cif_net_model.specs.Table.{carried_type}
use Rattle.plc_expr.specs.Held.{IsThere}
use Rattle.plc_event_model.specs.Keeps.{asked}

-- what an expression names is there; r is the type of the received value
abbrev pub IsNamedExpr : Net → Option Ty → NetExpr → Type 0
IsNamedExpr n r e = AllByRecursion (IsThere n r) (names_in e)

-- what a definition names is there
abbrev pub IsNamedAlg : Net → NetAlg → Type 0
IsNamedAlg n a = IsNamedExpr n None (defined_by a)

-- what the expressions of a choice name is there, also the state invariants that are tested after it, and so are the variables that it assigns
pub record IsNamedChoice (n : Net) (c : NetChoice) : Type 0 where
  pub test : IsNamedExpr n None c.test
  pub sent : AllByRecursion (IsNamedExpr n None) (option_to_list c.sent)
  pub updates : AllByRecursion (IsNamedExpr n (carried_type n c)) (updates_exprs c.writes)
  pub targets_there : (v : ℕ) → has (targets c.writes) v ≡ true → v < length n.vars
  pub keeps : AllByRecursion (IsNamedExpr n None) (asked n c)
