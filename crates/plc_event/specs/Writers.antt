-- Helper of the code: what updates are written with, and how the conditions and the statements of branches come together.
use Rattle.std.specs.Prelude.{◌≡◌, ℕ, ◌+◌, List, [], ◌∷◌, nat_eq, if◌then◌else◌}
use Rattle.grammar.specs.Pieces.{Text}
use Rattle.cif_net_expr.specs.Tree.{NetUpdateBranches, no_net_update_branches, net_update_branches}
use Rattle.cif_net_model.specs.Net.{Net}
use Rattle.st_ast.specs.Tree.{Expr, Branches, no_branches, branches}
use Rattle.plc_expr.specs.Texts.{Naming, temps, text}
use Rattle.plc_expr.specs.Written.{name_at}
use Rattle.plc_event_model.specs.Writes.{NewNames, updates_temps, writes}
use Rattle.plc_event.specs.declared.writing.NewTexts.{NewTexts}

abbrev pub new_names_of : NewTexts → NewNames
new_names_of x = record { in_range = x.in_range; next = λ v. name_at x.next v }

-- one variable has this name afterwards, and nothing else changes
pub record Keeps (old new : NewTexts) (var : ℕ) (name : Text) : Type 0 where
  pub next : (v : ℕ) → (new_names_of new).next v ≡ (if nat_eq v var then name else (new_names_of old).next v)
  pub in_range : new.in_range ≡ old.in_range

-- the conditions, numbered from k
abbrev pub condition_texts : Naming → ℕ → NetUpdateBranches → List Expr
condition_texts w k no_net_update_branches = []
condition_texts w k (net_update_branches c us bs) = text w k c ∷ condition_texts w (k + temps c) bs

-- these conditions, each with the statements of its branch, which are numbered from j
abbrev pub joined : Net → Naming → NewNames → ℕ → List Expr → NetUpdateBranches → Branches
joined n w y j cs no_net_update_branches = no_branches
joined n w y j [] bs = no_branches
joined n w y j (c ∷ cs) (net_update_branches d us bs) = branches c (writes n w y j us) (joined n w y (j + updates_temps us) cs bs)
