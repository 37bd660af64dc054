-- What is asked of the updates of a choice in a state, so that their statements do what they are to do.
use Rattle.std.specs.Prelude.{◌≡◌, ℕ, ◌+◌, ◌≤◌, ◌<◌, IsTrue, List, Ok, ℤ, pos, Bool, true, false, Option, Some, None, length, slice_get}
use Rattle.cif_base.specs.declared.types.Ty.{Ty}
use Rattle.cif_system.specs.System.{State, Range, in_range}
use Rattle.cif_net_expr.specs.Tree.{NetExpr, NetUpdate, net_set, net_choose, NetUpdates, no_net_updates, net_updates, NetUpdateBranches, no_net_update_branches, net_update_branches}
use Rattle.cif_net_model.specs.Net.{NetStored, Net}
use Rattle.cif_net_model.specs.Unfolding.{at_or}
use Rattle.cif_net_model.specs.Meaning.{alg_values, type_range}
use Rattle.cif_net_model.specs.Safe.{Setting, value_at, IsTruth, HasBits, IsSafe}
use Rattle.std.specs.List.{AllZip}
use Rattle.st_ast.specs.Values.{Memory, value_of}
use Rattle.st_ast.specs.declared.tree.StVar.{StVar}
use Rattle.plc_model.specs.Face.{range_of}
use Rattle.plc_expr.specs.Texts.{Naming, temps, text}
use Rattle.plc_expr.specs.Held.{held_at, Reads, Held, Prepares}
use Rattle.plc_event_model.specs.Writes.{is_tested, conditions_temps, updates_temps, bodies_temps}
use Rattle.plc_event_model.specs.Own.{sent_type}

-- the setting of a net in a state, where r is received
abbrev pub setting_of : Net → State → ℤ → Setting
setting_of n s r = record { algs = at_or (pos 0) (alg_values n s r (length n.algs)); state = s; received = r }

-- Each assignment is as S says, and each condition as C says, with the number of the first own variable of its expression:
-- those of the updates are numbered from k in the order of their statements, and those of branches from k for the
-- conditions and from j for the updates.
abbrev mutual
  pub AllUpdates : (S : ℕ → ℕ → NetExpr → Type 0) (C : ℕ → NetExpr → Type 0) → ℕ → NetUpdates → Type 0
  AllUpdates S C k no_net_updates = Unit {0}
  AllUpdates S C k (net_updates u us) = OfUpdate S C (k + updates_temps us) u × AllUpdates S C k us

  pub OfUpdate : (S : ℕ → ℕ → NetExpr → Type 0) (C : ℕ → NetExpr → Type 0) → ℕ → NetUpdate → Type 0
  OfUpdate S C k (net_set v e) = S k v e
  OfUpdate S C k (net_choose bs us) = OfBranches S C k (k + conditions_temps bs) bs × AllUpdates S C (k + conditions_temps bs + bodies_temps bs) us

  pub OfBranches : (S : ℕ → ℕ → NetExpr → Type 0) (C : ℕ → NetExpr → Type 0) → (k j : ℕ) → NetUpdateBranches → Type 0
  OfBranches S C k j no_net_update_branches = Unit {0}
  OfBranches S C k j (net_update_branches c us bs) = C k c × AllUpdates S C j us × OfBranches S C (k + temps c) (j + updates_temps us) bs

-- a value that is tested has 64 bits before, and another one is in the range
abbrev pub IsFit : (tested : Bool) → Range → ℤ → Type 0
IsFit true r z = HasBits z
IsFit false r z = in_range r z ≡ true

-- the variable is there, and such a value can be assigned to it
abbrev pub CanTake : Option NetStored → ℤ → Type 0
CanTake None z = ⊥
CanTake (Some d) z = IsFit (is_tested d.type_of) (type_range d.type_of) z

-- what is asked of an assignment
abbrev pub IsSafeSet : Net → Setting → ℕ → NetExpr → Type 0
IsSafeSet n x v e = IsSafe x e × CanTake (slice_get n.vars v) (value_at x e)

-- what is asked of a condition
abbrev pub IsSafeCondition : Setting → NetExpr → Type 0
IsSafeCondition x c = IsSafe x c × IsTruth (value_at x c)

-- It is a number of the variable that it is sent through, and where it isn't tested it is in the range of the channel.
abbrev pub CanSend : Ty → ℤ → Type 0
CanSend t z = IsFit (is_tested t) (type_range t) z × IsTrue (in_range (range_of (sent_type t)) z)

-- the memory holds what is received, where something is
abbrev pub Receives : List StVar → Naming → Option Ty → ℤ → Memory → Type 0
Receives vars w None r m = Unit {0}
Receives vars w (Some t) r m = held_at vars m w.received ≡ r

-- ---- what is promised of expressions

-- each variable holds a number of its type
abbrev pub AreTyped : List StVar → Memory → Type 0
AreTyped vars m = AllZip (λ (v : StVar) z. IsTrue (in_range (range_of v.ty) z)) vars m

-- the statements before the expression leave no variable outside its type
abbrev pub KeepsTypes : List StVar → Naming → Setting → ℕ → ℕ → NetExpr → Type 0
KeepsTypes vars w x base k e = (turns : ℕ) (m : Memory) → AreTyped vars m → Reads vars w x m e → (q : Prepares vars w x base k e turns m) → AreTyped vars q.after

-- Of each safe expression whose own variables are among those from `low` to `count`: where its names are read whatever these
-- hold, the statements before it do what they are to do; it finds the same in two memories with the same at the places of its
-- own variables; and its text has its value.
pub record Promises (vars : List StVar) (w : Naming) (x : Setting) (base low count : ℕ) : Type 0 where
  pub prepares : (e : NetExpr) (k turns : ℕ) (m : Memory) → ((o : Memory) → ((j : ℕ) → (base + low ≤ j → base + count ≤ j) → slice_get o j ≡ slice_get m j) → Reads vars w x o e)
      → base + count ≤ length m → IsSafe x e → low ≤ k → k + temps e ≤ count → Prepares vars w x base k e turns m
  pub held_kept : (e : NetExpr) (k : ℕ) (m after : Memory) → low ≤ k → k + temps e ≤ count
      → ((j : ℕ) → base + k ≤ j → j < base + k + temps e → slice_get after j ≡ slice_get m j) → Held vars w x m k e → Held vars w x after k e
  pub valued : (e : NetExpr) (k : ℕ) (m : Memory) → Reads vars w x m e → IsSafe x e → Held vars w x m k e → value_of vars (text w k e) m ≡ Ok (value_at x e)
