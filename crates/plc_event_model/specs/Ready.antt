-- What is asked of the choices of an event and of the program round them, so that the statements of the event try it.
use Rattle.std.specs.Prelude.{◌≡◌, ℕ, ◌+◌, ◌≤◌, ◌<◌, ℤ, pos, true, false, List, [], ◌∷◌, Option, Some, None, is_some, length, option_to_list, slice_get, slice_index_or}
use Rattle.cif_base.specs.declared.types.Ty.{Ty}
use Rattle.cif_system.specs.System.{State, IsState}
use Rattle.cif_system.specs.Step.{after}
use Rattle.cif_net_expr.specs.Tree.{NetExpr}
use Rattle.std.specs.List.{AllByRecursion}
use Rattle.cif_net_model.specs.Net.{Net}
use Rattle.cif_net_model.specs.Exprs.{updates_exprs}
use Rattle.cif_net_model.specs.Meaning.{system_of_net, true_in}
use Rattle.cif_net_model.specs.Listing.{NetChoice, all_hold, full_choice}
use Rattle.cif_net_model.specs.Table.{carried_type}
use Rattle.grammar.specs.Pieces.{Text}
use Rattle.st_ast.specs.Tree.{Program}
use Rattle.st_ast.specs.Names.{same_name}
use Rattle.st_ast.specs.Values.{Memory}
use Rattle.st_ast.specs.declared.tree.StTy.TheVariants as ty
use Rattle.plc_model.specs.Face.{StateOf}
use Rattle.plc_frame.specs.Faces.{face_of_net}
use Rattle.plc_expr.specs.Texts.{Naming, temps}
use Rattle.cif_net_model.specs.Safe.{IsTruth, IsSafe, value_at}
use Rattle.plc_expr.specs.Held.{held_at, Reads}
use Rattle.plc_event_model.specs.Writes.{NewNames, updates_temps}
use Rattle.plc_event_model.specs.Sends.{received_in, sends_fit, sent_temps}
use Rattle.plc_event_model.specs.Asked.{setting_of, AllUpdates, CanSend, CanTake, KeepsTypes, Receives}
use Rattle.plc_event_model.specs.Own.{choice_temps}
use Rattle.plc_event_model.specs.Keeps.{after_naming, asked, variable_after}
use Rattle.plc_event_model.specs.Declared.{IsTemp, OwnStand}

-- ---- expressions

-- The expression is safe in the state where r is received, over an event of this type. Its names are read from each memory
-- that stands for the state and holds what is received, and its own variables keep their types.
abbrev pub IsReady : Net → Program → Naming → (base : ℕ) → State → Option Ty → ℤ → ℕ → NetExpr → Type 0
IsReady n p w base s t r k e =
    IsSafe (setting_of n s r) e
    × ((m : Memory) → StateOf (face_of_net n) (system_of_net n) p m s → Receives p.vars w t r m → Reads p.vars w (setting_of n s r) m e)
    × KeepsTypes p.vars w (setting_of n s r) base k e

abbrev pub IsReadyTest : Net → Program → Naming → (base : ℕ) → State → Option Ty → ℤ → ℕ → NetExpr → Type 0
IsReadyTest n p w base s t r k e = IsReady n p w base s t r k e × IsTruth (value_at (setting_of n s r) e)

abbrev pub IsReadySet : Net → Program → Naming → (base : ℕ) → State → Option Ty → ℤ → ℕ → ℕ → NetExpr → Type 0
IsReadySet n p w base s t r k v e = IsReady n p w base s t r k e × CanTake (slice_get n.vars v) (value_at (setting_of n s r) e)

-- a value is sent where the event has a type, and then its expression is ready; itself it receives nothing
abbrev pub IsReadySent : Net → Program → Naming → (base : ℕ) → State → ℕ → Option Ty → Option NetExpr → Type 0
IsReadySent n p w base s k None None = Unit {0}
IsReadySent n p w base s k None (Some e) = ⊥
IsReadySent n p w base s k (Some t) None = ⊥
IsReadySent n p w base s k (Some t) (Some e) = IsReady n p w base s None (pos 0) k e × CanSend t (value_at (setting_of n s (pos 0)) e)

-- ---- after a choice

abbrev pub state_after : Net → NetChoice → State → State
state_after n c s = after (system_of_net n) s (full_choice n c).1

-- the memory holds the value after the choice of each variable, under its name after it
abbrev pub HoldsAfter : Net → Program → Naming → NewNames → NetChoice → State → Memory → Type 0
HoldsAfter n p w y c s m = (v : ℕ) → v < length n.vars → held_at p.vars m (variable_after w y c v) ≡ slice_index_or (state_after n c s).vals v (pos 0)

-- The expression is safe in the state after the choice. Its names after the choice are read from each memory that stands for the
-- state before and holds the values after, and its own variables keep their types.
abbrev pub IsReadyAfter : Net → Program → Naming → NewNames → (base : ℕ) → NetChoice → State → ℕ → NetExpr → Type 0
IsReadyAfter n p w y base c s k e =
    IsSafe (setting_of n (state_after n c s) (pos 0)) e
    × ((m : Memory) → StateOf (face_of_net n) (system_of_net n) p m s → HoldsAfter n p w y c s m
    → Reads p.vars (after_naming n w y c) (setting_of n (state_after n c s) (pos 0)) m e)
    × KeepsTypes p.vars (after_naming n w y c) (setting_of n (state_after n c s) (pos 0)) base k e

-- ---- choices

-- In each state the test of the choice is ready. Where it holds so is what is sent, and where that is in the range of the
-- channel so are the updates. Where it leads to a state, so are the invariants that are asked there.
pub record IsReadyChoice (n : Net) (p : Program) (w : Naming) (y : NewNames) (base k : ℕ) (c : NetChoice) : Type 0 where
  pub test : (s : State) → IsState (system_of_net n) s → IsReadyTest n p w base s None (pos 0) k c.test
  pub sent : (s : State) → IsState (system_of_net n) s → true_in n s c.test ≡ true → IsReadySent n p w base s (k + temps c.test) (carried_type n c) c.sent
  pub updates : (s : State) → IsState (system_of_net n) s → true_in n s c.test ≡ true → sends_fit n s c ≡ true
      → AllUpdates (IsReadySet n p w base s (carried_type n c) (received_in n s c)) (IsReadyTest n p w base s (carried_type n c) (received_in n s c)) (k + temps c.test + sent_temps c.sent) c.writes
  pub keeps : (s : State) → IsState (system_of_net n) s → IsState (system_of_net n) (state_after n c s)
      → IsReadyAfter n p w y base c s (k + temps c.test + sent_temps c.sent + updates_temps c.writes) (all_hold (asked n c))

-- In each state the test of the choice is safe, and so are the invariants that are asked. Where the test holds, a value is sent
-- just where the event has a type, and its expression is safe; and where the value is in the range of the channel, so are the
-- expressions of the updates.
pub record IsSafeIn (n : Net) (c : NetChoice) (s : State) : Type 0 where
  pub test : IsSafe (setting_of n s (pos 0)) c.test
  pub sends : true_in n s c.test ≡ true → is_some c.sent ≡ is_some (carried_type n c)
  pub sent : true_in n s c.test ≡ true → AllByRecursion (IsSafe (setting_of n s (pos 0))) (option_to_list c.sent)
  pub updates : true_in n s c.test ≡ true → sends_fit n s c ≡ true → AllByRecursion (IsSafe (setting_of n s (received_in n s c))) (updates_exprs c.writes)
  pub keeps : AllByRecursion (IsSafe (setting_of n s (pos 0))) (asked n c)

abbrev pub IsSafeChoice : Net → NetChoice → Type 0
IsSafeChoice n c = (s : State) → IsState (system_of_net n) s → IsSafeIn n c s

-- of each choice with the number of its first own variable
abbrev pub AllFrom : Net → (P : ℕ → NetChoice → Type 0) → ℕ → List NetChoice → Type 0
AllFrom n P k [] = Unit {0}
AllFrom n P k (c ∷ cs) = P k c × AllFrom n P (k + choice_temps n c) cs

-- its own variables and its expressions are as they are asked for
pub record ChoiceStands (n : Net) (p : Program) (own : List Text) (w : Naming) (y : NewNames) (base low count k : ℕ) (c : NetChoice) : Type 0 where
  pub variables : OwnStand n p own w y base low count (carried_type n c) c.writes
  pub ready : IsReadyChoice n p w y base k c
  pub from : low ≤ k
  pub room : k + choice_temps n c ≤ count

-- ---- the mark that a choice was made

-- It is one of the event's own variables, and none of those of the choices.
pub record DoneStands (p : Program) (own : List Text) (w : Naming) (y : NewNames) (low count : ℕ) (done : Text) : Type 0 where
  pub variable : IsTemp p own done ty.Bool
  pub no_mark : same_name done y.in_range ≡ false
  pub no_next : (v : ℕ) → same_name done (y.next v) ≡ false
  pub no_sent : same_name done w.received ≡ false
  pub no_own : (k : ℕ) → low ≤ k → k < count → same_name done (w.own k) ≡ false
