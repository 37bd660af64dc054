-- What a table of the choices of a plain net keeps.
use Rattle.std.specs.Prelude.{◌≡◌, ℕ, pos, ◌+◌, Bool, true, false, ◌&&◌, nat_le, List, [], ◌∷◌, ◌++◌, map, length, Option, Some, None, option_map, option_to_list, slice_get}
use Rattle.std.specs.List.{list_all, range_with_len}
use Rattle.cif_base.specs.declared.types.Ty.{Ty}
use Rattle.cif_system.specs.System.{State}
use Rattle.cif_system.specs.Step.{agrees, sent, assigned, is_permitted}
use Rattle.cif_net_expr.specs.Tree.{NetExpr}
use Rattle.cif_net_model.specs.Net.{Net}
use Rattle.cif_net_model.specs.Meaning.{value_in, true_in, net_assigned_all, system_of_net}
use Rattle.cif_net_model.specs.Exprs.{updates_exprs}
use Rattle.cif_net_model.specs.Kinds.{bool_kind, fits, fits_type}
use Rattle.cif_net_model.specs.Facts.{channel_of, updates_stand}
use Rattle.cif_net_model.specs.Listing.{NetChoice, full_choice, full_choices, moves_of, listed, edges_taken, sent_by, writes_of}
use Rattle.cif_net_model.specs.Counts.{all_beside, measure, most_depth}
use Rattle.cif_net_model.specs.Shown.{channel_range, channel_type}
use Rattle.cif_net_model.specs.Rules.{Evaluated, is_plain_expr}

-- whether the choice agrees with its event
abbrev pub agrees_in : Net → State → NetChoice → Bool
agrees_in n s c = agrees (system_of_net n) s c.event (full_choice n c).1

abbrev pub permitted_in : Net → State → NetChoice → Bool
permitted_in n s c = is_permitted (system_of_net n) c.event s

-- the values that its edges send, and the pairs that they assign
abbrev pub SendsAndAssigns : Net → State → NetChoice → Type 0
SendsAndAssigns n s c =
    (option_to_list (option_map (value_in n s (pos 0)) c.sent) ≡ sent (system_of_net n) s (full_choice n c).1)
    × (net_assigned_all n s (elim (option_map (value_in n s (pos 0)) c.sent) [ None ↦ pos 0 | Some z ↦ z ]) c.writes ≡ assigned (system_of_net n) s (full_choice n c).1)

-- what its edges send and their updates, in the order of the parties, with their conditions kept
abbrev pub HasUpdatesOfEdges : Net → NetChoice → Type 0
HasUpdatesOfEdges n c = (c.sent ≡ sent_by (edges_taken n (full_choice n c).1)) × (c.writes ≡ writes_of (edges_taken n (full_choice n c).1))

-- ---- expressions of a choice

abbrev pub choice_exprs : NetChoice → List NetExpr
choice_exprs c = c.test ∷ (option_to_list c.sent ++ updates_exprs c.writes)

abbrev pub carried_type : Net → NetChoice → Option Ty
carried_type n c = channel_type (channel_of n c.event)

abbrev pub choice_evaluated : Net → NetChoice → List Evaluated
choice_evaluated n c = map (λ e. record { value = e; received = channel_range (channel_of n c.event) }) (choice_exprs c)

abbrev pub sent_stands : Net → Option Ty → Option NetExpr → Bool
sent_stands n t None = true
sent_stands n None (Some e) = false
sent_stands n (Some t) (Some e) = fits_type n t e

-- a test stands round the guards of a net: a negation and two conjunctions
abbrev pub most_test_depth : ℕ
most_test_depth = 3 + most_depth

-- What it names is there, and each expression has its kind, names no algebraic variable, divides by no 0, stays in 64 bits
-- and is no deeper than such a test.
abbrev pub choice_stands : Net → NetChoice → Bool
choice_stands n c = fits n None bool_kind c.test
    && sent_stands n (carried_type n c) c.sent
    && updates_stand n (carried_type n c) c.writes
    && list_all (is_plain_expr n) (choice_evaluated n c)
    && nat_le (all_beside (map (measure n) (choice_exprs c))).depth most_test_depth

-- the moves are those of its parties, in ascending number
abbrev pub MovesParties : Net → NetChoice → Type 0
MovesParties n c = c.moves ≡ moves_of n c.event (full_choice n c).1

-- ---- what a table of choices keeps

-- Each choice of the net once, in order. The test of each holds where it agrees.
pub record IsLinear (n : Net) (cs : List NetChoice) : Type 0 where
  pub each : full_choices n cs ≡ listed (system_of_net n)
  pub parties : (k : ℕ) (c : NetChoice) → slice_get cs k ≡ Some c → MovesParties n c
  pub stands : (k : ℕ) (c : NetChoice) → slice_get cs k ≡ Some c → choice_stands n c ≡ true
  pub tests : (k : ℕ) (c : NetChoice) (s : State) → slice_get cs k ≡ Some c → true_in n s c.test ≡ agrees_in n s c
  pub written : (k : ℕ) (c : NetChoice) → slice_get cs k ≡ Some c → HasUpdatesOfEdges n c
  pub values : (k : ℕ) (c : NetChoice) (s : State) → slice_get cs k ≡ Some c → SendsAndAssigns n s c
  pub none : (k : ℕ) (c : NetChoice) → slice_get cs k ≡ Some c → c.invariants ≡ []

-- The same, where a test holds where the choice agrees and the exclusions permit the event, and all invariants are asked.
pub record IsGuarded (n : Net) (cs : List NetChoice) : Type 0 where
  pub each : full_choices n cs ≡ listed (system_of_net n)
  pub parties : (k : ℕ) (c : NetChoice) → slice_get cs k ≡ Some c → MovesParties n c
  pub stands : (k : ℕ) (c : NetChoice) → slice_get cs k ≡ Some c → choice_stands n c ≡ true
  pub tests : (k : ℕ) (c : NetChoice) (s : State) → slice_get cs k ≡ Some c → true_in n s c.test ≡ (agrees_in n s c && permitted_in n s c)
  pub written : (k : ℕ) (c : NetChoice) → slice_get cs k ≡ Some c → HasUpdatesOfEdges n c
  pub values : (k : ℕ) (c : NetChoice) (s : State) → slice_get cs k ≡ Some c → SendsAndAssigns n s c
  pub all : (k : ℕ) (c : NetChoice) → slice_get cs k ≡ Some c → c.invariants ≡ range_with_len 0 (length n.invariants)
