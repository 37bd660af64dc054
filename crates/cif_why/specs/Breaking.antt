-- Which state invariants are false after a choice.
use Rattle.std.specs.Prelude.{◌≡◌, ◌<◌, ◌^◌, ℕ, ◌+◌, ℤ, pos, Bool, true, ◌&&◌, List, [], ◌∷◌, ◌++◌, map, Option, None, Some, if◌then◌else◌}
use Rattle.std.specs.List.{AllByRecursion, list_all}
use Rattle.cif_system.specs.System.{State}
use Rattle.cif_net_model.specs.Net.{Net, NetAuto, NetEdge, NetInvariant, NetStored}
use Rattle.cif_net_model.specs.Listing.{NetChoice, NetMove}
use Rattle.cif_net_model.specs.Safe.{IsSafe, Setting}
use Rattle.cif_eval.specs.Updates.{AreSafeUpdates, most_pairs}
use Rattle.cif_eval.specs.Within.{within}
use Rattle.cif_eval.specs.Writes.{written}
use Rattle.cif_why_model.specs.Told.{Assigned}
use Rattle.cif_why_model.specs.Telling.{pair_of}
use Rattle.cif_why.specs.Leaving.{Sending, edge_there, is_stored, sending_of}
use Rattle.cif_why.specs.Marks.{at_place}
use Rattle.cif_why.specs.Numbering.{numbered_all}
use Rattle.cif_why.specs.Parties.{true_at}

-- what an edge assigns, numbered from 0
abbrev pub edge_assigned : State → ℤ → Option NetEdge → List Assigned
edge_assigned s r None = []
edge_assigned s r (Some y) = numbered_all (within s r) 0 y.updates

abbrev pub move_assigned : List NetAuto → State → ℤ → ℕ → Option ℕ → List Assigned
move_assigned autos s r k None = []
move_assigned autos s r k (Some j) = edge_assigned s r (edge_there autos k j)

-- what it asks to evaluate that
pub record IsSafeAssigning (s : State) (r : ℤ) (y : NetEdge) : Type 0 where
  pub updates : AreSafeUpdates (within s r) y.updates
  pub few : most_pairs y.updates < 2 ^ 32

-- what moves assign, in their order
abbrev pub moves_assigned : List NetAuto → State → ℤ → List NetMove → List Assigned
moves_assigned autos s r [] = []
moves_assigned autos s r (m ∷ ms) = move_assigned autos s r m.auto m.edge ++ moves_assigned autos s r ms

-- each variable takes its value
abbrev pub all_stored : List NetStored → List Assigned → Bool
all_stored vars ws = list_all (λ (w : Assigned). is_stored vars w.variable w.value) ws

-- the marks of those that are false are set, where the first has the number k
abbrev pub falsified : Setting → (k : ℕ) → List NetInvariant → List Bool → List Bool
falsified x k [] marks = marks
falsified x k (i ∷ is) marks = falsified x (k + 1) is (if true_at x i.pred then marks else at_place (λ b. true) k marks)

abbrev pub AreSafePreds : Setting → List NetInvariant → Type 0
AreSafePreds x is = AllByRecursion (λ (i : NetInvariant). IsSafe x i.pred) is

-- ---- a choice

-- the marks after moves whose values are in range
abbrev pub moves_falsified : Net → State → ℤ → List NetMove → List Bool → List Bool
moves_falsified n s r ms marks =
    if all_stored n.vars (moves_assigned n.autos s r ms)
    then falsified (within (written n.autos ms (map pair_of (moves_assigned n.autos s r ms)) s) (pos 0)) 0 n.invariants marks
    else marks

-- what is evaluated after them
abbrev pub AreSafeAfter : Net → State → ℤ → List NetMove → Type 0
AreSafeAfter n s r ms =
    all_stored n.vars (moves_assigned n.autos s r ms) ≡ true → AreSafePreds (within (written n.autos ms (map pair_of (moves_assigned n.autos s r ms)) s) (pos 0)) n.invariants

abbrev pub sending_falsified : Net → State → Sending → List NetMove → List Bool → List Bool
sending_falsified n s t ms marks = if t.fits then moves_falsified n s t.received ms marks else marks

abbrev pub choice_falsified : Net → State → NetChoice → List Bool → List Bool
choice_falsified n s c marks = sending_falsified n s (sending_of n.events s c) c.moves marks

-- those of the choices that pass
abbrev pub choices_falsified : (NetChoice → Bool) → Net → State → List NetChoice → List Bool → List Bool
choices_falsified p n s [] marks = marks
choices_falsified p n s (c ∷ cs) marks = choices_falsified p n s cs (if p c then choice_falsified n s c marks else marks)

-- ---- what it assigns

abbrev pub assigned_in : Net → State → NetChoice → List Assigned
assigned_in n s c = moves_assigned n.autos s (sending_of n.events s c).received c.moves

abbrev pub state_after : Net → State → NetChoice → State
state_after n s c = written n.autos c.moves (map pair_of (assigned_in n s c)) s

-- what it sends and assigns is in range
abbrev pub is_in_range : Net → State → NetChoice → Bool
is_in_range n s c = (sending_of n.events s c).fits && all_stored n.vars (assigned_in n s c)
