-- Which values of edges leave their ranges in a choice.
use Rattle.std.specs.Prelude.{◌≡◌, ◌<◌, ◌^◌, ◌+◌, ℕ, ℤ, pos, Bool, true, List, [], ◌∷◌, ◌++◌, map, length, Option, None, Some, option_and_then, option_map, option_to_list, slice_get, unwrap_or, if◌then◌else◌}
use Rattle.std.specs.List.{AllByRecursion, list_all}
use Rattle.cif_system.specs.System.{State}
use Rattle.cif_system.specs.Step.{fits_channel, fits_variable}
use Rattle.cif_net_expr.specs.Tree.{NetExpr}
use Rattle.cif_net_model.specs.Net.{Net, NetAuto, NetEdge, NetEvent, NetStored}
use Rattle.cif_net_model.specs.Listing.{NetChoice, NetMove}
use Rattle.cif_net_model.specs.Meaning.{event_in, stored_in}
use Rattle.cif_net_model.specs.Safe.{IsSafe, Setting, value_at}
use Rattle.cif_eval.specs.Updates.{AreSafeUpdates, most_pairs}
use Rattle.cif_eval.specs.Within.{within}
use Rattle.cif_why_model.specs.Told.{Assigned}
use Rattle.cif_why.specs.Marks.{marked_edge}
use Rattle.cif_why.specs.Numbering.{numbered_all}

-- the event carries the value
abbrev pub is_carried : List NetEvent → ℕ → ℤ → Bool
is_carried events e z = fits_channel (slice_get (map event_in events) e) z

-- the variable takes the value
abbrev pub is_stored : List NetStored → ℕ → ℤ → Bool
is_stored vars v z = fits_variable (slice_get (map stored_in vars) v) z

-- the numbers of those that their variables don't take
abbrev pub unfit : List NetStored → List Assigned → List ℕ
unfit vars [] = []
unfit vars (w ∷ ws) = (if is_stored vars w.variable w.value then [] else w.number ∷ []) ++ unfit vars ws

-- the number of the sent value, if there is one and its event doesn't carry it
abbrev pub uncarried : List NetEvent → ℕ → Setting → Option NetExpr → List ℕ
uncarried events e x None = []
uncarried events e x (Some v) = if is_carried events e (value_at x v) then [] else 0 ∷ []

-- what a choice sends: whether its event carries that, and what is received
pub record Sending : Type 0 where
  pub fits : Bool
  pub received : ℤ

abbrev pub sending_of : List NetEvent → State → NetChoice → Sending
sending_of events s c = record {
  fits = list_all (is_carried events c.event) (option_to_list (option_map (value_at (within s (pos 0))) c.sent));
  received = unwrap_or (option_map (value_at (within s (pos 0))) c.sent) (pos 0);
}

-- the numbers of the values of an edge that leave their ranges
abbrev pub leaving : Net → State → ℕ → Sending → NetEdge → List ℕ
leaving n s e t y =
    uncarried n.events e (within s (pos 0)) y.sent
    ++ (if t.fits then unfit n.vars (numbered_all (within s t.received) (length (option_to_list y.sent)) y.updates) else [])

abbrev pub edge_there : List NetAuto → (k j : ℕ) → Option NetEdge
edge_there autos k j = option_and_then (λ (a : NetAuto). slice_get a.edges j) (slice_get autos k)

abbrev pub leaving_of : Net → State → ℕ → Sending → Option NetEdge → List ℕ
leaving_of n s e t None = []
leaving_of n s e t (Some y) = leaving n s e t y

abbrev pub leaving_at : Net → State → ℕ → Sending → (k j : ℕ) → List ℕ
leaving_at n s e t k j = leaving_of n s e t (edge_there n.autos k j)

-- ---- marks

abbrev pub move_marked : Net → State → ℕ → Sending → ℕ → Option ℕ → List (List (List Bool)) → List (List (List Bool))
move_marked n s e t k None marks = marks
move_marked n s e t k (Some j) marks = marked_edge k j (leaving_at n s e t k j) marks

abbrev pub moves_marked : Net → State → ℕ → Sending → List NetMove → List (List (List Bool)) → List (List (List Bool))
moves_marked n s e t [] marks = marks
moves_marked n s e t (m ∷ ms) marks = moves_marked n s e t ms (move_marked n s e t m.auto m.edge marks)

abbrev pub choice_marked : Net → State → NetChoice → List (List (List Bool)) → List (List (List Bool))
choice_marked n s c marks = moves_marked n s c.event (sending_of n.events s c) c.moves marks

-- those of the choices that pass
abbrev pub choices_marked : (NetChoice → Bool) → Net → State → List NetChoice → List (List (List Bool)) → List (List (List Bool))
choices_marked p n s [] marks = marks
choices_marked p n s (c ∷ cs) marks = choices_marked p n s cs (if p c then choice_marked n s c marks else marks)

-- ---- what is evaluated

pub record IsSafeEdge (s : State) (t : Sending) (y : NetEdge) : Type 0 where
  pub sent : AllByRecursion (IsSafe (within s (pos 0))) (option_to_list y.sent)
  pub updates : t.fits ≡ true → AreSafeUpdates (within s t.received) y.updates
  pub few : length (option_to_list y.sent) + most_pairs y.updates < 2 ^ 32

abbrev pub IsSafeMove : List NetAuto → State → Sending → NetMove → Type 0
IsSafeMove autos s t m = (j : ℕ) (y : NetEdge) → m.edge ≡ Some j → edge_there autos m.auto j ≡ Some y → IsSafeEdge s t y
