-- The marks of events after something that they read may have changed, and what marks mean.
use Rattle.std.specs.Prelude.{◌≡◌, ◌⊎◌, ◌<◌, ℕ, Bool, false, List, [], ◌∷◌, length, Option, None, Some}
use Rattle.cif_system.specs.System.{State}
use Rattle.cif_system.specs.Choices.{first_step}
use Rattle.cif_net_expr.specs.Tree.{NetUpdate, net_set, net_choose, NetUpdates, no_net_updates, net_updates, NetUpdateBranches, no_net_update_branches, net_update_branches}
use Rattle.cif_net_model.specs.Listing.{NetChoice, NetMove}
use Rattle.cif_net.specs.declared.guarded.Guarded.{Guarded}
use Rattle.cif_eval.specs.Choices.{system_of}
use Rattle.cif_sim.specs.Marks.{is_on, woken, woken_one}
use Rattle.cif_sim.specs.Readers.{list_at}
use Rattle.cif_sim.specs.declared.readers.Readers.{Readers}

abbrev pub woken_move : List (List ℕ) → ℕ → Option ℕ → List Bool → List Bool
woken_move places auto None marks = marks
woken_move places auto (Some edge) marks = woken (list_at places auto) marks

-- after moves: the readers of the automata that take an edge
abbrev pub woken_moves : List (List ℕ) → List NetMove → List Bool → List Bool
woken_moves places [] marks = marks
woken_moves places (m ∷ ms) marks = woken_moves places ms (woken_move places m.auto m.edge marks)

-- after updates: the readers of the variables that they assign, in any branch
abbrev mutual
  pub woken_updates : List (List ℕ) → NetUpdates → List Bool → List Bool
  woken_updates vars no_net_updates marks = marks
  woken_updates vars (net_updates u us) marks = woken_updates vars us (woken_update vars u marks)

  pub woken_update : List (List ℕ) → NetUpdate → List Bool → List Bool
  woken_update vars (net_set v e) marks = woken (list_at vars v) marks
  woken_update vars (net_choose bs us) marks = woken_updates vars us (woken_branches vars bs marks)

  pub woken_branches : List (List ℕ) → NetUpdateBranches → List Bool → List Bool
  woken_branches vars no_net_update_branches marks = marks
  woken_branches vars (net_update_branches c us bs) marks = woken_branches vars bs (woken_updates vars us marks)

-- after a choice
abbrev pub woken_by : Readers → NetChoice → List Bool → List Bool
woken_by t c marks = woken_updates t.vars c.writes (woken_moves t.places c.moves marks)

-- after a choice these are on, or all are
abbrev pub Woke : Readers → NetChoice → (old new : List Bool) → Type 0
Woke t c old new = (new ≡ woken_by t c old) ⊎ (new ≡ woken_one (length old) old)

-- there is a mark for each event, and one whose mark is off has no step
pub record AreIdle (g : Guarded) (s : State) (marks : List Bool) : Type 0 where
  pub long : length marks ≡ length g.plain.net.events
  pub none : (e : ℕ) → e < length g.plain.net.events → is_on marks e ≡ false → first_step (system_of g) s e ≡ None
