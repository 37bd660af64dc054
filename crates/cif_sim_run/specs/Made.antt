-- Actions that were made, and what they may have changed.
use Rattle.std.specs.Prelude.{◌≡◌, ℕ, List, Some, slice_get, length}
use Rattle.std.specs.List.{Contains}
use Rattle.cif_system.specs.System.{State}
use Rattle.cif_net_model.specs.Listing.{NetChoice}
use Rattle.cif_net.specs.View.{choice_tree}
use Rattle.cif_net.specs.declared.guarded.Guarded.{Guarded}
use Rattle.cif_net.specs.declared.listing.Choice.{Choice}
use Rattle.cif_sim_model.specs.Script.{Action, idle, sets, fires}
use Rattle.cif_script.specs.Touches.{Ascend}
use Rattle.cif_script.specs.declared.touched.Touched.{Touched}
use Rattle.cif_sim.specs.Stays.{StaysBut, movers, targets_all}
use Rattle.cif_sim_run.specs.declared.made.Made.{Made}
use Rattle.cif_sim_run.specs.declared.made.Made.TheVariants.{Idle, Set, Fire}

abbrev pub action_made : Made → Action
action_made Idle = idle
action_made (Set input value) = sets input value
action_made (Fire f) = fires f.event

-- ---- what the choices of a net may change

-- ks has each of the numbers, in ascending order
pub record AreInOrder (numbers ks : List ℕ) : Type 0 where
  pub ascend : Ascend 0 ks
  pub each : (k : ℕ) → Contains numbers k → Contains ks k

-- these are the automata that the choice moves, and the variables that it may assign
pub record IsTouchedBy (c : NetChoice) (x : Touched) : Type 0 where
  pub autos : AreInOrder (movers c.moves) x.autos
  pub vars : AreInOrder (targets_all c.writes) x.vars

-- the choices change no more than these
pub record AreTouches (choices : List Choice) (xs : List Touched) : Type 0 where
  pub counted : length xs ≡ length choices
  pub each : (k : ℕ) (c : Choice) (x : Touched) → slice_get choices k ≡ Some c → slice_get xs k ≡ Some x → IsTouchedBy (choice_tree c) x

-- the choice k of the net left all else as it was
pub record ChangedBy (g : Guarded) (k : ℕ) (s t : State) : Type 0 where
  pub choice : Choice
  pub listed : slice_get g.choices k ≡ Some choice
  pub stays : StaysBut (choice_tree choice) s t

-- where the action is a step, its choice did
abbrev pub IsWithin : Guarded → Made → State → State → Type 0
IsWithin g (Fire f) s t = ChangedBy g f.choice s t
IsWithin g _ s t = Unit {0}
