-- Helper of the code: the names before and after a choice, as a generator has them.
use Rattle.std.specs.Prelude.{◌≡◌, ℕ, List, Option, Some, None, option_map, slice_get}
use Rattle.cif_net_model.specs.Listing.{NetMove, NetChoice}
use Rattle.cif_net_model.specs.Net.{NetEdge, Net}
use Rattle.plc_expr.specs.Written.{name_at, naming_of}
use Rattle.plc_expr.specs.declared.names.Names.{Names}
use Rattle.plc_expr.specs.declared.names.PlaceText.{PlaceText}
use Rattle.plc_expr.specs.declared.names.PlaceText.TheVariants as place
use Rattle.plc_event_model.specs.Keeps.{variable_after}
use Rattle.plc_event_model.specs.Writes.{NewNames}
use Rattle.plc_event.specs.Moved.{taken_by}

-- the same names, but for that of what is received
pub record AreSame (x names : Names) : Type 0 where
  pub places : (k : ℕ) → slice_get x.places k ≡ slice_get names.places k
  pub variables : (v : ℕ) → name_at x.variables v ≡ name_at names.variables v
  pub inputs : x.inputs ≡ names.inputs
  pub own : x.own ≡ names.own

-- known to be in a place, and where there is none as before
abbrev pub moved_to : Option ℕ → Option PlaceText → Option PlaceText
moved_to None before = before
moved_to (Some p) before = Some (place.Known p)

-- an automaton that takes an edge is known to be where that ends
abbrev pub place_by : Net → List NetMove → List PlaceText → ℕ → Option PlaceText
place_by n ms places k = moved_to (option_map (λ (x : NetEdge). x.to) (taken_by n ms k)) (slice_get places k)

-- those after the choice
pub record AreAfter (n : Net) (names : Names) (y : NewNames) (c : NetChoice) (x : Names) : Type 0 where
  pub places : (k : ℕ) → slice_get x.places k ≡ place_by n c.moves names.places k
  pub variables : (v : ℕ) → name_at x.variables v ≡ variable_after (naming_of names) y c v
  pub inputs : x.inputs ≡ names.inputs
  pub received : x.received ≡ names.received
  pub own : x.own ≡ names.own
