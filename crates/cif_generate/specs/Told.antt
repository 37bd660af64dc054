-- Helper of the code: how the command ends over a net with an event that has no class.
use Rattle.std.specs.Prelude.{◌≡◌, ℕ, [], Some, None, slice_get}
use Rattle.grammar.specs.Pieces.{Text}
use Rattle.cif_net_model.specs.Net.{Net}
use Rattle.cif_run.specs.declared.ended.Ended.{Ended}
use Rattle.cif_run.specs.declared.status.Status.{Status}
use Rattle.cif_run.specs.declared.status.Status.TheVariants as status
use Rattle.cif_run.specs.declared.status.ProfileWhy.TheVariants as profile

-- the path of an event
abbrev pub path_in : Net → (event : ℕ) → Text
path_in n event = elim (slice_get n.events event) [ None ↦ [] | Some e ↦ e.path ]

abbrev pub TellsOf : Net → (event : ℕ) → (name : Text) → Status → Type 0
TellsOf n event name (status.OutsideProfile (profile.Unclassed e)) = (e ≡ event) × (name ≡ path_in n event)
TellsOf n event name status.Memory = Unit {0}
TellsOf n event name _ = ⊥

-- the event is told by its path, or no memory was found
abbrev pub IsTold : Net → (event : ℕ) → Ended → Type 0
IsTold n event e = TellsOf n event e.variable e.status
