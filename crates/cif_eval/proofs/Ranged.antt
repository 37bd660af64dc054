-- What an event carries and what a variable takes, by the types of both.
use Rattle.std.proofs.Common.{◌≡◌, ℕ, zero, suc, ℤ, List, [], ◌∷◌, map, refl}
use Rattle.std.specs.Prelude.{option_map, slice_get, Some}
use Rattle.cif_system.specs.System.{Class}
use Rattle.cif_system.specs.Step.{fits_channel, fits_variable}
use Rattle.cif_net_model.specs.Meaning.{channel_in, event_in, stored_in}
use Rattle.cif_net.specs.View.{chan_of, event_tree, var_tree}
use Rattle.cif_net.specs.declared.data.Var.{Var}
use Rattle.cif_net.specs.declared.events.Event.{Event}
use Rattle.cif_net.specs.declared.events.NetChan.{NetChan}
use Rattle.cif_net.specs.declared.events.NetChan.TheVariants as chan
use Rattle.cif_eval.specs.Ranges.{in_channel, in_type}

pub event-carries : (events : List Event) (k : ℕ) (z : ℤ) → in_channel (option_map (λ (e : Event). e.chan) (slice_get events k)) z ≡ fits_channel (slice_get (map event_in (map event_tree events)) k) z
event-carries [] k z = refl
event-carries (x ∷ events) zero z = go (event_in (event_tree x)).class x.chan
  where
    go : (p : Class) (c : NetChan) → in_channel (Some c) z ≡ fits_channel (Some (record { class = p; channel = channel_in (chan_of c) })) z
    go p chan.No = refl
    go p chan.Void = refl
    go p (chan.Of t) = refl
event-carries (x ∷ events) (suc k) z = event-carries events k z

pub variable-takes : (vars : List Var) (k : ℕ) (z : ℤ) → in_type (option_map (λ (v : Var). v.ty) (slice_get vars k)) z ≡ fits_variable (slice_get (map stored_in (map var_tree vars)) k) z
variable-takes [] k z = refl
variable-takes (v ∷ vars) zero z = refl
variable-takes (v ∷ vars) (suc k) z = variable-takes vars k z
