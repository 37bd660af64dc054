-- Whether values lie in the ranges of what there may be.
use Rattle.std.specs.Prelude.{ℤ, Bool, true, false, Option, None, Some}
use Rattle.cif_base.specs.declared.types.Ty.{Ty}
use Rattle.cif_system.specs.System.{in_range}
use Rattle.cif_net_model.specs.Meaning.{type_range}
use Rattle.cif_net.specs.declared.events.NetChan.{NetChan}
use Rattle.cif_net.specs.declared.events.NetChan.TheVariants as chan

abbrev pub in_channel : Option NetChan → ℤ → Bool
in_channel None z = true
in_channel (Some chan.No) z = true
in_channel (Some chan.Void) z = true
in_channel (Some (chan.Of t)) z = in_range (type_range t) z

abbrev pub in_type : Option Ty → ℤ → Bool
in_type None z = false
in_type (Some t) z = in_range (type_range t) z
