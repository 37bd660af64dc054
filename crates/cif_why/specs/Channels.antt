-- Channels of events by their kinds.
use Rattle.std.specs.Prelude.{Bool, true, false, Option, None, Some}
use Rattle.cif_net.specs.declared.events.NetChan.{NetChan}
use Rattle.cif_net.specs.declared.events.NetChan.TheVariants as chan

abbrev pub is_chan : Option NetChan → Bool
is_chan None = false
is_chan (Some chan.No) = false
is_chan (Some chan.Void) = true
is_chan (Some (chan.Of t)) = true
