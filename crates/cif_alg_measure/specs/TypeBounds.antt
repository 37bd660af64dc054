-- The ranges of types, of which each has at least one number.
use Rattle.std.specs.Prelude.{ℤ, pos, ◌-ℤ◌, int_le, List, Some, None, slice_get, if◌then◌else◌}
use Rattle.cif_base.specs.Bounds.{Bounds, between}
use Rattle.cif_base.specs.declared.types.Ty.{Ty}
use Rattle.cif_base.specs.declared.types.Ty.TheVariants as ty
use Rattle.cif_net_model.specs.Net.{NetChan, net_chan_of, NetEvent, NetEdge}
use Rattle.cif_alg_measure.specs.Checked.{truth_bounds}

-- the numbers from lo to hi, and 0 alone where there is none
abbrev pub bounds_or_zero : ℤ → ℤ → Bounds
bounds_or_zero lo hi = if int_le lo hi then between lo hi else between (pos 0) (pos 0)

abbrev pub type_bounds : Ty → Bounds
type_bounds ty.Bool = truth_bounds
type_bounds (ty.Int lo hi) = bounds_or_zero lo hi
type_bounds (ty.Enum size) = bounds_or_zero (pos 0) (pos size -ℤ pos 1)

abbrev pub channel_bounds : NetChan → Bounds
channel_bounds (net_chan_of t) = type_bounds t
channel_bounds _ = truth_bounds

-- of the channel of the edge's event
abbrev pub received_bounds : List NetEvent → NetEdge → Bounds
received_bounds events x = elim (slice_get events x.event) [ None ↦ truth_bounds | Some e ↦ channel_bounds e.chan ]
