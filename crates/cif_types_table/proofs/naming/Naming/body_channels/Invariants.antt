use Rattle.std.proofs.Common.{◌≡◌, ◌++◌, map, drop}
use Rattle.cif_types_table.specs.Types.{channel_in_slot}
use Rattle.cif_types_table.proofs.naming.Naming.body_channels.Given as goal

abbrev pub invariant-loop-slot : goal.invariant-loop-slot
invariant-loop-slot l = l.all ++ map (channel_in_slot l.self.scopes.now l.self.slots.now l.kinds l.body) (drop l.slot-index l.row) ≡ map (channel_in_slot l.self.scopes.now l.self.slots.now l.kinds l.body) l.row
