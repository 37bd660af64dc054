-- Worked sources that their nets represent.
use Rattle.std.proofs.Common.{lit≤, refl}
use Rattle.cif_source.proofs.Rows.{counter, invariant, frames}
use Rattle.cif_source.proofs.Cell.{cell_tree}
use Rattle.cif_inst_model.specs.Flat.{net_of_source}
use Rattle.cif_inst_model.specs.Represents.{Represents}
use Rattle.cif_inst_model.proofs.RepresentsLaws.{apart-differ, all-found, net-represents}
use Rattle.cif_inst_model.proofs.Trees.{swap, channel, circular, growing, monitored}

counter_is_represented : Represents (net_of_source counter) counter
counter_is_represented = net-represents counter (record { few = lit≤ tt; constants = refl; named = refl; differ = apart-differ counter refl; found = all-found counter tt })

channel_is_represented : Represents (net_of_source channel) channel
channel_is_represented = net-represents channel (record { few = lit≤ tt; constants = refl; named = refl; differ = apart-differ channel refl; found = all-found channel tt })

frames_is_represented : Represents (net_of_source frames) frames
frames_is_represented = net-represents frames (record { few = lit≤ tt; constants = refl; named = refl; differ = apart-differ frames refl; found = all-found frames (refl, (refl, (refl, tt))) })

cell_is_represented : Represents (net_of_source cell_tree) cell_tree
cell_is_represented = net-represents cell_tree (record { few = lit≤ tt; constants = refl; named = refl; differ = apart-differ cell_tree refl; found = all-found cell_tree (refl, tt) })

invariant_is_represented : Represents (net_of_source invariant) invariant
invariant_is_represented = net-represents invariant (record { few = lit≤ tt; constants = refl; named = refl; differ = apart-differ invariant refl; found = all-found invariant tt })

swap_is_represented : Represents (net_of_source swap) swap
swap_is_represented = net-represents swap (record { few = lit≤ tt; constants = refl; named = refl; differ = apart-differ swap refl; found = all-found swap tt })

-- also where algebraic variables depend on themselves
circular_is_represented : Represents (net_of_source circular) circular
circular_is_represented = net-represents circular (record { few = lit≤ tt; constants = refl; named = refl; differ = apart-differ circular refl; found = all-found circular (refl, (refl, tt)) })

growing_is_represented : Represents (net_of_source growing) growing
growing_is_represented = net-represents growing (record { few = lit≤ tt; constants = refl; named = refl; differ = apart-differ growing refl; found = all-found growing (refl, tt) })

-- alphabets and monitors
monitored_is_represented : Represents (net_of_source monitored) monitored
monitored_is_represented = net-represents monitored (record { few = lit≤ tt; constants = refl; named = refl; differ = apart-differ monitored refl; found = all-found monitored tt })
