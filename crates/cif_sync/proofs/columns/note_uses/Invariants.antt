use Rattle.std.proofs.Common.{◌≡◌, drop}
use Rattle.cif_net.specs.View.{role_of}
use Rattle.cif_sync.specs.Buckets.{all_noted}
use Rattle.cif_sync.specs.Columns.{events_in}
use Rattle.cif_sync.proofs.columns.note_uses.Given as goal

abbrev pub invariant-loop-edge : goal.invariant-loop-edge
invariant-loop-edge l =
    all_noted l.number (events_in (role_of l.role) (drop l.edge-index l.edges)) l.buckets ≡ all_noted l.number (events_in (role_of l.role) l.edges) l.initial.buckets
