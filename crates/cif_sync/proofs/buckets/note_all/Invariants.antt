use Rattle.std.proofs.Common.{◌≡◌, drop}
use Rattle.cif_sync.specs.Buckets.{all_noted}
use Rattle.cif_sync.proofs.buckets.note_all.Given as goal

abbrev pub invariant-loop-event : goal.invariant-loop-event
invariant-loop-event l = all_noted l.number (drop l.event-index l.events) l.buckets ≡ all_noted l.number l.events l.initial.buckets
