use Rattle.std.proofs.Common.{◌≡◌, [], map, drop, replicate}
use Rattle.cif_net.specs.declared.automata.Auto.{Auto}
use Rattle.cif_sync.specs.Buckets.{each_noted}
use Rattle.cif_sync.proofs.columns.monitors_by_event.Given as goal

abbrev pub invariant-loop-number : goal.invariant-loop-number
invariant-loop-number l =
    each_noted l.number (map (λ (a : Auto). a.monitors) (drop l.number l.autos)) l.all ≡ each_noted 0 (map (λ (a : Auto). a.monitors) l.autos) (replicate l.events [])
