use Rattle.std.proofs.Common.{◌≡◌, [], ◌∷◌, map, drop, replicate}
use Rattle.cif_sync.specs.Buckets.{each_noted}
use Rattle.cif_sync.proofs.places.places_by_event.Given as goal

abbrev pub invariant-loop-place : goal.invariant-loop-place
invariant-loop-place l =
    each_noted l.place (map (λ e. e ∷ []) (drop l.place l.events)) l.all ≡ each_noted 0 (map (λ e. e ∷ []) l.events) (replicate l.count [])
