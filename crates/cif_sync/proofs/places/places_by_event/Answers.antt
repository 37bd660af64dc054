use Rattle.std.proofs.Common.{[], ◌∷◌, map, sym, ◌∙◌, ap, arith}
use Rattle.std.proofs.Math.ListN.{drop_of_length-le}
use Rattle.cif_sync.specs.Buckets.{each_noted}
use Rattle.cif_sync.proofs.PlaceLaws.{places_are}
use Rattle.cif_sync.proofs.places.places_by_event.Goals as goal

pub returns : goal.returns
returns c =
    let events = c.args.events.now in
    let last = c.loop-place.place in
    sym (ap (λ ds. each_noted last (map (λ e. e ∷ []) ds) c.loop-place.all) (drop_of_length-le events (omega arith)))
    ∙ c.loop-place.invariant
    ∙ places_are c.args.count events
