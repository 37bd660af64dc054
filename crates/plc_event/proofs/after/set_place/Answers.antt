use Rattle.std.proofs.Common.{◌<◌, length, arith}
use Rattle.plc_event.proofs.Aftering.{place-set}
use Rattle.plc_event.proofs.after.set_place.Goals as goal

pub returns : goal.returns
returns c =
    let within : c.args.auto < length c.args.places.now = let off = c.if-at-len.false in let count = c.len.ensures in omega arith in
    place-set c.args.to c.args.before.now c.args.places.now c.set.new.self c.args.auto c.in_ok-place_of.field-0 within c.in_ok-place_of.ensures c.set.ensures
