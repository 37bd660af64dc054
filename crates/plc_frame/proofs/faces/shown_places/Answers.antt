use Rattle.plc_frame.proofs.ScanLaws.{few-locs}
use Rattle.plc_frame.proofs.faces.shown_places.Goals as goal

pub shown_place-requires : goal.shown_place-requires
shown_place-requires c =
    few-locs c.args.net.now c.as_slice-auto-items.result.now c.loop-auto.auto-index c.auto-item.result c.as_slice-auto-items.ensures c.loop-auto-test.true c.auto-item.is
