use Rattle.cif_order.proofs.SearchLaws.{root-opens}
use Rattle.cif_order.proofs.search.Search.visit.Goals as goal

pub loop-node-init : goal.loop-node-init
loop-node-init c =
    let e = c.in_ok-open.ensures in
    rw (e.marks, e.path, e.order)
    (let b = root-opens _ _ _ _ _ c.requires.sound c.requires.empty c.requires.new in record { sound = b.sound; kept = b.kept; begun = b.begun })
