use Rattle.std.proofs.Common.{arith}
use Rattle.cif_order.proofs.OrderLaws.{start-sound, order-whole}
use Rattle.cif_order.proofs.ordering.order.Goals as goal

pub loop-root-init : goal.loop-root-init
loop-root-init c =
    let n = c.in_ok-search.ensures in
    record { sound = start-sound _ _ _ _ n.marks n.path n.order; empty = n.path; begun = λ x h. absurd (omega (arith, h)) }

pub returns-clause-order : goal.returns-clause-order
returns-clause-order c =
    let i = c.loop-root.invariant in
    rw c.into_order.ensures (order-whole _ _ _ _ i.sound i.empty (λ x h. i.begun x (omega (arith, h))))
