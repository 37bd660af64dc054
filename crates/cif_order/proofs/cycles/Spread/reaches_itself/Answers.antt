use Rattle.std.proofs.Common.{subst}
use Rattle.cif_order.specs.Spread.{IsSpread}
use Rattle.cif_order.proofs.SpreadLaws.{spread-taken, spread-done}
use Rattle.cif_order.proofs.cycles.Spread.reaches_itself.Goals as goal

pub meet_all-requires-clause-spread : goal.meet_all-requires-clause-spread
meet_all-requires-clause-spread c = spread-taken _ _ _ _ _ (subst (IsSpread c.args.needs.now c.args.start c.loop-node.self.met) c.in-Some.ensures c.loop-node.invariant)

pub returns : goal.returns
returns c = let h = c.in_default.ensures in spread-done _ _ _ _ c.loop-node.invariant h.0
