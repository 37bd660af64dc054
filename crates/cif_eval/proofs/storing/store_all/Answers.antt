use Rattle.std.proofs.Common.{◌∙◌, arith}
use Rattle.cif_eval.proofs.Stored.{stored-back, store-starts}
use Rattle.cif_eval.proofs.storing.store_all.Goals as goal

pub loop-k-init : goal.loop-k-init
loop-k-init c = store-starts c.args.pairs.now c.args.values.now

pub loop-k-preserved : goal.loop-k-preserved
loop-k-preserved c = c.store_one.ensures ∙ stored-back c.args.pairs.now c.loop-k.k _ c.args.values.now c.loop-k.values (omega arith) (omega arith) c.loop-k.invariant
