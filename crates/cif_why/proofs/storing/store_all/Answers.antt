use Rattle.std.proofs.Common.{◌∙◌, arith}
use Rattle.cif_why.specs.Restoring.{pair_in}
use Rattle.cif_why.proofs.RestoreLaws.{more-starts, stored-more}
use Rattle.cif_why.proofs.storing.store_all.Goals as goal

pub loop-k-init : goal.loop-k-init
loop-k-init c = more-starts pair_in c.args.assigned.now c.args.values.now

pub loop-k-preserved : goal.loop-k-preserved
loop-k-preserved c = c.store_one.ensures ∙ stored-more pair_in c.args.assigned.now c.loop-k.k _ c.args.values.now c.loop-k.values (omega arith) (omega arith) c.loop-k.invariant
