use Rattle.cif_inst_sizes.proofs.GrowLaws.{blank-added}
use Rattle.cif_inst_sizes.proofs.weights.blanks.Goals as goal

pub loop-number-preserved : goal.loop-number-preserved
loop-number-preserved c = blank-added c.loop-number.all.items c.push.new.self.items c.in_ok-blank.field-0 c.loop-number.invariant c.in_ok-blank.ensures c.in_ok-push.ensures.items
