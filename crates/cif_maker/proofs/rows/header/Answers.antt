use Rattle.std.proofs.Common.{codes}
use Rattle.std.specs.Prelude.{string_bytes}
use Rattle.cif_maker.specs.MadeText.{input_name}
use Rattle.cif_maker.proofs.Counting.{one_more}
use Rattle.cif_maker.proofs.rows.header.Goals as goal

pub loop-i-preserved : goal.loop-i-preserved
loop-i-preserved c =
    one_more input_name c.loop-i.i-counter (codes "scan") (string_bytes c.loop-i.text) (string_bytes c.write.new.self) c.loop-i.invariant c.in_ok-write.ensures.bytes
