use Rattle.std.specs.Prelude.{take, length}
use Rattle.cif_batch.specs.Cutting.{Together}
use Rattle.cif_batch.proofs.reading.together.Given as goal

abbrev pub invariant-loop-part : goal.invariant-loop-part
invariant-loop-part l = Together (take (length l.yielded) l.fn.parts.items) l.all
