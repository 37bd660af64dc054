use Rattle.std.specs.Prelude.{take, length}
use Rattle.cif_batch.specs.Parts.{Joins}
use Rattle.cif_batch.proofs.workers.joined.Given as goal

abbrev pub invariant-loop-part : goal.invariant-loop-part
invariant-loop-part l = Joins (take (length l.yielded) l.fn.parts.items) l.all
