use Rattle.std.proofs.Common.{◌≡◌, ◌++◌, drop}
use Rattle.cif_batch.specs.Cutting.{text_of}
use Rattle.cif_batch.proofs.reading.read_pieces.Given as goal

abbrev pub invariant-loop-piece : goal.invariant-loop-piece
invariant-loop-piece l = l.text.items ++ text_of (drop l.piece-index l.pieces) ≡ l.header ++ text_of l.pieces
