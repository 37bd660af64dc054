use Rattle.std.specs.Prelude.{◌≡◌, ◌++◌}
use Rattle.std.specs.List.{AllByRecursion}
use Rattle.cif_batch.specs.Cutting.{EndsLine, text_of}
use Rattle.cif_batch.proofs.cutting.pieces.Given as goal

abbrev pub invariant-loop : goal.invariant-loop
invariant-loop l = AllByRecursion (λ p. EndsLine p.now) l.pieces.items × (text_of l.pieces.items ++ l.left ≡ l.fn.text)
