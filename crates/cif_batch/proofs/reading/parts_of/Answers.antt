use Rattle.std.proofs.Common.{rules, length, take, drop, arith, subst, ℕ, List, Bor}
use Rattle.std.specs.Prelude.{slice_index_or, IfSome}
use Rattle.grammar.specs.Pieces.{Text}
use Rattle.cif_batch.specs.Cutting.{IsRead}
use Rattle.cif_batch.proofs.CutLaws.{one_each}
use Rattle.cif_batch.proofs.reading.parts_of.Goals as goal

pub returns : goal.returns
returns g c = record {
  each = λ n d within.
      let chunk = (c.in_ok-parts.ensures.each n d within).1 in
      subst (λ (k : ℕ). IfSome (slice_index_or c.in_ok-parts.parts.items n d) (λ x. IsRead c.args.program.now.vars c.args.header.now (take 1 (drop k c.args.pieces.now)) x.cases)) (omega arith)
      (subst (λ (ps : List (Bor Text)). IfSome (slice_index_or c.in_ok-parts.parts.items n d) (λ x. IsRead c.args.program.now.vars c.args.header.now ps x.cases)) chunk.argument_is.value chunk.call);
  all = one_each (length c.args.pieces.now) (length c.in_ok-parts.parts.items) (search rules);
}
