use Rattle.std.proofs.Common.{rules, ◌*◌, length, take, drop, arith, subst, List}
use Rattle.std.specs.Prelude.{slice_index_or}
use Rattle.cif_batch.specs.Parts.{IsPart}
use Rattle.plc_rows.specs.declared.row.Rows.{Rows}
use Rattle.st_ast.specs.View.{view}
use Rattle.cif_batch.proofs.PartLaws.{chunks_cover}
use Rattle.cif_batch.proofs.workers.parts_of.Goals as goal

pub returns : goal.returns
returns g c = record {
  each = λ n d within.
      let chunk = (c.in_ok-parts.ensures.each n d within).1 in
      subst (λ s. IsPart (view c.args.program.now) s (take c.args.size (drop (n * c.args.size) c.args.cases.now)) (slice_index_or c.in_ok-parts.parts.items n d)) (omega arith)
      (subst (λ (cs : List Rows). IsPart (view c.args.program.now) (n * c.args.size) cs (slice_index_or c.in_ok-parts.parts.items n d)) chunk.argument_is.value chunk.call);
  all = chunks_cover (length c.args.cases.now) c.args.size (length c.in_ok-parts.parts.items) c.requires.size (search rules);
}
