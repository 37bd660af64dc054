use Rattle.std.proofs.Common.{◌∙◌, ◌+◌, ap, length, map}
use Rattle.cif_source.specs.Source.{source_of}
use Rattle.cif_scope.specs.Written.{body_of_written}
use Rattle.cif_inst_constants.specs.Turns.{declaration_count, counted_to}
use Rattle.cif_inst_constants.proofs.DeclarationLaws.{declarations-counted}
use Rattle.cif_inst_constants.proofs.turning.turns.Goals as goal

pub returns : goal.returns
returns c =
    ap (λ n. n + 1)
    (c.in_ok-all.ensures
    ∙ ap (λ counts. counted_to counts c.args.components.now.all (length c.args.components.now.all)) (c.as_slice-2.ensures ∙ c.in_ok-counts.ensures ∙ ap (λ l. map declaration_count (map body_of_written l)) c.as_slice.ensures.value ∙ ap (map declaration_count) c.in_ok-written.ensures)
    ∙ declarations-counted (source_of c.args.spec.now) c.args.components.now c.requires)
