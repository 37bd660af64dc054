use Rattle.std.proofs.Common.{◌≡◌, ◌∙◌, List, map, length, ap}
use Rattle.cif_source.specs.Source.{Source, source_of}
use Rattle.cif_scope.specs.Written.{body_of_written, written_bodies}
use Rattle.cif_scope.specs.declared.written.Written.{Written}
use Rattle.cif_inst_numbers.specs.declared.counts.Counts.{Counts}
use Rattle.cif_inst_numbers.specs.Counting.{all_counts, before, firsts_to}
use Rattle.cif_inst_numbers.proofs.NumberLaws.{numbers-are}
use Rattle.cif_inst_numbers.proofs.numbers.number_objects.Goals as goal

pub returns : goal.returns
returns c =
    let t : Source = source_of c.args.spec.now in
    let written : map body_of_written c.as_slice.result.now ≡ written_bodies t = ap (λ (ws : List Written). map body_of_written ws) c.as_slice.ensures.value ∙ c.in_ok-written.ensures in
    let bodies : c.as_slice-2.result.now ≡ all_counts c.args.scopes.now (written_bodies t) = c.as_slice-2.ensures ∙ c.in_ok-bodies.ensures.counts ∙ ap (all_counts c.args.scopes.now) written in
    numbers-are t c.args.scopes.now c.requires.scopes c.args.components.now c.requires.components
    (record { ranks = c.in_ok-bodies.bodies.ranks; firsts = c.in_ok-firsts.field-0.firsts; total = c.in_ok-firsts.field-0.total })
    c.in_ok-bodies.ensures.ranks
    (c.in_ok-firsts.ensures.firsts ∙ ap (λ (b : List Counts). firsts_to b c.args.components.now.all (length c.args.components.now.all)) bodies)
    (c.in_ok-firsts.ensures.total ∙ ap (λ (b : List Counts). before b c.args.components.now.all (length c.args.components.now.all)) bodies)
    c.in_ok-firsts.ensures.few
