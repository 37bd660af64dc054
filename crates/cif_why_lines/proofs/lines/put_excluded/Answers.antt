use Rattle.std.proofs.Common.{◌++◌, ap, ◌∙◌, append_assoc}
use Rattle.std.specs.Prelude.{codes}
use Rattle.grammar.specs.Pieces.{Text}
use Rattle.cif_why_lines.specs.Lines.{place_shown}
use Rattle.cif_why_lines.proofs.LineLaws.{exclusion-shown}
use Rattle.cif_why_lines.proofs.lines.put_excluded.Goals as goal

pub returns : goal.returns
returns c =
    let place = place_shown c.exclusion_place-place.result in
    c.in_ok-put_if_some.ensures
    ∙ ap (λ (t : Text). t ++ place) c.in_ok-put_words.ensures
    ∙ append_assoc c.args.into.now.items (codes "excluded ") place
    ∙ ap (λ (t : Text). c.args.into.now.items ++ (codes "excluded " ++ t)) (exclusion-shown c.args.net.now.exclusions c.as_slice.result.now c.args.exclusion c.exclusion_place-place.result c.as_slice.ensures c.exclusion_place-place.ensures)
