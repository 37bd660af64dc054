use Rattle.std.proofs.Common.{◌≡◌, ◌++◌}
use Rattle.std.specs.Prelude.{string_bytes, flat_map, decimal, ◌%◌}
use Rattle.cif_maker.specs.Draws.{after_draws, draw, numbers_below}
use Rattle.cif_maker.specs.MadeText.{truth_text}
use Rattle.cif_maker.proofs.rows.put_row.Given as goal

abbrev pub invariant-loop-i : goal.invariant-loop-i
invariant-loop-i l = (l.draws ≡ after_draws l._i l.fn.draws)
    × (string_bytes l.text ≡ (string_bytes l.fn.text ++ decimal l.fn.number) ++ flat_map (λ i. truth_text (draw l.fn.draws i % 2)) (numbers_below l._i))
