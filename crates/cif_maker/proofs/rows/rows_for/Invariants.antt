use Rattle.std.proofs.Common.{◌≡◌, ◌++◌, ◌+◌, ◌*◌, codes}
use Rattle.std.specs.Prelude.{string_bytes, flat_map}
use Rattle.cif_maker.specs.Draws.{after_draws, numbers_below}
use Rattle.cif_maker.specs.MadeText.{input_name, row_text}
use Rattle.cif_maker.proofs.rows.rows_for.Given as goal

abbrev pub invariant-loop-row : goal.invariant-loop-row
invariant-loop-row l = (l.draws ≡ after_draws (2 * l.size + l.row * l.size) l.seed)
    × (string_bytes l.text ≡ (codes "scan" ++ flat_map input_name (numbers_below l.size) ++ codes "\n") ++ flat_map (row_text l.seed l.size) (numbers_below l.row))
