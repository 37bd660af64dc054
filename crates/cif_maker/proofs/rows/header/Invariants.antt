use Rattle.std.proofs.Common.{◌≡◌, ◌++◌, codes}
use Rattle.std.specs.Prelude.{string_bytes, flat_map}
use Rattle.cif_maker.specs.Draws.{numbers_below}
use Rattle.cif_maker.specs.MadeText.{input_name}
use Rattle.cif_maker.proofs.rows.header.Given as goal

abbrev pub invariant-loop-i : goal.invariant-loop-i
invariant-loop-i l = string_bytes l.text ≡ codes "scan" ++ flat_map input_name (numbers_below l.i-counter)
