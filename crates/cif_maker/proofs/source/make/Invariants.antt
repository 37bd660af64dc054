use Rattle.std.proofs.Common.{◌≡◌, ◌*◌}
use Rattle.std.specs.Prelude.{string_bytes}
use Rattle.cif_maker.specs.Draws.{after_draws}
use Rattle.cif_maker.specs.MadeText.{blocks_text}
use Rattle.cif_maker.proofs.source.make.Given as goal

abbrev pub invariant-loop-number : goal.invariant-loop-number
invariant-loop-number l = (l.draws ≡ after_draws (2 * l.number) l.seed) × (string_bytes l.text ≡ blocks_text l.seed l.size l.number)
