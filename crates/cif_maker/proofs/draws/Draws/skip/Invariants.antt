use Rattle.std.proofs.Common.{◌≡◌}
use Rattle.cif_maker.specs.Draws.{after_draws}
use Rattle.cif_maker.proofs.draws.Draws.skip.Given as goal

abbrev pub invariant-loop-i : goal.invariant-loop-i
invariant-loop-i l = l.self ≡ after_draws l._i l.fn.self
