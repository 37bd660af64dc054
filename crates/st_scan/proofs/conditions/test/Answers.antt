use Rattle.std.proofs.Common.{ap, sym, ◌∙◌}
use Rattle.std.specs.Prelude.{Ok}
use Rattle.st_scan.specs.PlacedValues.{value_at, decided}
use Rattle.st_check.specs.PlacedView.{test_view, cond_view}
use Rattle.st_scan.proofs.Truths.{decides}
use Rattle.st_scan.proofs.conditions.test.Goals as goal

pub returns-in-Test : goal.returns-in-Test
returns-in-Test c =
    ap Ok c.holds.ensures
    ∙ sym (decides (test_view c.in-Test.test) c.args.memory.now)
    ∙ ap (λ d. decided (value_at (cond_view d) c.args.memory.now)) (sym c.in-Test.is)
