use Rattle.std.proofs.Common.{◌<◌, All, List, ℕ, subst, arith}
use Rattle.std.proofs.lemmas.List.{take_all}
use Rattle.std.proofs.lemmas.List.Elements.{All-more}
use Rattle.lib_cases.proofs.graphs.are_below.Goals as goal

pub loop-number-preserved : goal.loop-number-preserved
loop-number-preserved c =
    All-more (λ n. n < c.args.count) c.args.numbers.now c.loop-number.number-index 0 c.loop-number-test.true c.loop-number.invariant (omega arith)

pub returns : goal.returns
returns c is =
    subst (All (λ (n : ℕ). n < c.args.count)) (take_all c.loop-number.number-index c.args.numbers.now (omega arith)) c.loop-number.invariant
