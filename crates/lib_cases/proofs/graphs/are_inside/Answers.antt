use Rattle.std.proofs.Common.{◌<◌, All, List, ℕ, length, subst, arith}
use Rattle.std.proofs.lemmas.List.{take_all}
use Rattle.lib_cases.proofs.Needs.{inside}
use Rattle.lib_cases.proofs.graphs.are_inside.Goals as goal

pub returns : goal.returns
returns c is =
    inside c.args.needs.now
    (subst (All (All (λ (n : ℕ). n < length c.args.needs.now))) (take_all c.loop-list.list-index c.args.needs.now (omega arith)) c.loop-list.invariant)
