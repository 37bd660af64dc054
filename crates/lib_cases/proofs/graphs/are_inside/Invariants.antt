use Rattle.std.proofs.Common.{◌<◌, All, length, take}
use Rattle.lib_cases.proofs.graphs.are_inside.Given as goal

abbrev pub invariant-loop-list : goal.invariant-loop-list
invariant-loop-list l = All (All (λ n. n < length l.needs)) (take l.list-index l.needs)
