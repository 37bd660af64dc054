use Rattle.std.proofs.Common.{◌≡◌, map, replicate}
use Rattle.cif_net_expr.specs.View.{view}
use Rattle.cif_alg_unfold.specs.Tables.{nothing}
use Rattle.cif_alg_unfold.proofs.defining.none_yet.Given as goal

abbrev pub invariant-loop-number : goal.invariant-loop-number
invariant-loop-number l = map view l.all ≡ replicate l._number nothing
