use Rattle.std.proofs.Common.{◌≡◌, take}
use Rattle.cif_net.proofs.defining.copied.Given as goal

abbrev pub invariant-loop-expr : goal.invariant-loop-expr
invariant-loop-expr l = l.copies ≡ take l.expr-index l.all
