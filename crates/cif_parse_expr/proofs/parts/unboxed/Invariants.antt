use Rattle.std.proofs.Common.{◌≡◌}
use Rattle.cif_parse_expr.proofs.parts.unboxed.Given as goal

abbrev pub invariant-loop-each : goal.invariant-loop-each
invariant-loop-each g l = l.all ≡ l.yielded
