use Rattle.std.proofs.Common.{◌≡◌}
use Rattle.grammar.specs.Lang.{flat}
use Rattle.cif_parse_expr.proofs.parts.flattened.Given as goal

abbrev pub invariant-loop-list : goal.invariant-loop-list
invariant-loop-list g l = l.all ≡ flat l.yielded
