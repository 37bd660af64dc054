use Rattle.std.proofs.Common.{◌≡◌, map}
use Rattle.st_ast.specs.View.{view_term}
use Rattle.st_read.specs.Operands.{term_of}
use Rattle.st_read.proofs.making.terms.Given as goal

abbrev pub invariant-loop-other : goal.invariant-loop-other
invariant-loop-other l = map view_term l.all.items ≡ map term_of l.yielded
