use Rattle.std.proofs.Common.{◌≡◌, ◌++◌, drop}
use Rattle.cif_scope.specs.Drafts.{literal_names}
use Rattle.cif_scope.proofs.drafting.add_literals.Given as goal

abbrev pub invariant-loop-place : goal.invariant-loop-place
invariant-loop-place l = l.names ++ literal_names l.place (drop l.place l.literals) ≡ l.fn.names ++ literal_names 0 l.literals
