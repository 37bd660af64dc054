use Rattle.std.proofs.Common.{◌≡◌, ◌++◌, drop, map}
use Rattle.cif_why_model.specs.Reasons.{breaks}
use Rattle.cif_why.specs.Lists.{each_from}
use Rattle.cif_why.specs.View.{reason_tree}
use Rattle.cif_why.proofs.breaking.add_broken.Given as goal

abbrev pub invariant-loop-number : goal.invariant-loop-number
invariant-loop-number l = map reason_tree l.all ++ each_from breaks (λ k b. b) l.number (drop l.number l.marks) ≡ map reason_tree l.initial.all ++ each_from breaks (λ k b. b) 0 l.marks
