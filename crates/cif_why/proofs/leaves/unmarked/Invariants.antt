use Rattle.std.proofs.Common.{◌≡◌, ◌++◌, drop, map}
use Rattle.cif_net.specs.View.{auto_tree}
use Rattle.cif_why.specs.Marks.{unmarked}
use Rattle.cif_why.proofs.leaves.unmarked.Given as goal

abbrev pub invariant-loop-auto : goal.invariant-loop-auto
invariant-loop-auto l = l.all ++ unmarked (map auto_tree (drop l.auto-index l.autos)) ≡ unmarked (map auto_tree l.autos)
