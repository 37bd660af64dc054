use Rattle.std.proofs.Common.{◌≡◌, ◌++◌, drop, map}
use Rattle.cif_net.specs.View.{var_tree}
use Rattle.cif_why.specs.Leaving.{unfit}
use Rattle.cif_why.specs.Numbering.{numbered_tree}
use Rattle.cif_why.proofs.leaving.keep_unfit.Given as goal

abbrev pub invariant-loop-assigned : goal.invariant-loop-assigned
invariant-loop-assigned l = l.all ++ unfit (map var_tree l.vars) (map numbered_tree (drop l.assigned-index l.found)) ≡ l.initial.all ++ unfit (map var_tree l.vars) (map numbered_tree l.found)
