use Rattle.std.proofs.Common.{◌≡◌, drop, map}
use Rattle.cif_net.specs.View.{var_tree}
use Rattle.cif_why.specs.Breaking.{all_stored}
use Rattle.cif_why.specs.Numbering.{numbered_tree}
use Rattle.cif_why.proofs.breaking.all_stored.Given as goal

abbrev pub invariant-loop-one : goal.invariant-loop-one
invariant-loop-one l = all_stored (map var_tree l.vars) (map numbered_tree (drop l.one-index l.assigned)) ≡ all_stored (map var_tree l.vars) (map numbered_tree l.assigned)
