use Rattle.std.proofs.Common.{◌≡◌, drop, map}
use Rattle.cif_net.specs.View.{auto_tree, move_tree}
use Rattle.cif_eval.specs.Writes.{moved}
use Rattle.cif_why.proofs.storing.move_all.Given as goal

abbrev pub invariant-loop-step : goal.invariant-loop-step
invariant-loop-step l = moved (map auto_tree l.autos) (map move_tree (drop l.step-index l.moves)) l.places ≡ moved (map auto_tree l.autos) (map move_tree l.moves) l.initial.places
