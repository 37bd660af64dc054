use Rattle.std.proofs.Common.{◌≡◌, ◌++◌, drop, map}
use Rattle.std.specs.List.{AllByRecursion}
use Rattle.cif_net.specs.View.{auto_tree, move_tree, state_tree}
use Rattle.cif_why.specs.Breaking.{moves_assigned}
use Rattle.cif_why.specs.Leaving.{IsSafeMove}
use Rattle.cif_why.specs.Numbering.{numbered_tree}
use Rattle.cif_why.specs.Sent.{sends}
use Rattle.cif_why.proofs.breaking.assigned.Given as goal

abbrev pub invariant-loop-step : goal.invariant-loop-step
invariant-loop-step l = record {
  all : map numbered_tree l.all ++ moves_assigned (map auto_tree l.autos) (state_tree l.state) l.sending.received (map move_tree (drop l.step-index l.moves)) ≡ moves_assigned (map auto_tree l.autos) (state_tree l.state) l.sending.received (map move_tree l.moves);
  safe : AllByRecursion (IsSafeMove (map auto_tree l.autos) (state_tree l.state) (sends l.sending)) (map move_tree (drop l.step-index l.moves));
}
