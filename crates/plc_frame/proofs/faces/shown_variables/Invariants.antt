use Rattle.std.proofs.Common.{◌≡◌, map, take}
use Rattle.cif_net.specs.View.{var_tree}
use Rattle.plc_frame.specs.Faces.{stored_face}
use Rattle.plc_frame.specs.Shown.{face_tree}
use Rattle.plc_frame.proofs.faces.shown_variables.Given as goal

abbrev pub invariant-loop-var : goal.invariant-loop-var
invariant-loop-var l = record {
  items : l.var-items ≡ l.net.vars;
  all : map face_tree l.all ≡ map stored_face (map var_tree (take l.var-index l.var-items));
}
