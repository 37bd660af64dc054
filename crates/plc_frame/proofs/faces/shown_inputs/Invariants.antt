use Rattle.std.proofs.Common.{◌≡◌, map, take}
use Rattle.cif_net.specs.View.{input_tree}
use Rattle.plc_frame.specs.Faces.{stored_face}
use Rattle.plc_frame.specs.Shown.{face_tree}
use Rattle.plc_frame.proofs.faces.shown_inputs.Given as goal

abbrev pub invariant-loop-input : goal.invariant-loop-input
invariant-loop-input l = record {
  items : l.input-items ≡ l.net.inputs;
  all : map face_tree l.all ≡ map stored_face (map input_tree (take l.input-index l.input-items));
}
