use Rattle.std.proofs.Common.{◌≡◌, map, take}
use Rattle.cif_net.specs.View.{alg_tree}
use Rattle.plc_model.specs.Face.{alg_face}
use Rattle.plc_frame.specs.Faces.{alg_face_of}
use Rattle.plc_frame.specs.Shown.{face_tree}
use Rattle.plc_frame.proofs.faces.shown_algs.Given as goal

abbrev pub invariant-loop-alg : goal.invariant-loop-alg
invariant-loop-alg l = record {
  items : l.alg-items ≡ l.net.algs;
  all : map face_tree l.all ≡ map alg_face (map alg_face_of (map alg_tree (take l.alg-index l.alg-items)));
}
