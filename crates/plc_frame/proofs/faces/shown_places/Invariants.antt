use Rattle.std.proofs.Common.{◌≡◌, map, take}
use Rattle.cif_net.specs.View.{auto_tree}
use Rattle.plc_model.specs.Face.{place_face}
use Rattle.plc_frame.specs.Faces.{auto_face}
use Rattle.plc_frame.specs.Shown.{face_tree}
use Rattle.plc_frame.proofs.faces.shown_places.Given as goal

abbrev pub invariant-loop-auto : goal.invariant-loop-auto
invariant-loop-auto l = record {
  items : l.auto-items ≡ l.net.autos;
  all : map face_tree l.all ≡ map place_face (map auto_face (map auto_tree (take l.auto-index l.auto-items)));
}
