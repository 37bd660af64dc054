-- What is promised of the program of a net.
use Rattle.std.specs.Prelude.{◌≡◌, ℕ, []}
use Rattle.cif_system.specs.System.{initial}
use Rattle.cif_net_model.specs.Net.{Net}
use Rattle.cif_net_model.specs.Meaning.{system_of_net}
use Rattle.st_ast.specs.Tree.{Program}
use Rattle.st_ast.specs.Scan.{start_memory}
use Rattle.st_ast.specs.Checks.{check_faults}
use Rattle.plc_model.specs.Face.{HasInterface, StateOf}
use Rattle.plc_model.specs.Scans.{ScansExactly, ShowsOutputs, StaysTyped}
use Rattle.plc_frame.specs.Faces.{face_of_net}

-- It breaks no check, has the net's inputs and outputs, and starts in the initial state. Each scan ends and is the exact
-- scan, the outputs after it are those of the state, and no variable leaves its type.
pub record Makes (n : Net) (U C : ℕ) (p : Program) : Type 0 where
  pub checked : check_faults p ≡ []
  pub interface : HasInterface (face_of_net n) p
  pub starts : StateOf (face_of_net n) (system_of_net n) p (start_memory p) (initial (system_of_net n))
  pub exact : ScansExactly U C (face_of_net n) (system_of_net n) p
  pub shown : ShowsOutputs (face_of_net n) (system_of_net n) p
  pub typed : StaysTyped (system_of_net n) p
