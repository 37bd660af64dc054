-- Helper of the code: the statements of a scan as code puts them together: those of the events of each class, one event after the other.
use Rattle.std.specs.Prelude.{ℕ, List, [], ◌∷◌, if◌then◌else◌}
use Rattle.cif_system.specs.System.{Class, con, unc}
use Rattle.cif_system.specs.Step.{same_class}
use Rattle.cif_net_model.specs.Net as n
use Rattle.st_ast.specs.Tree.{Stms, no_stms, append}
use Rattle.plc_model.specs.Frame.{latches_of, loop_of}
use Rattle.plc_frame.specs.Variables.{outputs_of}
use Rattle.plc_frame.specs.Faces.{face_of_net}

-- the first of the bodies, and an empty one where there is none
abbrev pub first_body : List Stms → Stms
first_body [] = no_stms
first_body (b ∷ rest) = b

abbrev pub other_bodies : List Stms → List Stms
other_bodies [] = []
other_bodies (b ∷ rest) = rest

-- the statements of the events of a class, from the bodies of all events
abbrev pub class_bodies : Class → List n.NetEvent → List Stms → Stms
class_bodies k [] bodies = no_stms
class_bodies k (e ∷ es) bodies =
    if same_class k e.class then append (first_body bodies) (class_bodies k es (other_bodies bodies)) else class_bodies k es (other_bodies bodies)

-- the statements of a scan, from the bodies of all events, with these behind the other outputs
abbrev pub scan_text : n.Net → List Stms → Stms → ℕ → ℕ → Stms
scan_text x bodies shown U C =
    append (append (append (append (latches_of (face_of_net x)) (loop_of U (class_bodies unc x.events bodies))) (loop_of C (class_bodies con x.events bodies))) (outputs_of (face_of_net x))) shown
