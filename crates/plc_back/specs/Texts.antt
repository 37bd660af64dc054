-- What is promised of the text of a program.
use Rattle.std.specs.Prelude.{◌≡◌, ℕ, ℤ, List}
use Rattle.std.specs.List.{AllByRecursion}
use Rattle.grammar.specs.Pieces.{Text}
use Rattle.cif_system.specs.System.{System, initial}
use Rattle.st_ast.specs.Interface.{inputs_of, AreOfTypes}
use Rattle.st_ast.specs.Scan.{start_memory}
use Rattle.st_ast.specs.Tree.{Program}
use Rattle.st_ast.specs.ReadsAs.{ReadsAsProgram}
use Rattle.st_print.specs.Layout.{printed}
use Rattle.plc_model.specs.Face.{Face, HasInterface, StateOf}
use Rattle.plc_model.specs.Scans.{AreRows, NeverFaults, RunsFirstSteps, ScansLegally, ScansExactly, ShowsOutputs, StaysTyped}

-- the text reads as one program and no other, and that is so
abbrev pub TheProgram : Text → (Program → Type 0) → Type 0
TheProgram text P = (p : Program) × ReadsAsProgram text p × P p × ((q : Program) → ReadsAsProgram text q → q ≡ p)

-- the text is the layout of the program, to the byte
abbrev pub IsLayoutOf : Text → Program → Type 0
IsLayoutOf text p = text ≡ printed p

-- rows of which each value is of the type of its input are in range for the system
abbrev pub TakesInRange : System → Program → Type 0
TakesInRange sys p = (rows : List (List ℤ)) → AllByRecursion (AreOfTypes (inputs_of p.vars)) rows → AreRows sys rows

-- the program of this text makes the scans of the system, with these most rounds of each class in a scan, and shows them by the face
pub record Makes (U C : ℕ) (face : Face) (sys : System) (text : Text) (p : Program) : Type 0 where
  -- it has the inputs and outputs
  pub interface : HasInterface face p
  -- the memory of its declarations stands for the initial state
  pub starts : StateOf face sys p (start_memory p) (initial sys)
  -- each scan that ends is a run of first steps of uncontrollable events and then of controllable ones
  pub first_steps : RunsFirstSteps face sys p
  -- no scan ends in a fault or out of turns
  pub never_faults : NeverFaults sys p
  -- each scan is legal
  pub legal : ScansLegally U C face sys p
  -- each scan is the exact scan
  pub exact : ScansExactly U C face sys p
  -- after each scan the outputs are those of the state
  pub outputs : ShowsOutputs face sys p
  -- no variable leaves its type
  pub types : StaysTyped sys p
  -- rows whose values are of the types of its inputs are in range for the system
  pub rows_in_range : TakesInRange sys p
  -- the text is its layout, to the byte
  pub layout : IsLayoutOf text p
