-- What the scans of a program come to, for a system and what is shown of it: for every list of rows in range, from the
-- memory of the declarations on. Each promise stands by itself.
use Rattle.std.specs.Prelude.{◌≡◌, ℕ, ℤ, List, [], ◌∷◌, length}
use Rattle.std.specs.List.{AllByRecursion}
use Rattle.cif_system.specs.System.{AllFit, State, System, initial}
use Rattle.cif_system.specs.Scan.{ScanIsLegal, ScanRunsFirstSteps, exact_scan}
use Rattle.st_ast.specs.Tree.{Program}
use Rattle.st_ast.specs.Values.{Memory}
use Rattle.st_ast.specs.Scan.{start_memory, later_memories, scans_of}
use Rattle.plc_model.specs.Face.{Face, HasInterface, StateOf, Shows, AreInTypes}

-- one value per input in each row, each in its range
abbrev pub AreRows : System → List (List ℤ) → Type 0
AreRows sys rows = AllByRecursion (AllFit sys.inputs) rows

-- how a scan changes the state
abbrev pub Change : Type 1
Change = State → List ℤ → State → Type 0

-- Each memory stands for a state to which R leads from the one before and the row. Where the memories end before the rows,
-- as at a fault, nothing more is asked.
abbrev pub Leads : Change → (Memory → State → Type 0) → State → List (List ℤ) → List Memory → Type 0
Leads R Is s [] ms = ms ≡ []
Leads R Is s (row ∷ rows) [] = Unit {0}
Leads R Is s (row ∷ rows) (m ∷ ms) = (t : State) × R s row t × Is m t × Leads R Is t rows ms

-- the memories after each scan, where no scan ended in a fault or out of turns before
abbrev pub memories : Program → List (List ℤ) → List Memory
memories p rows = later_memories p (start_memory p) rows

-- each scan that ends changes the state as R says
abbrev pub EndedScans : Face → System → Program → Change → Type 0
EndedScans face sys p R = (rows : List (List ℤ)) → AreRows sys rows → Leads R (StateOf face sys p) (initial sys) rows (memories p rows)

-- ---- promises

-- it has the inputs and outputs, and its start memory stands for the initial state
abbrev pub IsProgramOf : Face → System → Program → Type 0
IsProgramOf face sys p = HasInterface face p × StateOf face sys p (start_memory p) (initial sys)

-- no scan ends in a fault or out of turns: there is a memory for each row
abbrev pub NeverFaults : System → Program → Type 0
NeverFaults sys p = (rows : List (List ℤ)) → AreRows sys rows → length (memories p rows) ≡ length rows

-- no scan ends in a fault or out of turns, and each changes the state as R says
abbrev pub AllScans : Face → System → Program → Change → Type 0
AllScans face sys p R = NeverFaults sys p × EndedScans face sys p R

-- each scan that ends changes the state by a run of uncontrollable and then of controllable events, each by its first step
abbrev pub RunsFirstSteps : Face → System → Program → Type 0
RunsFirstSteps face sys p = EndedScans face sys p (ScanRunsFirstSteps sys)

-- each scan is legal: a run of uncontrollable events, at least as many as the bound or until none has a step, and then of
-- controllable ones likewise
abbrev pub ScansLegally : ℕ → ℕ → Face → System → Program → Type 0
ScansLegally U C face sys p = AllScans face sys p (λ s row t. ScanIsLegal sys s row t U C)

-- each scan is the exact scan
abbrev pub ScansExactly : ℕ → ℕ → Face → System → Program → Type 0
ScansExactly U C face sys p = AllScans face sys p (λ s row t. t ≡ exact_scan sys s row U C)

-- after each scan that ends the outputs are those of the state
abbrev pub ShowsOutputs : Face → System → Program → Type 0
ShowsOutputs face sys p = (rows : List (List ℤ)) → AreRows sys rows
    → AllByRecursion (λ m. (s : State) × StateOf face sys p m s × Shows sys p m s) (memories p rows)

-- no variable ever leaves its declared type
abbrev pub StaysTyped : System → Program → Type 0
StaysTyped sys p = (rows : List (List ℤ)) → AreRows sys rows → AllByRecursion (AreInTypes p) (scans_of p rows)
