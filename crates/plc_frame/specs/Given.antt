-- The program round statements that a caller gives for the events, and what is asked of them.
use Rattle.std.specs.Prelude.{◌≡◌, ◌≤◌, ℕ, ℤ, true, List, [], ◌∷◌, ◌++◌, map, flat_map, length, codes, Some, slice_get}
use Rattle.std.specs.List.{AllByRecursion, AllZip, enumerate_from}
use Rattle.grammar.specs.Pieces.{Text}
use Rattle.cif_system.specs.System.{State, outputs}
use Rattle.cif_net_model.specs.Net.{Net}
use Rattle.cif_net_model.specs.Meaning.{system_of_net}
use Rattle.cif_net_model.specs.Rules.{is_plain}
use Rattle.st_ast.specs.Checks.{check_faults}
use Rattle.st_ast.specs.Spelled.{is_spelled}
use Rattle.st_ast.specs.Names.{place_of}
use Rattle.st_ast.specs.Values.{Memory}
use Rattle.st_ast.specs.Exec.{Ended, exec}
use Rattle.st_ast.specs.Tree.{Stms, append, Program}
use Rattle.st_ast.specs.View.{view_stmts}
use Rattle.st_ast.specs.declared.tree.StVar.{StVar}
use Rattle.st_ast.specs.declared.tree.StClass.{StClass}
use Rattle.st_ast.specs.declared.tree.StClass.TheVariants as class
use Rattle.plc_model.specs.declared.letter.Letter.{Letter}
use Rattle.plc_model.specs.declared.letter.Letter.TheVariants as letter
use Rattle.plc_model.specs.Names.{name_for}
use Rattle.plc_model.specs.Face.{AreInTypes, Face, VariableFace, declarations, places_of, algs_of}
use Rattle.plc_model.specs.Frame.{HasClass, Part, Stands, TriesEvent, framed, part_of}
use Rattle.plc_frame.specs.declared.given.Part.{Part as GivenPart}
use Rattle.plc_frame.specs.Variables.{mark_and_counter, outputs_of}
use Rattle.plc_frame.specs.Faces.{face_of_net}

-- ---- what is given

-- for an event, or for the algebraic variables that are shown: the variables of its own, and its statements
pub record EventPart : Type 0 where
  pub own : List StVar
  pub body : Stms

abbrev pub part_tree : GivenPart → EventPart
part_tree x = record { own = x.own; body = view_stmts x.body }

abbrev pub body_of : EventPart → Stms
body_of x = x.body

-- as the frame has it, with the names of the variables
abbrev pub asked : EventPart → Part
asked x = record { own = map (λ (v : StVar). v.name) x.own; body = x.body }

abbrev pub own_variables : List EventPart → List StVar
own_variables parts = flat_map (λ (x : EventPart). x.own) parts

-- ---- variables

-- the variables of one letter
pub record Section : Type 0 where
  pub letter : Letter
  pub class : StClass
  pub variables : List StVar

abbrev pub section : Letter → StClass → List VariableFace → Section
section l c xs = record { letter = l; class = c; variables = declarations l c xs }

-- the generator's own are the mark, the counter, and those that are given
abbrev pub sections_of : Face → List StVar → List Section
sections_of face own =
    section letter.L class.Plain (places_of face)
    ∷ section letter.V class.Plain face.variables
    ∷ section letter.H class.Plain face.inputs
    ∷ record { letter = letter.T; class = class.Plain; variables = declarations letter.T class.Plain mark_and_counter ++ own }
    ∷ section letter.I class.Input face.inputs
    ∷ section letter.P class.Output (places_of face)
    ∷ section letter.Q class.Output face.variables
    ∷ section letter.R class.Output (algs_of face)
    ∷ []

abbrev pub all_variables : List Section → List StVar
all_variables ss = flat_map (λ (s : Section). s.variables) ss

-- ---- the program

-- with these variables of its own, and these statements behind the other outputs
abbrev pub program_with : Net → List StVar → List Part → Stms → ℕ → ℕ → Program
program_with n own parts shown U C =
    let face = face_of_net n in
    record {
      name = codes "CifScan";
      vars = all_variables (sections_of face own);
      body = framed face (system_of_net n) parts U C (append (outputs_of face) shown);
    }

-- the parts of the events, and the one that shows the algebraic variables
abbrev pub framed_program : Net → List EventPart → EventPart → ℕ → ℕ → Program
framed_program n parts shown U C = program_with n (own_variables parts ++ shown.own) (map asked parts) shown.body U C

-- ---- what is asked

-- A variable of a part, beside the mark and the counter, which have the numbers 0 and 1.
pub record IsOwnVariable (v : StVar) : Type 0 where
  pub number : ℕ
  pub path : Text
  pub from : 2 ≤ number
  pub to : number ≤ 2147483647
  pub name : v.name ≡ name_for letter.T number path
  pub is_plain : v.class ≡ class.Plain

-- no variable has changed but those of the letters R and T
abbrev pub KeepsOthers : Program → Memory → Memory → Type 0
KeepsOthers p m after = (l : Letter) → (l ≡ letter.R → ⊥) → (l ≡ letter.T → ⊥) → (k : ℕ) (path : Text)
    → slice_get after (place_of p.vars (name_for l k path)) ≡ slice_get m (place_of p.vars (name_for l k path))

-- the R variables of these, numbered from k, hold these numbers
abbrev pub AlgsHold : Program → Memory → ℕ → List VariableFace → List ℤ → Type 0
AlgsHold p m k xs zs = AllZip (λ (x : ℕ × VariableFace) z. slice_get m (place_of p.vars (name_for letter.R x.0 x.1.path)) ≡ Some z) (enumerate_from k xs) zs

-- The statements that show the algebraic variables, from any memory that stands for a state: they end without a fault and
-- without a turn, keep all types, and write variables of the letters R and T alone. Each R variable then holds the value of
-- its algebraic variable in the state.
abbrev pub ShowsAlgs : Net → Program → Stms → Type 0
ShowsAlgs n p body = (k : ℕ) (m : Memory) (s : State) → Stands (face_of_net n) (system_of_net n) p m s
    → (after : Memory) × (exec p.vars body k m ≡ Ended k after) × AreInTypes p after × KeepsOthers p m after
    × AlgsHold p after 0 (algs_of (face_of_net n)) (outputs (system_of_net n) s).algs

-- The net is plain, so its state invariants read no input and hold in the initial state. There is one part for each event, and one
-- for the algebraic variables. The program so built has a spelling and breaks no check, so that no two variables have the same
-- name. The statements of each event of one of the two classes try it, and those for the algebraic variables show them.
pub record FrameFits (n : Net) (U C : ℕ) (parts : List EventPart) (shown : EventPart) : Type 0 where
  pub plain : is_plain n ≡ true
  pub one_each : length parts ≡ length n.events
  pub own : AllByRecursion IsOwnVariable (own_variables parts ++ shown.own)
  pub spelled : is_spelled (framed_program n parts shown U C) ≡ true
  pub checked : check_faults (framed_program n parts shown U C) ≡ []
  pub events : (e : ℕ) → HasClass (system_of_net n) e
      → TriesEvent (face_of_net n) (system_of_net n) (framed_program n parts shown U C) (part_of (map asked parts) e) e
  pub shows : ShowsAlgs n (framed_program n parts shown U C) shown.body
