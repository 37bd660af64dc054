-- Helper of the code: what the variables of a program are, as the code has them.
use Rattle.std.specs.Prelude.{◌≡◌, ◌<◌, ◌^◌, List, ◌++◌, map, length}
use Rattle.cif_net_model.specs.Net.{Net}
use Rattle.st_ast.specs.declared.tree.StVar.{StVar}
use Rattle.st_ast.specs.declared.tree.StClass.TheVariants as class
use Rattle.plc_model.specs.declared.letter.Letter.TheVariants as letter
use Rattle.plc_model.specs.Face.{VariableFace, algs_of, declarations, places_of}
use Rattle.plc_frame.specs.declared.faces.Faces.{Faces}
use Rattle.plc_frame.specs.declared.faces.Shown.{Shown}
use Rattle.plc_frame.specs.Variables.{mark_and_counter}
use Rattle.plc_frame.specs.Faces.{face_of_net}

abbrev pub face_tree : Shown → VariableFace
face_tree x = record { path = x.path; ty = x.ty; first = x.first }

-- what the program shows of the net
pub record AreFaces (n : Net) (f : Faces) : Type 0 where
  pub places : map face_tree f.places ≡ places_of (face_of_net n)
  pub variables : map face_tree f.variables ≡ (face_of_net n).variables
  pub inputs : map face_tree f.inputs ≡ (face_of_net n).inputs
  pub algs : map face_tree f.algs ≡ algs_of (face_of_net n)
  pub few_places : length f.places < 2 ^ 32
  pub few_variables : length f.variables < 2 ^ 32
  pub few_inputs : length f.inputs < 2 ^ 32
  pub few_algs : length f.algs < 2 ^ 32

-- the variables of a program, with these of its own
abbrev pub declared_by : (own : List StVar) (places variables inputs algs : List VariableFace) → List StVar
declared_by own places variables inputs algs =
    declarations letter.L class.Plain places
    ++ declarations letter.V class.Plain variables
    ++ declarations letter.H class.Plain inputs
    ++ declarations letter.T class.Plain mark_and_counter
    ++ own
    ++ declarations letter.I class.Input inputs
    ++ declarations letter.P class.Output places
    ++ declarations letter.Q class.Output variables
    ++ declarations letter.R class.Output algs

abbrev pub declared_for : Faces → List StVar → List StVar
declared_for f own = declared_by own (map face_tree f.places) (map face_tree f.variables) (map face_tree f.inputs) (map face_tree f.algs)
