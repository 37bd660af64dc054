-- Helper of the code: the own variables of an event, and the names of its new values.
use Rattle.std.specs.Prelude.{◌≡◌, ℕ, ◌+◌, Bool, true, List, [], ◌∷◌, ◌++◌, length, map, flat_map, Some, slice_get, if◌then◌else◌}
use Rattle.std.specs.List.{enumerate_from}
use Rattle.cif_net_model.specs.Facts.{has}
use Rattle.cif_net_model.specs.Listing.{NetChoice}
use Rattle.cif_net_model.specs.Net.{Net}
use Rattle.st_ast.specs.declared.tree.StVar.{StVar}
use Rattle.st_ast.specs.declared.tree.StClass.TheVariants as class
use Rattle.plc_model.specs.declared.letter.Letter.TheVariants as letter
use Rattle.plc_model.specs.Face.{VariableFace, declaration}
use Rattle.plc_model.specs.Names.{name_for}
use Rattle.plc_frame.specs.Events.{done_face}
use Rattle.plc_event_model.specs.Own.{choice_types, event_vars, faces_sent, if_face, new_face, place_in, range_face, tests_range}
use Rattle.plc_event_model.specs.Sends.{event_type}
use Rattle.plc_event_model.specs.Parts.{needs_done}
use Rattle.plc_event.specs.Writers.{new_names_of}
use Rattle.plc_gen.specs.declared.faces.NewFace.{NewFace}
use Rattle.plc_gen.specs.declared.faces.Outline.{Outline}
use Rattle.plc_event.specs.declared.writing.NewTexts.{NewTexts}

-- what decides which own variables an event with these choices has
pub record IsOutline (n : Net) (cs : List NetChoice) (x : Outline) : Type 0 where
  pub has_mark : x.has_mark ≡ needs_done n cs
  pub tests : x.tests_range ≡ tests_range n cs
  pub vars : x.vars ≡ event_vars cs
  pub sent : x.sent ≡ event_type n cs
  pub types : x.types ≡ flat_map (choice_types n) cs

-- ---- declarations

abbrev pub face_tree : NewFace → VariableFace
face_tree x = record { path = x.path; ty = x.ty; first = x.first }

-- these variables, numbered from j
abbrev pub declared_from : ℕ → List VariableFace → List StVar
declared_from j xs = map (declaration letter.T class.Plain) (enumerate_from j xs)

abbrev pub done_if : Bool → List VariableFace
done_if b = if b then done_face ∷ [] else []

abbrev pub range_if : Bool → List VariableFace
range_if b = if b then range_face ∷ [] else []

abbrev pub outlined_faces : Net → Outline → List VariableFace
outlined_faces n x = done_if x.has_mark ++ (range_if x.tests_range ++ (map (new_face n) x.vars ++ (faces_sent x.sent ++ map if_face x.types)))

-- the number of the first new value, that of what is sent, and that of the first `if`
abbrev pub outlined_new : ℕ → Outline → ℕ
outlined_new first x = first + length (done_if x.has_mark) + length (range_if x.tests_range)

abbrev pub outlined_sent : ℕ → Outline → ℕ
outlined_sent first x = outlined_new first x + length x.vars

abbrev pub outlined_ifs : ℕ → Outline → ℕ
outlined_ifs first x = outlined_sent first x + length (faces_sent x.sent)

-- ---- names of new values

-- no number occurs twice
abbrev pub StandOnce : List ℕ → Type 0
StandOnce vs = (i v : ℕ) → slice_get vs i ≡ Some v → place_in vs v ≡ i

-- the new values of these variables are numbered from k
abbrev pub NamesNew : Net → ℕ → List ℕ → NewTexts → Type 0
NamesNew n k vs x = (v : ℕ) → has vs v ≡ true → (new_names_of x).next v ≡ name_for letter.T (k + place_in vs v) (new_face n v).path
