-- The variables of a program in blocks, one for each letter, the generator's own, and the statements by which variables take
-- over others.
use Rattle.std.specs.Prelude.{ℕ, pos, List, [], ◌∷◌, ◌++◌, map, flat_map, codes}
use Rattle.std.specs.List.{enumerate_from}
use Rattle.st_ast.specs.Tree.{named, Stm, assign, Stms, stms_of}
use Rattle.st_ast.specs.declared.tree.StVar.{StVar}
use Rattle.st_ast.specs.declared.tree.StClass.{StClass}
use Rattle.st_ast.specs.declared.tree.StTy.TheVariants as ty
use Rattle.plc_model.specs.declared.letter.Letter.{Letter}
use Rattle.plc_model.specs.declared.letter.Letter.TheVariants as letter
use Rattle.plc_model.specs.Names.{name_for}
use Rattle.plc_model.specs.Face.{Face, VariableFace, declarations, places_of}

-- ---- variables

abbrev pub mark_face : VariableFace
mark_face = record { path = codes "fired"; ty = ty.Bool; first = pos 0 }

abbrev pub counter_face : VariableFace
counter_face = record { path = codes "rounds"; ty = ty.Lint; first = pos 0 }

abbrev pub mark_and_counter : List VariableFace
mark_and_counter = mark_face ∷ counter_face ∷ []

-- variables of one letter
pub record Block : Type 0 where
  pub letter : Letter
  pub class : StClass
  pub faces : List VariableFace

abbrev pub block_variables : Block → List StVar
block_variables b = declarations b.letter b.class b.faces

abbrev pub variables_of : List Block → List StVar
variables_of bs = flat_map block_variables bs

-- ---- outputs

-- a variable of the first letter takes over the one of the second
abbrev pub shown_by : Letter → Letter → ℕ × VariableFace → Stm
shown_by to from (k, x) = assign (name_for to k x.path) (named (name_for from k x.path))

abbrev pub all_shown_by : Letter → Letter → List VariableFace → List Stm
all_shown_by to from xs = map (shown_by to from) (enumerate_from 0 xs)

-- the places and the values, to which the algebraic variables are added
abbrev pub outputs_of : Face → Stms
outputs_of face = stms_of (all_shown_by letter.P letter.L (places_of face) ++ all_shown_by letter.Q letter.V face.variables)
