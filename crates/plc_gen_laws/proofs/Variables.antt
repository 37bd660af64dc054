-- The variables of the program of a net with these own variables: no two have the same name, each is found by its
-- name, and all have a spelling.
use Rattle.std.proofs.Common.{◌≡◌, ◌≤◌, true, List, [], ◌∷◌, length, refl, sym, arith}
use Rattle.std.specs.List.{AllByRecursion}
use Rattle.std.proofs.lemmas.List.{append-nil}
use Rattle.cif_net_model.specs.Net.{Net}
use Rattle.cif_net_model.specs.Facts.{is_net}
use Rattle.st_ast.specs.Checks.{variables_faults}
use Rattle.st_ast.specs.Spelled.{are_declarations}
use Rattle.st_ast.specs.declared.tree.StVar.{StVar}
use Rattle.st_ast.specs.declared.tree.StClass.{StClass}
use Rattle.st_ast.specs.declared.tree.StClass.TheVariants as class
use Rattle.plc_model.specs.declared.letter.Letter.{Letter}
use Rattle.plc_model.specs.declared.letter.Letter.TheVariants as letter
use Rattle.plc_model.specs.Face.{Face, VariableFace, algs_of, places_of}
use Rattle.plc_frame.specs.Faces.{face_of_net}
use Rattle.plc_frame.specs.Variables.{Block, counter_face, mark_face}
use Rattle.plc_frame.specs.Given.{Section, all_variables, sections_of}
use Rattle.plc_frame.proofs.Declaring.{AllDeclared, AllOf, AllSound, AreBlocks, AreSections, declared-of, section-declared, variables-checked}
use Rattle.plc_frame.proofs.Facts.{Standing, inputs-sound, places-sound, standing, vars-sound}
use Rattle.plc_frame.proofs.Framing.{few-algs, few-inputs, few-places, few-values}
use Rattle.plc_frame.proofs.Spelling.{FaceSpelled, blocks-spelled}
use Rattle.plc_gen_laws.proofs.Faces.{algs-good, all-sound, all-spelled}
use Rattle.plc_gen_laws.proofs.OwnNames.{declared_from}

abbrev block_of : Letter → StClass → List VariableFace → Block
block_of l c xs = record { letter = l; class = c; faces = xs }

module _ (n : Net) (own : List VariableFace) (net : is_net n ≡ true) (few : length own ≤ 2147483646) where
  abbrev face : Face
  face = face_of_net n

  facts : Standing n
  facts = standing n net

  abbrev pub vars_of : List StVar
  vars_of = all_variables (sections_of (face_of_net n) (declared_from 2 own))

  abbrev blocks : List Block
  blocks =
      block_of letter.L class.Plain (places_of face)
      ∷ block_of letter.V class.Plain face.variables
      ∷ block_of letter.H class.Plain face.inputs
      ∷ block_of letter.T class.Plain (mark_face ∷ counter_face ∷ own)
      ∷ block_of letter.I class.Input face.inputs
      ∷ block_of letter.P class.Output (places_of face)
      ∷ block_of letter.Q class.Output face.variables
      ∷ block_of letter.R class.Output (algs_of face)
      ∷ []

  are-blocks : AllSound own → AreBlocks blocks
  are-blocks sound = (
    ((λ e. cc), ((λ e. cc), ((λ e. cc), ((λ e. cc), ((λ e. cc), ((λ e. cc), ((λ e. cc), tt))))))),
    few-places n facts,
    places-sound n facts,
    (
      ((λ e. cc), ((λ e. cc), ((λ e. cc), ((λ e. cc), ((λ e. cc), ((λ e. cc), tt)))))),
      few-values n facts,
      vars-sound n facts,
      (
        ((λ e. cc), ((λ e. cc), ((λ e. cc), ((λ e. cc), ((λ e. cc), tt))))),
        few-inputs n facts,
        inputs-sound n facts,
        (
          ((λ e. cc), ((λ e. cc), ((λ e. cc), ((λ e. cc), tt)))),
          omega (arith, few),
          (record { type = refl; first = refl }, (record { type = refl; first = refl }, sound)),
          (
            ((λ e. cc), ((λ e. cc), ((λ e. cc), tt))),
            few-inputs n facts,
            inputs-sound n facts,
            (
              ((λ e. cc), ((λ e. cc), tt)),
              few-places n facts,
              places-sound n facts,
              (((λ e. cc), tt), few-values n facts, vars-sound n facts, (tt, few-algs n facts, all-sound (algs_of face) (algs-good n.algs), tt)),
            ),
          ),
        ),
      ),
    ),
  )

  -- no two have the same name, and each first value is one of the type
  pub vars-checked : AllSound own → variables_faults [] 0 vars_of ≡ []
  vars-checked sound = variables-checked blocks (are-blocks sound)

  pub vars-spelled : AllByRecursion FaceSpelled (places_of face) → AllByRecursion FaceSpelled face.variables → AllByRecursion FaceSpelled face.inputs → AllByRecursion FaceSpelled own → are_declarations vars_of ≡ true
  vars-spelled places values inputs own_spelled =
      blocks-spelled blocks (places, (values, (inputs, ((record { type = refl; first = refl }, (record { type = refl; first = refl }, own_spelled)), (inputs, (places, (values, (all-spelled (algs_of face) (algs-good n.algs), tt))))))))

  -- ---- each is found by its name

  abbrev sections : List Section
  sections = sections_of (face_of_net n) (declared_from 2 own)

  -- all own variables are of one letter
  pub own-letters : AllOf letter.T class.Plain (declared_from 2 own)
  own-letters = declared-of letter.T class.Plain 2 own

  are-sections : AreSections sections
  are-sections = (
    ((λ e. cc), ((λ e. cc), ((λ e. cc), ((λ e. cc), ((λ e. cc), ((λ e. cc), ((λ e. cc), tt))))))),
    declared-of letter.L class.Plain 0 (places_of face),
    (
      ((λ e. cc), ((λ e. cc), ((λ e. cc), ((λ e. cc), ((λ e. cc), ((λ e. cc), tt)))))),
      declared-of letter.V class.Plain 0 face.variables,
      (
        ((λ e. cc), ((λ e. cc), ((λ e. cc), ((λ e. cc), ((λ e. cc), tt))))),
        declared-of letter.H class.Plain 0 face.inputs,
        (
          ((λ e. cc), ((λ e. cc), ((λ e. cc), ((λ e. cc), tt)))),
          declared-of letter.T class.Plain 0 (mark_face ∷ counter_face ∷ own),
          (
            ((λ e. cc), ((λ e. cc), ((λ e. cc), tt))),
            declared-of letter.I class.Input 0 face.inputs,
            (
              ((λ e. cc), ((λ e. cc), tt)),
              declared-of letter.P class.Output 0 (places_of face),
              (((λ e. cc), tt), declared-of letter.Q class.Output 0 face.variables, (tt, declared-of letter.R class.Output 0 (algs_of face), tt)),
            ),
          ),
        ),
      ),
    ),
  )

  pub values-declared : AllDeclared vars_of letter.V class.Plain 0 face.variables
  values-declared = section-declared sections 1 _ face.variables [] are-sections refl (few-values n facts) (sym (append-nil _))

  pub inputs-declared : AllDeclared vars_of letter.H class.Plain 0 face.inputs
  inputs-declared = section-declared sections 2 _ face.inputs [] are-sections refl (few-inputs n facts) (sym (append-nil _))

  pub own-declared : AllDeclared vars_of letter.T class.Plain 2 own
  own-declared = (section-declared sections 3 _ (mark_face ∷ counter_face ∷ own) [] are-sections refl (omega (arith, few)) (sym (append-nil _))).1.1
