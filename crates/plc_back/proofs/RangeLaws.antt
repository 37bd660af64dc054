-- The inputs of the program of a net have the ranges of those of its system.
use Rattle.std.proofs.Common.{ℕ, ◌+◌, ℤ, List, [], ◌∷◌, map, sym, subst}
use Rattle.std.specs.List.{enumerate_from, AllByRecursion}
use Rattle.cif_system.specs.System.{AllFit, Stored, System}
use Rattle.st_ast.specs.Interface.{inputs_of, AreOfTypes}
use Rattle.st_ast.specs.Tree.{Program}
use Rattle.st_ast.specs.declared.tree.StVar.{StVar}
use Rattle.st_ast.specs.declared.tree.StClass.TheVariants as class
use Rattle.plc_model.specs.declared.letter.Letter.TheVariants as letter
use Rattle.plc_model.specs.Face.{Face, VariableFace, HasInterface, IsFaceOf, declaration, stored_of}
use Rattle.plc_back.specs.Texts.{TakesInRange}

fits : (k : ℕ) (xs : List VariableFace) (row : List ℤ) → AreOfTypes (map (declaration letter.I class.Input) (enumerate_from k xs)) row → AllFit (map stored_of xs) row
fits k [] [] h = tt
fits k [] (z ∷ row) h = absurd h
fits k (x ∷ xs) [] h = absurd h
fits k (x ∷ xs) (z ∷ row) h = (h.0, fits (k + 1) xs row h.1)

all-fit : (vars : List StVar) (vs : List Stored) → ((row : List ℤ) → AreOfTypes vars row → AllFit vs row) → (rows : List (List ℤ)) → AllByRecursion (AreOfTypes vars) rows → AllByRecursion (AllFit vs) rows
all-fit vars vs one [] h = tt
all-fit vars vs one (row ∷ rows) h = (one row h.0, all-fit vars vs one rows h.1)

pub takes : (face : Face) (sys : System) (p : Program) → HasInterface face p → IsFaceOf face sys → TakesInRange sys p
takes face sys p interface is_face =
    all-fit (inputs_of p.vars) sys.inputs
    (λ row h. subst (λ (vs : List Stored). AllFit vs row) is_face.inputs
    (fits 0 face.inputs row (subst (λ (vars : List StVar). AreOfTypes vars row) interface.inputs h)))
