-- What a program shows of a system of automata: the names, types and first values of its inputs and outputs, the state that
-- a memory stands for, and the outputs (IEC 61131-3, "Variables").
use Rattle.std.specs.Prelude.{◌≡◌, ℕ, ◌-◌, ℤ, pos, Bool, List, ◌++◌, map, length, codes, Some, None, option_map, slice_get, if◌then◌else◌}
use Rattle.std.specs.List.{enumerate_from, AllZip}
use Rattle.grammar.specs.Pieces.{Text}
use Rattle.cif_system.specs.System.{Automaton, IsState, Range, Observation, State, Stored, System, outputs}
use Rattle.st_ast.specs.Tree.{Program}
use Rattle.st_ast.specs.Names.{place_of, declared}
use Rattle.st_ast.specs.Values.{Memory, is_true}
use Rattle.st_ast.specs.Interface.{output_values, inputs_of, outputs_of, lowest, highest, AreOfTypes}
use Rattle.st_ast.specs.declared.tree.StVar.{StVar}
use Rattle.st_ast.specs.declared.tree.StClass.{StClass}
use Rattle.st_ast.specs.declared.tree.StClass.TheVariants as class
use Rattle.st_ast.specs.declared.tree.StTy.{StTy}
use Rattle.st_ast.specs.declared.tree.StTy.TheVariants as ty
use Rattle.st_ast.specs.declared.tree.StLit.{StLit}
use Rattle.st_ast.specs.declared.tree.StLit.TheVariants as lit
use Rattle.plc_model.specs.declared.letter.Letter.{Letter}
use Rattle.plc_model.specs.declared.letter.Letter.TheVariants as letter
use Rattle.plc_model.specs.Names.{name_for}

-- ---- what is shown

-- an input or a discrete variable: its path, its type and its first value, where a BOOL is 0 or 1
pub record VariableFace : Type 0 where
  pub path : Text
  pub ty : StTy
  pub first : ℤ

-- an automaton: its path, how many places it has, and its first place
pub record AutomatonFace : Type 0 where
  pub path : Text
  pub places : ℕ
  pub first : ℕ

-- an algebraic variable: its path, and whether it is Boolean
pub record AlgFace : Type 0 where
  pub path : Text
  pub boolean : Bool

-- what a program shows, each list in the order of the numbers
pub record Face : Type 0 where
  pub automata : List AutomatonFace
  pub variables : List VariableFace
  pub inputs : List VariableFace
  pub algs : List AlgFace

-- the place of an automaton as a variable
abbrev pub place_face : AutomatonFace → VariableFace
place_face a = record { path = a.path; ty = ty.Range (pos 0) (pos (a.places - 1)); first = pos a.first }

-- an algebraic variable starts with FALSE or 0
abbrev pub alg_face : AlgFace → VariableFace
alg_face a = record { path = a.path; ty = if a.boolean then ty.Bool else ty.Lint; first = pos 0 }

abbrev pub places_of : Face → List VariableFace
places_of face = map place_face face.automata

abbrev pub algs_of : Face → List VariableFace
algs_of face = map alg_face face.algs

-- ---- the interface

abbrev pub literal_of : StTy → ℤ → StLit
literal_of ty.Bool z = lit.Bool (is_true z)
literal_of ty.Lint z = lit.Int z
literal_of (ty.Range lo hi) z = lit.Int z

-- the declaration of a variable with a number
abbrev pub declaration : Letter → StClass → ℕ × VariableFace → StVar
declaration l c (k, x) = record { name = name_for l k x.path; class = c; ty = x.ty; init = Some (literal_of x.ty x.first); at = None }

-- these variables, numbered from 0
abbrev pub declarations : Letter → StClass → List VariableFace → List StVar
declarations l c xs = map (declaration l c) (enumerate_from 0 xs)

-- The inputs are the system's, and the outputs show the places, the discrete variables and the algebraic variables, with
-- these names, types and first values, in this order.
pub record HasInterface (face : Face) (p : Program) : Type 0 where
  pub name : p.name ≡ codes "CifScan"
  pub inputs : inputs_of p.vars ≡ declarations letter.I class.Input face.inputs
  pub outputs : outputs_of p.vars
      ≡ declarations letter.P class.Output (places_of face)
      ++ declarations letter.Q class.Output face.variables
      ++ declarations letter.R class.Output (algs_of face)

-- ---- the state that a memory stands for

abbrev pub head_of : StVar → Text × (StClass × StTy)
head_of v = (v.name, (v.class, v.ty))

-- the variable with this name, spelled so, is declared in VAR with this type
abbrev pub IsDeclared : List StVar → Text → StTy → Type 0
IsDeclared vars name t = option_map head_of (declared vars name) ≡ Some (name, (class.Plain, t))

-- the variable of this letter and number is declared with its type, and holds z
pub record HoldsAt (p : Program) (m : Memory) (l : Letter) (x : ℕ × VariableFace) (z : ℤ) : Type 0 where
  pub is_declared : IsDeclared p.vars (name_for l x.0 x.1.path) x.1.ty
  pub holds : slice_get m (place_of p.vars (name_for l x.0 x.1.path)) ≡ Some z

-- these variables, numbered from 0, hold these numbers
abbrev pub Hold : Program → Memory → Letter → List VariableFace → List ℤ → Type 0
Hold p m l xs zs = AllZip (HoldsAt p m l) (enumerate_from 0 xs) zs

-- The memory stands for the state: the numbers of the L variables are its places, those of the V variables its values, those
-- of the H variables its inputs, and it is a state of the system.
pub record StateOf (face : Face) (sys : System) (p : Program) (m : Memory) (s : State) : Type 0 where
  pub places : Hold p m letter.L (places_of face) (map pos s.locs)
  pub values : Hold p m letter.V face.variables s.vals
  pub inputs : Hold p m letter.H face.inputs s.ins
  pub is_state : IsState sys s

-- ---- the outputs

-- places, values, algebraic values
abbrev pub seen_values : Observation → List ℤ
seen_values o = map pos o.places ++ o.values ++ o.algs

-- the outputs of the memory are those of the state, in order
abbrev pub Shows : System → Program → Memory → State → Type 0
Shows sys p m s = output_values p.vars m ≡ seen_values (outputs sys s)

-- ---- types

-- the numbers of a type
abbrev pub range_of : StTy → Range
range_of t = record { lo = lowest t; hi = highest t }

-- each variable holds a number of its type
abbrev pub AreInTypes : Program → Memory → Type 0
AreInTypes p m = AreOfTypes p.vars m

abbrev pub stored_of : VariableFace → Stored
stored_of x = record { range = range_of x.ty; first = x.first }

-- the face is one of the system: it has the same places, ranges and first values, and as many algebraic variables
pub record IsFaceOf (face : Face) (sys : System) : Type 0 where
  pub places : map (λ (a : AutomatonFace). a.places) face.automata ≡ map (λ (a : Automaton). a.places) sys.automata
  pub first_places : map (λ (a : AutomatonFace). a.first) face.automata ≡ map (λ (a : Automaton). a.first) sys.automata
  pub variables : map stored_of face.variables ≡ sys.variables
  pub inputs : map stored_of face.inputs ≡ sys.inputs
  pub algs : length face.algs ≡ length sys.algs
