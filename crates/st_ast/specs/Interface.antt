-- What a program takes and what it shows: its inputs and outputs, in the order of declaration, and the numbers that a
-- variable of a type holds.
use Rattle.std.specs.Prelude.{ℕ, suc, ◌-◌, ◌^◌, ℤ, pos, negsuc, Bool, IsTrue, true, false, List, [], ◌∷◌, filter, if◌then◌else◌}
use Rattle.std.specs.List.{AllZip}
use Rattle.st_ast.specs.Values.{Memory, is_between}
use Rattle.st_ast.specs.declared.tree.StVar.{StVar}
use Rattle.st_ast.specs.declared.tree.StTy.{StTy}
use Rattle.st_ast.specs.declared.tree.StTy.TheVariants as ty
use Rattle.st_ast.specs.declared.tree.StClass.{StClass}
use Rattle.st_ast.specs.declared.tree.StClass.TheVariants as class

abbrev pub is_input : StClass → Bool
is_input class.Input = true
is_input class.Plain = false
is_input class.Constant = false
is_input class.Output = false

abbrev pub is_output : StClass → Bool
is_output class.Output = true
is_output class.Plain = false
is_output class.Constant = false
is_output class.Input = false

abbrev pub inputs_of : List StVar → List StVar
inputs_of vars = filter (λ (v : StVar). is_input v.class) vars

abbrev pub outputs_of : List StVar → List StVar
outputs_of vars = filter (λ (v : StVar). is_output v.class) vars

-- the numbers of the variables of the classes that are asked for; the first variable has the number k
abbrev pub numbers_of : (StClass → Bool) → ℕ → List StVar → List ℕ
numbers_of asked k [] = []
numbers_of asked k (v ∷ vs) = if asked v.class then k ∷ numbers_of asked (suc k) vs else numbers_of asked (suc k) vs

-- the values of the outputs
abbrev pub output_values : List StVar → Memory → List ℤ
output_values [] m = []
output_values (v ∷ vs) [] = []
output_values (v ∷ vs) (z ∷ m) = if is_output v.class then z ∷ output_values vs m else output_values vs m

-- ---- types

-- the least number of a type, where a BOOL is 0 or 1
abbrev pub lowest : StTy → ℤ
lowest ty.Bool = pos 0
lowest ty.Lint = negsuc (2 ^ 63 - 1)
lowest (ty.Range lo hi) = lo

abbrev pub highest : StTy → ℤ
highest ty.Bool = pos 1
highest ty.Lint = pos (2 ^ 63 - 1)
highest (ty.Range lo hi) = hi

-- whether a number is one of a type
abbrev pub is_of_type : StTy → ℤ → Bool
is_of_type t z = is_between (lowest t) (highest t) z

-- each variable has a number of its type
abbrev pub AreOfTypes : List StVar → List ℤ → Type 0
AreOfTypes vars zs = AllZip (λ (v : StVar) z. IsTrue (is_of_type v.ty z)) vars zs
