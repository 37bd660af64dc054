-- Names, which are compared ignoring the case of ASCII letters, and the variables that they name.
use Rattle.std.specs.Prelude.{ℕ, suc, Bool, List, [], ◌∷◌, Option, slice_get, if◌then◌else◌}
use Rattle.std.specs.Str.{str_eq_ignore_ascii_case}
use Rattle.grammar.specs.Pieces.{Text}
use Rattle.st_ast.specs.declared.tree.StVar.{StVar}

abbrev pub same_name : Text → Text → Bool
same_name = str_eq_ignore_ascii_case

-- the place of the variable with a name among the declared ones, and their number where none has it
abbrev pub place_of : List StVar → Text → ℕ
place_of [] name = 0
place_of (v ∷ vs) name = if same_name v.name name then 0 else suc (place_of vs name)

-- the declaration of a name
abbrev pub declared : List StVar → Text → Option StVar
declared vars name = slice_get vars (place_of vars name)
