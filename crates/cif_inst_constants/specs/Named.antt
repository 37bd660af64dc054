-- The values of names, from the values of constants by their numbers.
use Rattle.std.specs.Prelude.{ℕ, zero, suc, ℤ, pos, true, List, Option, Some, None, slice_get}
use Rattle.cif_ast.specs.declared.names.Name.{Name}
use Rattle.cif_scope.specs.declared.scope.What.{What}
use Rattle.cif_scope.specs.declared.scope.What.TheVariants as what
use Rattle.cif_scope.specs.declared.looked.Looked.{Looked}
use Rattle.cif_scope.specs.declared.looked.Looked.TheVariants.{At, Missing, Blocked}
use Rattle.cif_scope.specs.declared.scopes.Scopes.{Scopes}
use Rattle.cif_scope.specs.Looks.{what_at, look}
use Rattle.cif_inst_constants.specs.Numbers.{sort_unit, number_at}
use Rattle.cif_inst_constants.specs.declared.names.NameValues.{NameValues}

abbrev pub or_zero : Option ℤ → ℤ
or_zero None = pos 0
or_zero (Some z) = z

-- the value of a number, and 0 past the end
abbrev pub value_at : List ℤ → ℕ → ℤ
value_at vs m = or_zero (slice_get vs m)

abbrev pub value_if : ℕ → ℤ → ℤ
value_if zero z = pos 0
value_if (suc n) z = z

-- of what a name is: a constant has the value of its number m, a literal is its place, and anything else is 0
abbrev pub what_value : List ℤ → ℕ → Option What → ℤ
what_value vs m None = pos 0
what_value vs m (Some (what.Declared s)) = value_if (sort_unit s) (value_at vs m)
what_value vs m (Some (what.Literal k)) = pos k
what_value vs m (Some (what.Location k)) = pos 0
what_value vs m (Some (what.Component k)) = pos 0
what_value vs m (Some (what.Definition k n)) = pos 0
what_value vs m (Some (what.Instance k)) = pos 0
what_value vs m (Some (what.Parameter p)) = pos 0

abbrev pub looked_value : Scopes → List (List ℕ) → List ℤ → Looked → ℤ
looked_value s numbers vs (At k j) = what_value vs (number_at numbers k j) (what_at s.table k j)
looked_value s numbers vs Missing = pos 0
looked_value s numbers vs Blocked = pos 0

-- of what a name in body k finds
abbrev pub table_value : Scopes → List (List ℕ) → List ℤ → ℕ → Name → ℤ
table_value s numbers vs k nm = looked_value s numbers vs (look s.table s.definitions true k nm)

abbrev pub name_value : NameValues → Name → ℤ
name_value v = table_value v.scopes.now v.numbers.now v.values.now v.body
