-- Helper of the code: the first constant expression or bound of a type that breaks the rule on constants, by the values of expressions.
use Rattle.std.specs.Prelude.{ℕ, ℤ, int_lt, Bool, true, false, List, [], ◌∷◌, Option, Some, None}
use Rattle.std.specs.Option.{option_or}
use Rattle.cif_ast.specs.Tree.{Tree}
use Rattle.cif_system.specs.System.{in_range}
use Rattle.cif_source.specs.Source.{TypeTree, bool_type, int_type, range_type, named_type, tree_at}
use Rattle.cif_source.specs.Types.{signed_range}
use Rattle.cif_scope.specs.declared.scopes.Scopes.{Scopes}
use Rattle.cif_inst_constants.specs.Used.{NumberedBody}
use Rattle.cif_types_constancy.specs.Collected.{types_in, values_in}
use Rattle.cif_inst_constants.specs.Named.{table_value}
use Rattle.cif_inst_constants.specs.Outcomes.{evaluated}

abbrev pub fits_32 : ℤ → Bool
fits_32 z = in_range (signed_range 32) z

-- a bound leaves 32 bits, or the lower one is greater
abbrev pub crossed : Bool → Bool → Bool → ℕ → ℕ → Option ℕ
crossed false fits crosses p q = Some p
crossed true false crosses p q = Some q
crossed true true false p q = None
crossed true true true p q = Some p

abbrev pub bounds_fault : Tree → Tree → Option ℤ → Option ℤ → Option ℕ
bounds_fault l u None y = Some (tree_at l)
bounds_fault l u (Some x) None = Some (tree_at u)
bounds_fault l u (Some x) (Some y) = crossed (fits_32 x) (fits_32 y) (int_lt y x) (tree_at l) (tree_at u)

abbrev pub type_fault : (Tree → Option ℤ) → TypeTree → Option ℕ
type_fault value bool_type = None
type_fault value int_type = None
type_fault value (range_type l u) = bounds_fault l u (value l) (value u)
type_fault value (named_type nm) = None

abbrev pub types_fault : (Tree → Option ℤ) → List TypeTree → Option ℕ
types_fault value [] = None
types_fault value (ty ∷ tys) = option_or (type_fault value ty) (types_fault value tys)

abbrev pub missing_value : Tree → Option ℤ → Option ℕ
missing_value e None = Some (tree_at e)
missing_value e (Some z) = None

abbrev pub values_fault : (Tree → Option ℤ) → List (TypeTree × Tree) → Option ℕ
values_fault value [] = None
values_fault value (v ∷ vs) = option_or (missing_value v.1 (value v.1)) (values_fault value vs)

abbrev pub body_fault : Scopes → List (List ℕ) → List ℤ → NumberedBody → Option ℕ
body_fault s ns vs b =
    let value = evaluated (table_value s ns vs b.number) in
    option_or (types_fault value (types_in b.written)) (values_fault value (values_in b.written))
