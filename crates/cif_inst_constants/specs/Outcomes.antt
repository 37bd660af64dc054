-- What the evaluation of constant expressions comes to.
use Rattle.std.specs.Prelude.{ℤ, pos, Bool, true, false, Option, Some, None}
use Rattle.cif_ast.specs.Tree.{Tree}
use Rattle.cif_ast.specs.declared.names.Name.{Name}
use Rattle.cif_source.specs.Components.{Component}
use Rattle.cif_source.specs.Value.{value_with, constant}
use Rattle.cif_source.specs.InstanceRules.{is_faulty}

-- none where it is faulty
abbrev pub unless_faulty : {A : Type 0} → Bool → A → Option A
unless_faulty true z = None
unless_faulty false z = Some z

-- the value of an expression by the values of names
abbrev pub evaluated : (Name → ℤ) → Tree → Option ℤ
evaluated name e = unless_faulty (is_faulty (value_with name (pos 0)) e) (value_with name (pos 0) e)

-- the value of a constant expression of c
abbrev pub outcome : Component → Tree → Option ℤ
outcome c e = unless_faulty (is_faulty (constant c) e) (constant c e)
