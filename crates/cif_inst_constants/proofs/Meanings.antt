-- What names denote in constant expressions, by how many unfoldings of constants in one another there are.
use Rattle.std.specs.Prelude.{ℕ, zero, suc, ℤ, pos, length}
use Rattle.cif_ast.specs.Tree.{Tree}
use Rattle.cif_ast.specs.declared.names.Name.{Name}
use Rattle.cif_source.specs.Components.{Component, specification_of}
use Rattle.cif_source.specs.Lookup.{follow}
use Rattle.cif_source.specs.Objects.{of_sort, is_const}
use Rattle.cif_source.specs.Value.{value_with, constant_object, constant_within}

-- what constants that are met have, with n unfoldings of constants in one another
abbrev pub defined_within : ℕ → Component → Tree → ℤ
defined_within zero c e = pos 0
defined_within (suc n) c e = constant_within n c e

abbrev pub name_within : ℕ → Component → Name → ℤ
name_within n c = follow (constant_object (defined_within n)) (pos 0) (λ name g a. value_with name (pos 0) a) c

-- the value of what a name finds in a constant expression of c
abbrev pub constant_name : Component → Name → ℤ
constant_name c = name_within (length (of_sort is_const (specification_of c))) c
