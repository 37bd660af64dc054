-- Which specifications have no number above 2147483647, no negative number, and no enumeration with no literal or with more
-- than 2147483647.
use Rattle.std.specs.Prelude.{◌≡◌, ℕ, ◌≤◌, ℤ, pos, List, length}
use Rattle.cif_ast.specs.Throughout.{Rule, HoldsInSpec}
use Rattle.cif_ast.specs.declared.names.Ident.{Ident}
use Rattle.cif_ast.specs.declared.components.Spec.{Spec}

-- from 0 to 2147483647
abbrev pub IsSmallNumber : ℤ → Type 0
IsSmallNumber z = (n : ℕ) × (z ≡ pos n) × (n ≤ 2147483647)

-- one literal to 2147483647
abbrev pub AreFewLiterals : List Ident → Type 0
AreFewLiterals ls = (1 ≤ length ls) × (length ls ≤ 2147483647)

abbrev pub small_parts : Rule
small_parts = record {
  of_name = λ n. Unit {0};
  of_number = IsSmallNumber;
  of_conditions = λ cs. Unit {0};
  of_literals = AreFewLiterals;
  of_expression = λ e. Unit {0};
  of_update = λ u. Unit {0};
}

abbrev pub HasSmallNumbers : Spec → Type 0
HasSmallNumbers spec = HoldsInSpec small_parts spec
