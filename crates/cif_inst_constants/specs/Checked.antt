-- Helper of the code: operators on numbers of 64 bits: a result outside 64 bits is none, and a divisor 0 has none.
use Rattle.std.specs.Prelude.{◌^◌, ℤ, pos, negsuc, int_div, int_rem, ◌*ℤ◌, nat_lt, Bool, Option, Some, None, if◌then◌else◌}
use Rattle.std.specs.Ordering.{int_eq}
use Rattle.cif_ast.specs.declared.expressions.MulOp.{MulOp}
use Rattle.cif_ast.specs.declared.expressions.MulOp.TheVariants as mul

-- whether a number has 64 bits, one of them the sign's
abbrev pub fits_64 : ℤ → Bool
fits_64 (pos n) = nat_lt n (2 ^ 63)
fits_64 (negsuc n) = nat_lt n (2 ^ 63)

abbrev pub checked : ℤ → Option ℤ
checked z = if fits_64 z then Some z else None

-- by a divisor that isn't 0
abbrev pub unless_zero : ℤ → ℤ → Option ℤ
unless_zero b z = if int_eq b (pos 0) then None else checked z

abbrev pub multiplied_checked : MulOp → ℤ → ℤ → Option ℤ
multiplied_checked mul.Times a b = checked (a *ℤ b)
multiplied_checked mul.Div a b = unless_zero b (int_div a b)
multiplied_checked mul.Mod a b = unless_zero b (int_rem a b)
