-- The numbers of nets and those of Structured Text: they are compared, tested and bounded alike.
use Rattle.std.proofs.Common.{◌≡◌, ℤ, pos, negsuc, Bool, true, false, if◌then◌else◌, refl, sym, subst, ap, ◌∙◌, arith}
use Rattle.std.specs.Prelude.{◌*ℤ◌, int_div, int_rem, Ok, Err}
use Rattle.cif_net_expr.specs.Tree.{MulOp, times, divided, modulo}
use Rattle.std.specs.Ordering.{int_eq}
use Rattle.std.specs.Int.{int_min, int_max}
use Rattle.std.proofs.lemmas.Int.{ints, clamps}
use Rattle.std.proofs.lemmas.Bool.Decides.{nat_tests}
use Rattle.cif_net_model.specs.Value as v
use Rattle.cif_net_model.specs.Kinds.{in_32_bits}
use Rattle.st_ast.specs.Values.{of_bool, is_true, same_number, smaller, larger, fits, checked, overflow, zero_divide, added, multiplied}
use Rattle.plc_expr.specs.Texts.{mul_of}
use Rattle.cif_net_model.specs.Safe.{IsTruth, HasBits, CanDivide}

pub same-truth : (b : Bool) → of_bool b ≡ v.of_bool b
same-truth true = refl
same-truth false = refl

pub truth-read : (b : Bool) → is_true (v.of_bool b) ≡ b
truth-read true = refl
truth-read false = refl

-- what is 0 or 1 is read alike
pub truth-is : (z : ℤ) → IsTruth z → is_true z ≡ v.is_true z
truth-is z h = ap is_true h ∙ truth-read (v.is_true z)

pub same-equal : (a b : ℤ) → same_number a b ≡ int_eq a b
same-equal (pos a) (pos b) = grind (arith, ints, nat_tests)
same-equal (pos a) (negsuc b) = grind (arith, ints, nat_tests)
same-equal (negsuc a) (pos b) = grind (arith, ints, nat_tests)
same-equal (negsuc a) (negsuc b) = grind (arith, ints, nat_tests)

pub same-least : (a b : ℤ) → smaller a b ≡ int_min a b
same-least a b = grind (arith, ints, clamps)

pub same-greatest : (a b : ℤ) → larger a b ≡ int_max a b
same-greatest a b = grind (arith, ints, clamps)

pub bits-fit : (z : ℤ) → HasBits z → fits 64 z ≡ true
bits-fit (pos n) h = grind (arith, ints, nat_tests)
bits-fit (negsuc n) h = grind (arith, ints, nat_tests)

-- a number of a net is one of 64 bits
pub bits-more : (z : ℤ) → in_32_bits z ≡ true → HasBits z
bits-more z h = grind (arith, ints)

pub checked-is : (z : ℤ) → HasBits z → checked 64 z ≡ Ok z
checked-is z h = ap (λ b. if b then Ok z else Err overflow) (bits-fit z h)

pub same-added : (m : Bool) (a b : ℤ) → added m a b ≡ v.added m a b
same-added true a b = refl
same-added false a b = refl

pub same-product : (op : MulOp) (a b : ℤ) → CanDivide op b → HasBits (v.multiplied op a b) → multiplied 64 (mul_of op) a b ≡ Ok (v.multiplied op a b)
same-product times a b d h = checked-is (a *ℤ b) h
same-product divided a b d h =
    let one : v.multiplied divided a b ≡ int_div a b = ap (λ t. if t then pos 0 else int_div a b) d in
    ap (λ t. if t then Err zero_divide else checked 64 (int_div a b)) (same-equal b (pos 0) ∙ d)
    ∙ checked-is (int_div a b) (subst HasBits one h) ∙ ap Ok (sym one)
same-product modulo a b d h = ap (λ t. Ok (if t then pos 0 else int_rem a b)) (same-equal b (pos 0))
