-- Truth values and literals, as nets and programs have them.
use Rattle.std.proofs.Common.{◌≡◌, ℤ, pos, negsuc, Bool, true, false, List, Ok, Err, refl, ap, ◌∙◌, arith, if◌then◌else◌}
use Rattle.std.proofs.lemmas.Int.{ints}
use Rattle.std.proofs.lemmas.Bool.Decides.{nat_tests}
use Rattle.cif_net_model.specs.Value as v
use Rattle.cif_net_model.specs.Kinds.{in_32_bits}
use Rattle.st_ast.specs.Values.{Memory, of_bool, is_true, fits, overflow, value_of}
use Rattle.st_ast.specs.declared.tree.StVar.{StVar}
use Rattle.plc_expr.specs.Texts.{number_text}
use Rattle.cif_net_model.specs.Safe.{IsTruth}

pub truth-of : (b : Bool) → is_true (of_bool b) ≡ b
truth-of true = refl
truth-of false = refl

truth-read : (b : Bool) → is_true (v.of_bool b) ≡ b
truth-read true = refl
truth-read false = refl

-- what is 0 or 1 is read alike
pub truth-is : (z : ℤ) → IsTruth z → is_true z ≡ v.is_true z
truth-is z h = ap is_true h ∙ truth-read (v.is_true z)

bits-fit : (z : ℤ) → in_32_bits z ≡ true → fits 64 z ≡ true
bits-fit (pos n) h = grind (arith, ints, nat_tests)
bits-fit (negsuc n) h = grind (arith, ints, nat_tests)

-- a literal has its number
pub number-value : (vars : List StVar) (m : Memory) (z : ℤ) → in_32_bits z ≡ true → value_of vars (number_text z) m ≡ Ok z
number-value vars m (pos n) h = refl
number-value vars m (negsuc n) h = ap (λ b. if b then Ok (negsuc n) else Err overflow) (bits-fit (negsuc n) h)
