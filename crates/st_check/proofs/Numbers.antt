-- There are at most as many inputs, or outputs, as variables.
use Rattle.std.proofs.Common.{◌≡◌, ℕ, suc, ◌<◌, ◌≤◌, ◌^◌, Bool, true, false, List, [], ◌∷◌, length, arith}
use Rattle.std.specs.Prelude.{if◌then◌else◌}
use Rattle.st_ast.specs.Interface.{numbers_of}
use Rattle.st_ast.specs.declared.tree.StVar.{StVar}
use Rattle.st_ast.specs.declared.tree.StClass.{StClass}

pub at_most : (asked : StClass → Bool) (vars : List StVar) (from : ℕ) → length (numbers_of asked from vars) ≤ length vars
at_most asked [] from = omega arith
at_most asked (v ∷ vs) from = go (asked v.class) (at_most asked vs (suc from))
  where
    go : (b : Bool) → length (numbers_of asked (suc from) vs) ≤ length vs
        → length (if b then from ∷ numbers_of asked (suc from) vs else numbers_of asked (suc from) vs) ≤ suc (length vs)
    go true h = omega (arith, h)
    go false h = omega (arith, h)

pub numbers_are_few : (asked : StClass → Bool) (vars : List StVar) (numbers : List ℕ) → numbers ≡ numbers_of asked 0 vars → length vars < 2 ^ 32 → length numbers < 2 ^ 32
numbers_are_few asked vars numbers is few = let h = at_most asked vars 0 in rw is (omega (arith, h, few))
