-- Results of operators at equal operands, and by divisors without 0.
use Rattle.std.proofs.Common.{◌≡◌, ℤ, pos, false, None, Option, if◌then◌else◌, sym, subst}
use Rattle.cif_base.specs.Bounds.{Bounds, contains, divided_by}

pub at_equal : (f : ℤ → ℤ → ℤ) {m a b p q : ℤ} → m ≡ f a b → a ≡ p → b ≡ q → m ≡ f p q
at_equal f h e k = cc

pub by_no_zero : (b : Bounds) (r o : Option Bounds) → contains b (pos 0) ≡ false → r ≡ o → r ≡ divided_by b o
by_no_zero b r o n e = subst (λ t. r ≡ (if t then None else o)) (sym n) e
