-- The words of `simulate`: numbers of steps, and that words ask for at most one thing.
use Rattle.std.proofs.Common.{◌≡◌, ℕ, ◌≤◌, List, [], ◌∷◌, codes, Option, Some, None, ℤ, pos, FitsSigned, w64, to_z, of_z, sym, ap, ◌∙◌, arith}
use Rattle.std.specs.Prelude.{int_lt, true}
use Rattle.std.specs.Fmt.{signed_decimal}
use Rattle.std.proofs.lemmas.Bool.Decides.{nat_tests}
use Rattle.std.proofs.lemmas.Int.{to_z-of_z}
use Rattle.std.proofs.lemmas.Fmt.{decimal_injective}
use Rattle.grammar.specs.Pieces.{Text}
use Rattle.cif_run.specs.Words.{command_word}
use Rattle.cif_simulate.specs.Words.{IsSimulate, IsSteps, Simulate, by_first}

-- a number of steps is read as such
steps_read : (w : Text) (n : ℕ) (r : Option ℤ) → ((z : ℤ) → FitsSigned w64 z → w ≡ signed_decimal z → r ≡ Some z) → IsSteps w n → r ≡ Some (pos n)
steps_read w n r reads h = let high = h.1 in reads (pos n) (record { sfits = omega (arith, high) }) h.0

pub no_number : (w : Text) (r : Option ℤ) → r ≡ None → ((z : ℤ) → FitsSigned w64 z → w ≡ signed_decimal z → r ≡ Some z) → (n : ℕ) → IsSteps w n → ⊥
no_number w r e reads n h = let q = steps_read w n r reads h in absurd cc

one_some : (y z : ℤ) → Some y ≡ Some z → y ≡ z
one_some y z e = cc

pub number_is : (w : Text) (r : Option ℤ) (z : ℤ) → r ≡ Some z → ((z : ℤ) → FitsSigned w64 z → w ≡ signed_decimal z → r ≡ Some z) → (n : ℕ) → IsSteps w n → z ≡ pos n
number_is w r z e reads n h = one_some z (pos n) (sym e ∙ steps_read w n r reads h)

held : (n : ℕ) → n ≤ 1000000 → FitsSigned w64 (pos n)
held n h = record { sfits = omega (arith, h) }

pub not_low : (n : ℕ) (z : ℤ) → z ≡ pos n → n ≤ 1000000 → int_lt (to_z w64 (of_z w64 z)) (pos 0) ≡ true → ⊥
not_low n z is high e = under n (sym (ap (λ x. int_lt x (pos 0)) (ap (λ x. to_z w64 (of_z w64 x)) is ∙ to_z-of_z w64 (pos n) (held n high))) ∙ e)
  where
    under : (n : ℕ) → int_lt (pos n) (pos 0) ≡ true → ⊥
    under n e = grind (arith, nat_tests)

pub not_high : (n : ℕ) (z : ℤ) → z ≡ pos n → n ≤ 1000000 → int_lt (pos 1000000) (to_z w64 (of_z w64 z)) ≡ true → ⊥
not_high n z is high e = over n high (sym (ap (λ x. int_lt (pos 1000000) x) (ap (λ x. to_z w64 (of_z w64 x)) is ∙ to_z-of_z w64 (pos n) (held n high))) ∙ e)
  where
    over : (n : ℕ) → n ≤ 1000000 → int_lt (pos 1000000) (pos n) ≡ true → ⊥
    over n high e = grind (arith, nat_tests)

-- ---- the command line

pub simulate_named : (ws : List Text) (q : Simulate) → IsSimulate ws q → command_word ws ≡ codes "simulate"
simulate_named [] q h = absurd h
simulate_named (w ∷ []) q h = absurd h
simulate_named (w ∷ f ∷ []) q h = absurd h
simulate_named (w ∷ f ∷ s ∷ []) q h = h.0
simulate_named (w ∷ f ∷ o ∷ v ∷ []) q h = h.0
simulate_named (w ∷ f ∷ o ∷ v ∷ x ∷ ws) q h = absurd h

one_number : (v : Text) (m n : ℕ) → IsSteps v m → IsSteps v n → m ≡ n
one_number v m n h g = let high = h.1 in let other = g.1 in decimal_injective m n (omega (arith, high)) (omega (arith, other)) (sym h.0 ∙ g.0)

same_request : (a b : Simulate) → a.file ≡ b.file → a.which ≡ b.which → a ≡ b
same_request a b file which = ap (λ x. record { file = x; which = a.which }) file ∙ ap (λ x. record { file = b.file; which = x }) which

pub one_simulate : (ws : List Text) (a b : Simulate) → IsSimulate ws a → IsSimulate ws b → a ≡ b
one_simulate [] a b h g = absurd h
one_simulate (w ∷ []) a b h g = absurd h
one_simulate (w ∷ f ∷ []) a b h g = absurd h
one_simulate (w ∷ f ∷ s ∷ []) a b h g = same_request a b (h.4 ∙ sym g.4) (h.5 ∙ sym g.5)
one_simulate (w ∷ f ∷ o ∷ v ∷ []) a b h g =
    same_request a b (h.3 ∙ sym g.3) (h.4.2 ∙ ap by_first (one_number v h.4.0 g.4.0 h.4.1 g.4.1) ∙ sym g.4.2)
one_simulate (w ∷ f ∷ o ∷ v ∷ x ∷ ws) a b h g = absurd h
