-- The words of `generate`: numbers of rounds, the options, and that words ask for at most one thing.
use Rattle.std.proofs.Common.{◌≡◌, ℕ, ◌≤◌, List, [], ◌∷◌, codes, Option, Some, None, ℤ, pos, FitsSigned, w64, to_z, of_z, sym, ap, ◌∙◌, inl, inr, arith}
use Rattle.std.specs.Prelude.{int_lt, true}
use Rattle.std.specs.Fmt.{signed_decimal}
use Rattle.std.proofs.lemmas.Bool.Decides.{nat_tests}
use Rattle.std.proofs.lemmas.Int.{to_z-of_z}
use Rattle.std.proofs.lemmas.Fmt.{decimal_injective}
use Rattle.grammar.specs.Pieces.{Text}
use Rattle.cif_run.specs.Words.{command_word}
use Rattle.cif_generate.specs.Words.{Generate, IsRounds, AreOptions, IsGenerate}

one_number : (w : Text) (m n : ℕ) → IsRounds w m → IsRounds w n → m ≡ n
one_number w m n h k = decimal_injective m n (omega arith) (omega arith) (sym h.0 ∙ k.0)

third : Text → ℕ
third [] = 0
third (a ∷ []) = 0
third (a ∷ b ∷ []) = 0
third (a ∷ b ∷ c ∷ w) = c

unc_is_not_con : (w : Text) → w ≡ codes "--unc" → w ≡ codes "--con" → ⊥
unfolding third
unc_is_not_con w e f = let g : ◌≡◌ {A = ℕ} 117 99 = ap third (sym e ∙ f) in absurd (omega arith)

one_bounds : (ws : List Text) (u k v l : ℕ) → AreOptions ws u k → AreOptions ws v l → (u ≡ v) × (k ≡ l)
one_bounds [] u k v l h g = (h.0 ∙ sym g.0, h.1 ∙ sym g.1)
one_bounds (w ∷ []) u k v l h g = absurd h
one_bounds (o ∷ w ∷ []) u k v l (inl h) (inl g) = (one_number w u v h.1 g.1, h.2 ∙ sym g.2)
one_bounds (o ∷ w ∷ []) u k v l (inl h) (inr g) = absurd (unc_is_not_con o h.0 g.0)
one_bounds (o ∷ w ∷ []) u k v l (inr h) (inl g) = absurd (unc_is_not_con o g.0 h.0)
one_bounds (o ∷ w ∷ []) u k v l (inr h) (inr g) = (h.1 ∙ sym g.1, one_number w k l h.2 g.2)
one_bounds (o ∷ w ∷ p ∷ []) u k v l h g = absurd h
one_bounds (o ∷ w ∷ p ∷ x ∷ []) u k v l (inl h) (inl g) = (one_number w u v h.1 g.1, one_number x k l h.3 g.3)
one_bounds (o ∷ w ∷ p ∷ x ∷ []) u k v l (inl h) (inr g) = absurd (unc_is_not_con o h.0 g.0)
one_bounds (o ∷ w ∷ p ∷ x ∷ []) u k v l (inr h) (inl g) = absurd (unc_is_not_con o g.0 h.0)
one_bounds (o ∷ w ∷ p ∷ x ∷ []) u k v l (inr h) (inr g) = (one_number x u v h.3 g.3, one_number w k l h.1 g.1)
one_bounds (o ∷ w ∷ p ∷ x ∷ y ∷ ws) u k v l h g = absurd h

made_of : (a b : Generate) → a.file ≡ b.file → a.unc ≡ b.unc → a.con ≡ b.con → a ≡ b
made_of a b e f g =
    ap (λ x. record { file = x; unc = a.unc; con = a.con }) e
    ∙ (ap (λ x. record { file = b.file; unc = x; con = a.con }) f ∙ ap (λ x. record { file = b.file; unc = b.unc; con = x }) g)

pub one_generate : (ws : List Text) (a b : Generate) → IsGenerate ws a → IsGenerate ws b → a ≡ b
one_generate [] a b h g = absurd h
one_generate (w ∷ []) a b h g = absurd h
one_generate (w ∷ f ∷ ws) a b h g = let q = one_bounds ws a.unc a.con b.unc b.con h.3 g.3 in made_of a b (h.2 ∙ sym g.2) q.0 q.1

pub generate_named : (ws : List Text) (g : Generate) → IsGenerate ws g → command_word ws ≡ codes "generate"
generate_named [] g h = absurd h
generate_named (w ∷ []) g h = absurd h
generate_named (w ∷ f ∷ ws) g h = h.0

-- options give no more rounds of a class than that
pub few_unc : (ws : List Text) (u k : ℕ) → AreOptions ws u k → u ≤ 10000
few_unc [] u k h = omega (arith, h.0)
few_unc (w ∷ []) u k h = absurd h
few_unc (o ∷ w ∷ []) u k (inl h) = h.1.2
few_unc (o ∷ w ∷ []) u k (inr h) = omega (arith, h.1)
few_unc (o ∷ w ∷ p ∷ []) u k h = absurd h
few_unc (o ∷ w ∷ p ∷ x ∷ []) u k (inl h) = h.1.2
few_unc (o ∷ w ∷ p ∷ x ∷ []) u k (inr h) = h.3.2
few_unc (o ∷ w ∷ p ∷ x ∷ y ∷ ws) u k h = absurd h

pub few_con : (ws : List Text) (u k : ℕ) → AreOptions ws u k → k ≤ 10000
few_con [] u k h = omega (arith, h.1)
few_con (w ∷ []) u k h = absurd h
few_con (o ∷ w ∷ []) u k (inl h) = omega (arith, h.2)
few_con (o ∷ w ∷ []) u k (inr h) = h.2.2
few_con (o ∷ w ∷ p ∷ []) u k h = absurd h
few_con (o ∷ w ∷ p ∷ x ∷ []) u k (inl h) = h.3.2
few_con (o ∷ w ∷ p ∷ x ∷ []) u k (inr h) = h.1.2
few_con (o ∷ w ∷ p ∷ x ∷ y ∷ ws) u k h = absurd h

-- a number of rounds is read as such
pub rounds_read : (w : Text) (n : ℕ) (r : Option ℤ) → ((z : ℤ) → FitsSigned w64 z → w ≡ signed_decimal z → r ≡ Some z) → IsRounds w n → r ≡ Some (pos n)
rounds_read w n r reads h = let high = h.2 in reads (pos n) (record { sfits = omega (arith, high) }) h.0

pub no_number : (w : Text) (r : Option ℤ) → r ≡ None → ((z : ℤ) → FitsSigned w64 z → w ≡ signed_decimal z → r ≡ Some z) → (n : ℕ) → IsRounds w n → ⊥
no_number w r e reads n h = let q = rounds_read w n r reads h in absurd cc

one_some : (y z : ℤ) → Some y ≡ Some z → y ≡ z
one_some y z e = cc

pub number_is : (w : Text) (r : Option ℤ) (z : ℤ) → r ≡ Some z → ((z : ℤ) → FitsSigned w64 z → w ≡ signed_decimal z → r ≡ Some z) → (n : ℕ) → IsRounds w n → z ≡ pos n
number_is w r z e reads n h = one_some z (pos n) (sym e ∙ rounds_read w n r reads h)

held : (n : ℕ) → n ≤ 10000 → FitsSigned w64 (pos n)
held n h = record { sfits = omega (arith, h) }

pub not_low : (n : ℕ) (z : ℤ) → z ≡ pos n → 1 ≤ n → n ≤ 10000 → int_lt (to_z w64 (of_z w64 z)) (pos 1) ≡ true → ⊥
not_low n z is low high e = under n low (sym (ap (λ x. int_lt x (pos 1)) (ap (λ x. to_z w64 (of_z w64 x)) is ∙ to_z-of_z w64 (pos n) (held n high))) ∙ e)
  where
    under : (n : ℕ) → 1 ≤ n → int_lt (pos n) (pos 1) ≡ true → ⊥
    under n low e = grind (arith, nat_tests)

pub not_high : (n : ℕ) (z : ℤ) → z ≡ pos n → n ≤ 10000 → int_lt (pos 10000) (to_z w64 (of_z w64 z)) ≡ true → ⊥
not_high n z is high e = over n high (sym (ap (λ x. int_lt (pos 10000) x) (ap (λ x. to_z w64 (of_z w64 x)) is ∙ to_z-of_z w64 (pos n) (held n high))) ∙ e)
  where
    over : (n : ℕ) → n ≤ 10000 → int_lt (pos 10000) (pos n) ≡ true → ⊥
    over n high e = grind (arith, nat_tests)
