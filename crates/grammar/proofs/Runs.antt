-- The run of a class at the front of a text, by the place of the first byte of none.
use Rattle.std.proofs.Common.{◌≡◌, ℕ, suc, ◌+◌, ◌≤◌, Bool, true, false, if◌then◌else◌, not, [], ◌∷◌, length, take, drop, Some, None, refl, sym, ap, subst, ◌∙◌, arith}
use Rattle.std.specs.Prelude.{position, unwrap_or, nat_lt}
use Rattle.std.specs.List.{prefix_len, position_or_len}
use Rattle.std.proofs.lemmas.List.Sums.{prefix_len-le-length}
use Rattle.std.proofs.lemmas.Bool.Decides.{nat_tests}
use Rattle.grammar.specs.Pieces.{Text, run_of}

abbrev split : ℕ → Text → Text × Text
split n text = (take n text, drop n text)

split_suc : (b n : ℕ) (text : Text) → split (1 + n) (b ∷ text) ≡ (b ∷ take n text, drop n text)
split_suc b n text = let e : 1 + n ≡ suc n = omega arith in ap (λ m. split m (b ∷ text)) e

run_prefix : (f g : ℕ → Bool) → ((b : ℕ) → g b ≡ f b) → (text : Text) → run_of f text ≡ split (prefix_len g text) text
run_prefix f g h [] = refl
run_prefix f g h (b ∷ text) = go (f b) refl (run_prefix f g h text)
  where
    go : (x : Bool) → f b ≡ x → run_of f text ≡ split (prefix_len g text) text → run_of f (b ∷ text) ≡ split (prefix_len g (b ∷ text)) (b ∷ text)
    go true e ih = let e' = h b ∙ e in rw (e, e') (ap (λ (w : Text × Text). (b ∷ w.0, w.1)) ih ∙ sym (split_suc b (prefix_len g text) text))
    go false e ih = let e' = h b ∙ e in rw (e, e') refl

not_not : (b : Bool) → not (not b) ≡ b
not_not true = refl
not_not false = refl

pub or_length : (n m : ℕ) → n ≤ m → unwrap_or (if◌then◌else◌ (nat_lt n m) (Some n) None) m ≡ n
or_length n m l = go (nat_lt n m) refl
  where
    go : (b : Bool) → nat_lt n m ≡ b → unwrap_or (if◌then◌else◌ b (Some n) None) m ≡ n
    go true e = refl
    go false e = grind (arith, nat_tests)

pub run_is : (f : ℕ → Bool) (text : Text) → run_of f text ≡ split (unwrap_or (position (λ b. not (f b)) text) (length text)) text
run_is f text =
    run_prefix f (λ b. not (not (f b))) (λ b. not_not (f b)) text
    ∙ ap (λ n. split n text) (sym (or_length (position_or_len (λ b. not (f b)) text) (length text) (prefix_len-le-length (λ b. not (not (f b))) text)))

pub first_within : (p : ℕ → Bool) (text : Text) → unwrap_or (position p text) (length text) ≤ length text
first_within p text =
    let less : prefix_len (λ b. not (p b)) text ≤ length text = prefix_len-le-length (λ b. not (p b)) text in
    subst (λ n. n ≤ length text) (sym (or_length (position_or_len p text) (length text) less)) less
