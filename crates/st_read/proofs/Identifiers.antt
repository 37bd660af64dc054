-- Whether a word is an identifier is told by what stands from its first `_` on.
use Rattle.std.proofs.Common.{◌≡◌, ◌==◌, ℕ, suc, ◌+◌, Bool, true, false, not, [], ◌∷◌, length, drop, refl, sym, ap, ◌∙◌, arith}
use Rattle.std.specs.Prelude.{position, unwrap_or}
use Rattle.std.specs.List.{position_or_len}
use Rattle.std.proofs.lemmas.List.Sums.{prefix_len-le-length}
use Rattle.grammar.specs.Pieces.{Text}
use Rattle.grammar.proofs.Runs.{or_length}
use Rattle.st_ast.specs.Tokens.{is_identifier}

abbrev is_underscore : ℕ → Bool
is_underscore b = b == 95

plain : (b : ℕ) (w : Text) → is_underscore b ≡ false → is_identifier (b ∷ w) ≡ is_identifier w
plain b [] e = rw e refl
plain b (c ∷ w) e = rw e refl

one_more : (n : ℕ) → 1 + n ≡ suc n
one_more n = omega arith

skipped : (w : Text) → is_identifier w ≡ is_identifier (drop (position_or_len is_underscore w) w)
skipped [] = refl
skipped (b ∷ w) = go (is_underscore b) refl (skipped w)
  where
    go : (x : Bool) → is_underscore b ≡ x → is_identifier w ≡ is_identifier (drop (position_or_len is_underscore w) w)
        → is_identifier (b ∷ w) ≡ is_identifier (drop (position_or_len is_underscore (b ∷ w)) (b ∷ w))
    go true e ih = rw e refl
    go false e ih = plain b w e ∙ ih ∙ rw e (sym (ap (λ (n : ℕ). is_identifier (drop n (b ∷ w))) (one_more (position_or_len is_underscore w))))

pub identifier_from : (w : Text) → is_identifier w ≡ is_identifier (drop (unwrap_or (position (λ b. b == 95) w) (length w)) w)
identifier_from w =
    skipped w
    ∙ ap (λ (n : ℕ). is_identifier (drop n w)) (sym (or_length (position_or_len is_underscore w) (length w) (prefix_len-le-length (λ b. not (is_underscore b)) w)))
