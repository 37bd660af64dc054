-- What is found at the front of a text is the piece that is cut off there, and where nothing is found none begins.
use Rattle.std.proofs.Common.{◌≡◌, ◌==◌, ℕ, Bool, true, false, ◌&&◌, if◌then◌else◌, [], ◌∷◌, Option, Some, None, Err, refl, ap, subst, ◌∙◌, arith}
use Rattle.std.proofs.lemmas.Bool.Decides.{nat_tests}
use Rattle.grammar.specs.Pieces.{Text, Cut, text_cut, close_at, closed_of, with_byte}
use Rattle.grammar.proofs.Texts.{from_test}
use Rattle.grammar.proofs.Closing.{rest_of, close_is}
use Rattle.cif_lex.specs.declared.found.Fault.TheVariants as f
use Rattle.grammar.specs.Bytes.{is_blank, begins_word, is_digit}
use Rattle.grammar.specs.Classes.{letter, digit, wordy}
use Rattle.grammar.proofs.Fronts.{none_run}
use Rattle.cif_lex.specs.Tokens.{Piece, comment, sign, signs, is_zero, is_leading, kind_of, number_of}
use Rattle.cif_lex.specs.Cutting.{Found, reserved_word, escaped_found, is_small, closed_found, slash_found, found_of}
use Rattle.cif_lex.proofs.SignLaws.{judge, by_byte, sign_judged, sign_front}
use Rattle.cif_lex.proofs.CutLaws.{piece_cut}

-- ---- what is cut, judged

abbrev pub opens : Text → Bool
opens [] = false
opens (a ∷ []) = false
opens (a ∷ b ∷ text) = a == 47 && b == 42

abbrev pub judged : Text → Option (Cut Piece) → Found
judged text None = if opens text then Err f.OpenComment else Err f.BadByte
judged text (Some c) = judge c.piece c.rest

abbrev pub Claim : ℕ → Text → Type 0
Claim b text = found_of (b ∷ text) ≡ judged (b ∷ text) (piece_cut (b ∷ text))

leading_digit : (b : ℕ) → is_leading b ≡ true → is_digit b ≡ true
leading_digit b e = grind (arith, nat_tests)

-- ---- the first bytes one by one

dollar : (text : Text) → Claim 36 text
unfolding found_of piece_cut letter wordy escaped_found kind_of
dollar [] = refl
dollar (c ∷ text) = go (begins_word c) refl
  where
    go : (x : Bool) → begins_word c ≡ x → Claim 36 (c ∷ text)
    go true e = rw e refl
    go false e = rw e refl

zero_digit : (text : Text) → Claim 48 text
unfolding found_of piece_cut letter kind_of is_small number_of
zero_digit text = rw (none_run text) refl

closed : (text : Text) (o : Option (Text × Text)) → closed_found (rest_of o) ≡ judged (47 ∷ 42 ∷ text) (with_byte 47 (closed_of 42 comment o))
unfolding kind_of
closed text None = refl
closed text (Some p) = refl

slash : (text : Text) → Claim 47 text
unfolding found_of piece_cut letter slash_found kind_of
slash [] = refl
slash (c ∷ text) = by_byte (λ n. Claim 47 (n ∷ text)) 47 c refl
    (λ e. by_byte (λ n. (n == 47) ≡ false → Claim 47 (n ∷ text)) 42 c (λ g. ap closed_found (close_is 42 47 text) ∙ closed text (close_at 42 47 text)) (λ g h. rw (h, g) (rw g refl)) e)

other : (b : ℕ) (text : Text) → is_blank b ≡ false → begins_word b ≡ false → is_zero b ≡ false → is_leading b ≡ false → (b == 36) ≡ false → (b == 47) ≡ false → Claim b text
unfolding found_of piece_cut letter
other b [] e g h i j k = rw (e, g, h, i, j, k) (sign_front b [] ∙ last (text_cut signs sign (b ∷ [])))
  where
    last : (o : Option (Cut Piece)) → sign_judged o ≡ judged (b ∷ []) o
    last None = refl
    last (Some c) = refl
other b (c ∷ text) e g h i j k = rw (e, g, h, i, j, k) (sign_front b (c ∷ text) ∙ last (text_cut signs sign (b ∷ c ∷ text)))
  where
    last : (o : Option (Cut Piece)) → sign_judged o ≡ judged (b ∷ c ∷ text) o
    last None = rw k refl
    last (Some v) = refl

no_word : (b : ℕ) (text : Text) → is_blank b ≡ false → begins_word b ≡ false → (x y : Bool) → is_zero b ≡ x → is_leading b ≡ y → Claim b text
unfolding found_of piece_cut letter digit kind_of is_small
no_word b text e g true y h i = subst (λ n. Claim n text) (from_test b 48 h) (zero_digit text)
no_word b text e g false true h i =
    by_byte (λ n. is_blank n ≡ false → begins_word n ≡ false → is_zero n ≡ false → is_leading n ≡ true → Claim n text) 36 b (λ e g h i. dollar text)
    (λ j e g h i. let d = leading_digit b i in rw (e, g, j, h, i, d) refl) e g h i
no_word b text e g false false h i =
    by_byte (λ n. is_blank n ≡ false → begins_word n ≡ false → is_zero n ≡ false → is_leading n ≡ false → Claim n text) 36 b (λ e g h i. dollar text)
    (λ j e g h i. by_byte (λ n. is_blank n ≡ false → begins_word n ≡ false → is_zero n ≡ false → is_leading n ≡ false → (n == 36) ≡ false → Claim n text) 47 b
    (λ e g h i j. slash text) (λ k e g h i j. other b text e g h i j k) e g h i j) e g h i

step : (b : ℕ) (text : Text) (x y : Bool) → is_blank b ≡ x → begins_word b ≡ y → Claim b text
unfolding found_of piece_cut letter wordy kind_of reserved_word
step b text true y e g = rw (e, none_run text) refl
step b text false true e g = rw (e, g) refl
step b text false false e g = no_word b text e g (is_zero b) (is_leading b) refl refl

pub front_is : (b : ℕ) (text : Text) → Claim b text
front_is b text = step b text (is_blank b) (begins_word b) refl refl
