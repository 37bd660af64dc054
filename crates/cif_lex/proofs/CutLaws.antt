-- The pieces of a source are found by cutting.
use Rattle.std.proofs.Common.{◌≡◌, ◌==◌, ℕ, Bool, true, ◌||◌, ◌&&◌, nat_le, refl, arith}
use Rattle.std.proofs.lemmas.Bool.Decides.{nat_tests}
use Rattle.grammar.specs.Pieces.{Cutter, either_cut, run_cut, after_cut, closed_cut, text_cut}
use Rattle.grammar.proofs.Cutting.{Cuts, either_cuts, run_cuts, after_cuts, closed_cuts, text_cuts}
use Rattle.grammar.specs.Bytes.{is_blank, begins_word, is_digit, is_wordy, none_of}
use Rattle.cif_lex.specs.Tokens.{Piece, blank, comment, word, escaped, number, sign, is_zero, is_leading, is_slash, is_in_line, signs, piece}

abbrev pub is_dollar : ℕ → Bool
is_dollar b = b == 36

-- 33 ! 40 ( 41 ) 42 * 43 + 44 , 45 - 46 . 58 : to 63 ? 91 [ 93 ] 123 { 125 }
abbrev begins_sign : ℕ → Bool
begins_sign b = b == 33 || nat_le 40 b && nat_le b 46 || nat_le 58 b && nat_le b 63 || b == 91 || b == 93 || b == 123 || b == 125

unfoldable pub piece_cut : Cutter Piece
piece_cut = either_cut is_blank (run_cut is_blank none_of (λ t. blank))
    (either_cut begins_word (run_cut begins_word is_wordy word)
    (either_cut is_dollar (after_cut 36 (run_cut begins_word is_wordy escaped))
    (either_cut is_zero (run_cut is_zero none_of number)
    (either_cut is_leading (run_cut is_leading is_digit number)
    (either_cut is_slash (after_cut 47 (either_cut is_slash (run_cut is_slash is_in_line (λ t. comment)) (closed_cut 42 42 47 comment)))
    (text_cut signs sign))))))

-- what begins the pieces from each one on
abbrev from_slash : ℕ → Bool
from_slash b = is_slash b || begins_sign b

abbrev from_leading : ℕ → Bool
from_leading b = is_leading b || from_slash b

abbrev from_zero : ℕ → Bool
from_zero b = is_zero b || from_leading b

abbrev from_dollar : ℕ → Bool
from_dollar b = is_dollar b || from_zero b

abbrev from_letter : ℕ → Bool
from_letter b = begins_word b || from_dollar b

abbrev pub begins_piece : ℕ → Bool
begins_piece b = is_blank b || from_letter b

line_apart : (b : ℕ) → is_slash b ≡ true → (b == 42) ≡ true → ⊥
line_apart b e f = grind (arith, nat_tests)

slash_apart : (b : ℕ) → is_slash b ≡ true → begins_sign b ≡ true → ⊥
slash_apart b e f = grind (arith, nat_tests)

leading_apart : (b : ℕ) → is_leading b ≡ true → from_slash b ≡ true → ⊥
leading_apart b e f = grind (arith, nat_tests)

zero_apart : (b : ℕ) → is_zero b ≡ true → from_leading b ≡ true → ⊥
zero_apart b e f = grind (arith, nat_tests)

dollar_apart : (b : ℕ) → is_dollar b ≡ true → from_zero b ≡ true → ⊥
dollar_apart b e f = grind (arith, nat_tests)

letter_apart : (b : ℕ) → begins_word b ≡ true → from_dollar b ≡ true → ⊥
letter_apart b e f = grind (arith, nat_tests)

blank_apart : (b : ℕ) → is_blank b ≡ true → from_letter b ≡ true → ⊥
blank_apart b e f = grind (arith, nat_tests)

pub piece_cuts : Cuts begins_piece piece piece_cut
unfolding piece piece_cut
piece_cuts = either_cuts (run_cuts is_blank none_of (λ t. blank)) blank_apart
    (either_cuts (run_cuts begins_word is_wordy word) letter_apart
    (either_cuts (after_cuts 36 (run_cuts begins_word is_wordy escaped)) dollar_apart
    (either_cuts (run_cuts is_zero none_of number) zero_apart
    (either_cuts (run_cuts is_leading is_digit number) leading_apart
    (either_cuts (after_cuts 47 (either_cuts (run_cuts is_slash is_in_line (λ t. comment)) line_apart (closed_cuts 42 42 47 comment))) slash_apart
    (text_cuts begins_sign signs sign refl refl))))))
