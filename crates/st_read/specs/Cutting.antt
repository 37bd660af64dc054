-- Helper of the code: how the pieces of Structured Text are cut off a text.
use Rattle.std.specs.Prelude.{ℕ, Bool, ◌||◌, ◌==◌, nat_le, ◌&&◌}
use Rattle.std.specs.Option.{option_or}
use Rattle.grammar.specs.Pieces.{Cutter, either_cut, run_cut, after_cut, closed_cut, text_cut}
use Rattle.grammar.specs.Bytes.{is_blank, begins_word, is_digit, is_wordy, none_of}
use Rattle.st_ast.specs.Tokens.{Piece, blank, comment, word, number, sign, signs}

-- by the first cutter, and where that finds nothing by the second
abbrev pub first_cut : {P : Type 0} → Cutter P → Cutter P → Cutter P
first_cut c d text = option_or (c text) (d text)

-- 38 & 40 ( 41 ) 42 * 43 + 44 , 45 - 46 . 47 / and 58 : to 62 >
abbrev pub begins_sign : ℕ → Bool
begins_sign b = b == 38 || nat_le 40 b && nat_le b 47 || nat_le 58 b && nat_le b 62

-- A comment and the sign `(` begin with the same byte. A comment is longer than any sign, so it is tried first.
unfoldable pub piece_cut : Cutter Piece
piece_cut = either_cut is_blank (run_cut is_blank none_of (λ t. blank))
    (either_cut begins_word (run_cut begins_word is_wordy word)
    (either_cut is_digit (run_cut is_digit is_digit number)
    (first_cut (after_cut 40 (closed_cut 42 42 41 comment)) (text_cut signs sign))))
