-- Texts that are written piece by piece.
use Rattle.std.specs.Prelude.{◌≡◌, ℕ, ◌+◌, ◌==◌, Bool, true, false, not, ◌||◌, ◌&&◌, List, [], ◌∷◌, ◌++◌, length, Option}
use Rattle.grammar.specs.Pieces.{Text}
use Rattle.grammar.specs.Bytes.{is_digit, is_wordy}
use Rattle.cif_lex.specs.declared.token.Token.{Token}
use Rattle.cif_lex.specs.declared.token.TokenKind.{TokenKind}
use Rattle.cif_lex.specs.Tokens.{Piece, blank, comment, word, escaped, number, sign, signs, piece, kind_of, with_token, IsInRange}

-- a piece, its bytes, and the kind of its token, or none
pub record Written : Type 0 where
  pub form : Piece
  pub bytes : Text
  pub kind : Option TokenKind

pub record IsWritten (w : Written) : Type 0 where
  pub is : piece w.form w.bytes
  pub has_kind : kind_of w.form ≡ w.kind
  pub in_range : IsInRange w.form

abbrev pub AreWritten : List Written → Type 0
AreWritten [] = Unit {0}
AreWritten (w ∷ ws) = IsWritten w × AreWritten ws

abbrev pub text_of : List Written → Text
text_of [] = []
text_of (w ∷ ws) = w.bytes ++ text_of ws

-- the tokens among them, the first piece at this place
abbrev pub tokens_of : ℕ → List Written → List Token
tokens_of at [] = []
tokens_of at (w ∷ ws) = with_token w.kind at (length w.bytes) (tokens_of (at + length w.bytes) ws)

-- ---- pieces that run together

abbrev pub begins_with : Text → Text → Bool
begins_with [] t = true
begins_with (a ∷ s) [] = false
begins_with (a ∷ s) (b ∷ t) = a == b && begins_with s t

-- whether one of these texts begins so
abbrev pub one_begins : Text → List Text → Bool
one_begins x [] = false
one_begins x (s ∷ ss) = begins_with x s || one_begins x ss

-- whether the byte behind a piece may belong to it, or make it another: a letter, a digit or `_` behind a word, a digit behind a
-- number, a byte that goes on to a longer sign behind a sign, and each behind a comment
abbrev pub goes_on : Piece → ℕ → Bool
goes_on blank b = false
goes_on comment b = true
goes_on (word t) b = is_wordy b
goes_on (escaped t) b = is_wordy b
goes_on (number t) b = is_digit b
goes_on (sign t) b = one_begins (t ++ b ∷ []) signs

abbrev pub ends_before : Piece → Text → Bool
ends_before p [] = true
ends_before p (b ∷ text) = not (goes_on p b)

-- no piece goes on into what follows it; the text stands behind the last
abbrev pub are_apart : List Written → Text → Bool
are_apart [] rest = true
are_apart (w ∷ ws) rest = ends_before w.form (text_of ws ++ rest) && are_apart ws rest
