-- Why a text is not read, at which place.
use Rattle.std.specs.Prelude.{◌≡◌, ℕ, ◌+◌, ◌≤◌, ◌<◌, false, List, ◌∷◌, ◌++◌, length}
use Rattle.grammar.specs.Pieces.{Text, IsLongest, Begun}
use Rattle.st_ast.specs.Tokens.{Piece, number, piece, opens_comment, number_of, greatest}
use Rattle.st_ast.specs.Tree.{Program}
use Rattle.st_ast.specs.ReadsAs.{Derives}
use Rattle.st_read.specs.declared.error.StErr.{StErr}
use Rattle.st_read.specs.declared.error.StErr.TheVariants as err

-- The bytes before the place are such pieces, with numbers of any size. `(*` among them begins a comment.
pub record Front (text : Text) (at : ℕ) : Type 0 where
  pub pieces : List Piece
  pub rest : Text
  pub cut : Begun piece pieces text rest
  pub closed : opens_comment pieces ≡ false
  pub place : at + length rest ≡ length text

-- a byte stands there, and neither a piece nor `(*` begins there
pub record BadByteDue (text : Text) (at : ℕ) : Type 0 where
  pub front : Front text at
  pub within : at < length text
  pub no_piece : (p : Piece) (x more : Text) → piece p x → front.rest ≡ x ++ more → ⊥
  pub no_comment : (more : Text) → front.rest ≡ 40 ∷ 42 ∷ more → ⊥

-- a number above the greatest begins there
pub record NumberTooBigDue (text : Text) (at : ℕ) : Type 0 where
  pub front : Front text at
  pub digits : Text
  pub more : Text
  pub is_number : piece (number digits) digits
  pub longest : IsLongest piece digits front.rest
  pub there : front.rest ≡ digits ++ more
  pub too_big : greatest < number_of digits

-- `(*` begins there, and no `*)` comes after it
pub record OpenCommentDue (text : Text) (at : ℕ) : Type 0 where
  pub front : Front text at
  pub more : Text
  pub there : front.rest ≡ 40 ∷ 42 ∷ more
  pub open_end : (inner after : Text) → more ≡ inner ++ (42 ∷ 41 ∷ after) → ⊥

-- none of these is due anywhere, and the text derives no program; the place is one in the text
pub record NotReadDue (text : Text) (at : ℕ) : Type 0 where
  pub within : at ≤ length text
  pub no_bad_byte : (n : ℕ) → BadByteDue text n → ⊥
  pub no_big_number : (n : ℕ) → NumberTooBigDue text n → ⊥
  pub no_open_comment : (n : ℕ) → OpenCommentDue text n → ⊥
  pub no_program : (p : Program) → Derives text p → ⊥

-- why a text is refused
abbrev pub RefusalDue : Text → StErr → Type 0
RefusalDue text (err.StBadByte at) = BadByteDue text at
RefusalDue text (err.StNumberTooBig at) = NumberTooBigDue text at
RefusalDue text (err.StOpenComment at) = OpenCommentDue text at
RefusalDue text (err.StNotRead at) = NotReadDue text at
RefusalDue text err.Memory = Unit {0}
