-- The tokens of Structured Text (IEC 61131-3, "Use of character set", "Identifiers", "Keywords", "Comments"): a text is
-- blanks, comments, words, numbers and signs one after the other, each the longest that begins at its place.
use Rattle.std.specs.Prelude.{◌≡◌, ℕ, Bool, true, false, not, ◌||◌, ◌&&◌, ◌==◌, nat_le, List, [], ◌∷◌, codes, Option, Some, None, filter_map, map, if◌then◌else◌}
use Rattle.std.specs.List.{list_any}
use Rattle.grammar.specs.Bytes.{is_blank, begins_word, is_digit, is_wordy, none_of, digits_from}
use Rattle.grammar.specs.Pieces.{Text, Kinds, ◌∣◌, run, after_byte, closed, one_text, Pieces, same}
use Rattle.st_ast.specs.Names.{same_name}
use Rattle.st_ast.specs.declared.kinds.TokenKind.{TokenKind}
use Rattle.st_ast.specs.declared.kinds.TokenKind.TheVariants as kinds

pub data Piece : Type 0 where
  blank comment : Piece
  word number sign : Text → Piece

-- the signs with their kinds, the longer ones first
abbrev pub sign_kinds : List (Text × TokenKind)
sign_kinds = (codes ":=", kinds.Assigns) ∷ (codes "..", kinds.Dots) ∷ (codes "<>", kinds.Differs) ∷ (codes "<=", kinds.AtMost)
    ∷ (codes ">=", kinds.AtLeast) ∷ (codes ";", kinds.Semicolon) ∷ (codes ":", kinds.Colon) ∷ (codes "(", kinds.Open)
    ∷ (codes ")", kinds.Close) ∷ (codes ",", kinds.Comma) ∷ (codes "+", kinds.Plus) ∷ (codes "-", kinds.Dash)
    ∷ (codes "*", kinds.Times) ∷ (codes "/", kinds.Slash) ∷ (codes "=", kinds.Equals) ∷ (codes "<", kinds.Less)
    ∷ (codes ">", kinds.Greater) ∷ (codes "&", kinds.And) ∷ []

abbrev pub signs : List Text
signs = map (λ (e : Text × TokenKind). e.0) sign_kinds

-- a blank byte, a word, digits, a comment from `(*` to the next `*)`, or a sign
unfoldable pub piece : Kinds Piece
piece = run is_blank none_of (λ t. blank) ∣ run begins_word is_wordy word ∣ run is_digit is_digit number
    ∣ after_byte 40 (closed 42 42 41 comment) ∣ one_text signs sign

abbrev pub is_sign : Text → Piece → Bool
is_sign s blank = false
is_sign s comment = false
is_sign s (word w) = false
is_sign s (number d) = false
is_sign s (sign t) = same s t

-- `(` directly before `*`: they always begin a comment and are never two signs
abbrev pub opens_comment : List Piece → Bool
opens_comment [] = false
opens_comment (p ∷ []) = false
opens_comment (p ∷ q ∷ ps) = is_sign (codes "(") p && is_sign (codes "*") q || opens_comment (q ∷ ps)

pub record Token : Type 0 where
  pub kind : TokenKind
  pub text : Text

-- the keywords, which are compared ignoring case
abbrev pub keywords : List (Text × TokenKind)
keywords = (codes "PROGRAM", kinds.Program) ∷ (codes "END_PROGRAM", kinds.EndProgram) ∷ (codes "VAR", kinds.Var)
    ∷ (codes "CONSTANT", kinds.Constant) ∷ (codes "VAR_INPUT", kinds.VarInput) ∷ (codes "VAR_OUTPUT", kinds.VarOutput)
    ∷ (codes "END_VAR", kinds.EndVar) ∷ (codes "BOOL", kinds.Bool) ∷ (codes "LINT", kinds.Lint) ∷ (codes "TRUE", kinds.True)
    ∷ (codes "FALSE", kinds.False) ∷ (codes "IF", kinds.If) ∷ (codes "THEN", kinds.Then) ∷ (codes "ELSIF", kinds.Elsif)
    ∷ (codes "ELSE", kinds.Else) ∷ (codes "END_IF", kinds.EndIf) ∷ (codes "WHILE", kinds.While) ∷ (codes "DO", kinds.Do)
    ∷ (codes "END_WHILE", kinds.EndWhile) ∷ (codes "NOT", kinds.Not) ∷ (codes "AND", kinds.And) ∷ (codes "XOR", kinds.Xor)
    ∷ (codes "OR", kinds.Or) ∷ (codes "MOD", kinds.Mod) ∷ (codes "ABS", kinds.Abs) ∷ (codes "MIN", kinds.Min)
    ∷ (codes "MAX", kinds.Max) ∷ (codes "SEL", kinds.Sel) ∷ []

-- the other reserved words
abbrev pub reserved : List Text
reserved = codes "DINT" ∷ codes "AT" ∷ codes "CASE" ∷ codes "OF" ∷ codes "END_CASE" ∷ codes "FOR" ∷ codes "TO" ∷ codes "BY"
    ∷ codes "END_FOR" ∷ codes "REPEAT" ∷ codes "UNTIL" ∷ codes "END_REPEAT" ∷ codes "EXIT" ∷ codes "RETURN"
    ∷ codes "FUNCTION" ∷ codes "FUNCTION_BLOCK" ∷ codes "ARRAY" ∷ codes "STRUCT" ∷ codes "STRING" ∷ codes "REAL"
    ∷ codes "LREAL" ∷ codes "TIME" ∷ codes "TYPE" ∷ []

-- the kind that a table has for a word, or another one
abbrev pub in_table : List (Text × TokenKind) → Text → TokenKind → TokenKind
in_table [] w other = other
in_table (p ∷ ps) w other = if same_name p.0 w then p.1 else in_table ps w other

-- no two underscores adjoin, and the last byte is none
abbrev pub is_identifier : Text → Bool
is_identifier [] = true
is_identifier (b ∷ []) = not (b == 95)
is_identifier (a ∷ b ∷ w) = not (a == 95 && b == 95) && is_identifier (b ∷ w)

abbrev pub kind_of_word : Text → TokenKind
kind_of_word w = in_table keywords w
    (if list_any (λ r. same_name r w) reserved then kinds.Outside else (if is_identifier w then kinds.Name else kinds.Outside))

abbrev pub kind_of_sign_in : List (Text × TokenKind) → Text → TokenKind
kind_of_sign_in [] s = kinds.Outside
kind_of_sign_in (p ∷ ps) s = if same p.0 s then p.1 else kind_of_sign_in ps s

abbrev pub kind_of_sign : Text → TokenKind
kind_of_sign = kind_of_sign_in sign_kinds

abbrev pub number_of : Text → ℕ
number_of = digits_from 0

abbrev pub greatest : ℕ
greatest = 9223372036854775807

-- a number above the greatest is in no program
abbrev pub kind_of_number : Text → TokenKind
kind_of_number d = if nat_le (number_of d) greatest then kinds.Literal else kinds.Outside

abbrev pub token_of : Piece → Option Token
token_of blank = None
token_of comment = None
token_of (word w) = Some (record { kind = kind_of_word w; text = w })
token_of (number d) = Some (record { kind = kind_of_number d; text = d })
token_of (sign s) = Some (record { kind = kind_of_sign s; text = s })

-- the text is these pieces, each the longest at its place, and the tokens are theirs
pub record Tokens (text : Text) (tokens : List Token) : Type 0 where
  pub pieces : List Piece
  pub cut : Pieces piece pieces text
  pub closed : opens_comment pieces ≡ false
  pub are : tokens ≡ filter_map token_of pieces
