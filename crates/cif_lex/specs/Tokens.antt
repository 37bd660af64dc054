-- The tokens of a source (CIF 3 language reference, "Lexical syntax"): a text is blanks, comments, words, numbers and
-- signs one after the other, each the longest that begins at its place, and all but the blanks and comments are its tokens.
use Rattle.std.specs.Prelude.{◌≡◌, ℕ, ◌+◌, ◌-◌, ◌*◌, ◌≤◌, ◌<◌, Bool, true, false, not, ◌||◌, ◌&&◌, ◌==◌, nat_le, List, [], ◌∷◌, ◌++◌, codes, length, map, All, Option, Some, None, if◌then◌else◌}
use Rattle.grammar.specs.Bytes.{is_blank, begins_word, is_digit, is_wordy, none_of, digits_from}
use Rattle.grammar.specs.Pieces.{Text, Kinds, ◌∣◌, IsLongest, Pieces, Begun, run, after_byte, closed, one_text, same}
use Rattle.cif_lex.specs.declared.token.Token.{Token}
use Rattle.cif_lex.specs.declared.token.TokenKind.{TokenKind}
use Rattle.cif_lex.specs.declared.token.TokenKind.TheVariants.{Id, Reserved, Number, Sign}
use Rattle.cif_lex.specs.declared.token.Word.{Word}
use Rattle.cif_lex.specs.declared.token.Word.TheVariants as w
use Rattle.cif_lex.specs.declared.token.Mark.{Mark}
use Rattle.cif_lex.specs.declared.token.Mark.TheVariants as m
use Rattle.cif_lex.specs.declared.error.LexErr.{LexErr}
use Rattle.cif_lex.specs.declared.error.LexErr.TheVariants as err

-- ---- pieces

-- `escaped` is a word with `$` before it. Each is made with its text, an escaped word with the text after the `$`.
pub data Piece : Type 0 where
  blank comment : Piece
  word escaped number sign : Text → Piece

abbrev pub is_zero : ℕ → Bool
is_zero b = b == 48

-- a digit that begins a number of more than one digit
abbrev pub is_leading : ℕ → Bool
is_leading b = nat_le 49 b && nat_le b 57

abbrev pub is_slash : ℕ → Bool
is_slash b = b == 47

-- no line feed
abbrev pub is_in_line : ℕ → Bool
is_in_line b = not (b == 10)

-- the signs with their names, the longer ones first
abbrev pub marks : List (Text × Mark)
marks = (codes "<=>", m.Iff)
    ∷ (codes "..", m.Range) ∷ (codes ":=", m.Assign) ∷ (codes "!=", m.NotEqual) ∷ (codes "<=", m.LessEqual)
    ∷ (codes ">=", m.GreaterEqual) ∷ (codes "=>", m.Implies)
    ∷ (codes ".", m.Dot) ∷ (codes ",", m.Comma) ∷ (codes ";", m.Semicolon) ∷ (codes ":", m.Colon)
    ∷ (codes "(", m.OpenParen) ∷ (codes ")", m.CloseParen) ∷ (codes "[", m.OpenBracket) ∷ (codes "]", m.CloseBracket)
    ∷ (codes "{", m.OpenBrace) ∷ (codes "}", m.CloseBrace) ∷ (codes "+", m.Plus) ∷ (codes "-", m.Minus) ∷ (codes "*", m.Star)
    ∷ (codes "=", m.Equal) ∷ (codes "<", m.Less) ∷ (codes ">", m.Greater) ∷ (codes "!", m.Exclamation)
    ∷ (codes "?", m.Question) ∷ []

abbrev pub signs : List Text
signs = map (λ (e : Text × Mark). e.0) marks

-- A blank byte; a word; `$` and a word; `0`; a digit 1 to 9 and more digits; `//` and the rest of the line; `/*` and the
-- bytes up to the next `*/`; a sign.
unfoldable pub piece : Kinds Piece
piece = run is_blank none_of (λ t. blank)
    ∣ run begins_word is_wordy word
    ∣ after_byte 36 (run begins_word is_wordy escaped)
    ∣ run is_zero none_of number
    ∣ run is_leading is_digit number
    ∣ after_byte 47 (run is_slash is_in_line (λ t. comment) ∣ closed 42 42 47 comment)
    ∣ one_text signs sign

-- ---- kinds of token

-- what a table has for a text
abbrev pub find_text : {A : Type 0} → List (Text × A) → Text → Option A
find_text [] t = None
find_text (e ∷ es) t = if same e.0 t then Some e.1 else find_text es t

abbrev pub unused : List Text → List (Text × Word)
unused ts = map (λ t. (t, w.Unused)) ts

-- the reserved words of the grammar, and those that are reserved without use
abbrev pub reserved : List (Text × Word)
reserved = (codes "abs", w.Abs) ∷ (codes "alg", w.Alg) ∷ (codes "alphabet", w.Alphabet) ∷ (codes "and", w.And)
    ∷ (codes "automaton", w.Automaton) ∷ (codes "bool", w.Bool) ∷ (codes "const", w.Const)
    ∷ (codes "controllable", w.Controllable) ∷ (codes "def", w.Def) ∷ (codes "disables", w.Disables)
    ∷ (codes "disc", w.Disc) ∷ (codes "div", w.Div) ∷ (codes "do", w.Do) ∷ (codes "edge", w.Edge)
    ∷ (codes "elif", w.Elif) ∷ (codes "else", w.Else) ∷ (codes "end", w.End) ∷ (codes "enum", w.Enum)
    ∷ (codes "equation", w.Equation) ∷ (codes "event", w.Event) ∷ (codes "false", w.False) ∷ (codes "goto", w.Goto)
    ∷ (codes "group", w.Group) ∷ (codes "if", w.If) ∷ (codes "initial", w.Initial) ∷ (codes "input", w.Input)
    ∷ (codes "int", w.Int) ∷ (codes "invariant", w.Invariant) ∷ (codes "location", w.Location)
    ∷ (codes "marked", w.Marked) ∷ (codes "max", w.Max) ∷ (codes "min", w.Min) ∷ (codes "mod", w.Mod)
    ∷ (codes "monitor", w.Monitor) ∷ (codes "needs", w.Needs) ∷ (codes "not", w.Not) ∷ (codes "or", w.Or)
    ∷ (codes "plant", w.Plant) ∷ (codes "requirement", w.Requirement) ∷ (codes "supervisor", w.Supervisor)
    ∷ (codes "true", w.True) ∷ (codes "type", w.Type) ∷ (codes "uncontrollable", w.Uncontrollable)
    ∷ (codes "void", w.Void) ∷ (codes "when", w.When)
    ∷ unused (codes "any" ∷ codes "cont" ∷ codes "der" ∷ codes "dict" ∷ codes "dist" ∷ codes "func" ∷ codes "import"
    ∷ codes "in" ∷ codes "list" ∷ codes "namespace" ∷ codes "now" ∷ codes "pow" ∷ codes "print" ∷ codes "real"
    ∷ codes "self" ∷ codes "set" ∷ codes "string" ∷ codes "sub" ∷ codes "switch" ∷ codes "tau" ∷ codes "time"
    ∷ codes "tuple" ∷ codes "urgent" ∷ [])

abbrev pub kind_of_word : Option Word → TokenKind
kind_of_word None = Id
kind_of_word (Some r) = Reserved r

abbrev pub kind_of_sign : Option Mark → Option TokenKind
kind_of_sign None = None
kind_of_sign (Some s) = Some (Sign s)

-- the kind of the token that a piece is, or none where it is no token
unfoldable pub kind_of : Piece → Option TokenKind
kind_of blank = None
kind_of comment = None
kind_of (word t) = Some (kind_of_word (find_text reserved t))
kind_of (escaped t) = Some Id
kind_of (number t) = Some Number
kind_of (sign t) = kind_of_sign (find_text marks t)

-- ---- numbers

unfoldable pub number_of : Text → ℕ
number_of digits = digits_from 0 digits

abbrev pub greatest_number : ℕ
greatest_number = 2147483647

-- the number that digits stand for, where it isn't too big
unfoldable pub small_number : Text → Option ℕ
small_number digits = if nat_le (number_of digits) greatest_number then Some (number_of digits) else None

-- a piece that is no number above the greatest
unfoldable pub IsInRange : Piece → Type 0
IsInRange blank = Unit {0}
IsInRange comment = Unit {0}
IsInRange (word t) = Unit {0}
IsInRange (escaped t) = Unit {0}
IsInRange (number t) = number_of t ≤ greatest_number
IsInRange (sign t) = Unit {0}

-- ---- tokens

-- a piece with the number of its bytes
abbrev pub sized : {P : Type 0} → Kinds P → Kinds (P × ℕ)
sized r p x = r p.0 x × (p.1 ≡ length x)

abbrev pub with_token : Option TokenKind → ℕ → ℕ → List Token → List Token
with_token None at size tokens = tokens
with_token (Some kind) at size tokens = record { kind = kind; span = record { from = at; to = at + size } } ∷ tokens

-- the tokens among pieces of which the first begins at this place
abbrev pub tokens_at : ℕ → List (Piece × ℕ) → List Token
tokens_at at [] = []
tokens_at at (p ∷ ps) = with_token (kind_of p.0) at p.1 (tokens_at (at + p.1) ps)

-- The text is pieces, each the longest that begins at its place, no number among them is too big, and the tokens are
-- theirs.
pub record Tokens (text : Text) (tokens : List Token) : Type 0 where
  pub pieces : List (Piece × ℕ)
  pub cut : Pieces (sized piece) pieces text
  pub in_range : All (λ p. IsInRange p.0) pieces
  pub are : tokens ≡ tokens_at 0 pieces

-- the spans lie between these places, each after the one before it
abbrev pub SpansRise : ℕ → List Token → ℕ → Type 0
SpansRise at [] end = at ≤ end
SpansRise at (t ∷ ts) end = (at ≤ t.span.from) × (t.span.from < t.span.to) × SpansRise t.span.to ts end

-- ---- refusals

-- The bytes before the place are such pieces, with numbers of any size.
pub record Front (text : Text) (at : ℕ) : Type 0 where
  pub pieces : List (Piece × ℕ)
  pub rest : Text
  pub cut : Begun (sized piece) pieces text rest
  pub place : at + length rest ≡ length text

-- a byte stands there, and neither a piece nor `/*` begins there
pub record BadByteDue (text : Text) (at : ℕ) : Type 0 where
  pub front : Front text at
  pub within : at < length text
  pub no_piece : (p : Piece) (x more : Text) → piece p x → front.rest ≡ x ++ more → ⊥
  pub no_comment : (more : Text) → front.rest ≡ 47 ∷ 42 ∷ more → ⊥

-- a number above the greatest begins there
pub record NumberTooBigDue (text : Text) (at : ℕ) : Type 0 where
  pub front : Front text at
  pub digits : Text
  pub more : Text
  pub is_number : piece (number digits) digits
  pub longest : IsLongest piece digits front.rest
  pub there : front.rest ≡ digits ++ more
  pub too_big : greatest_number < number_of digits

-- `/*` begins there, and no `*/` comes after it
pub record OpenCommentDue (text : Text) (at : ℕ) : Type 0 where
  pub front : Front text at
  pub more : Text
  pub there : front.rest ≡ 47 ∷ 42 ∷ more
  pub open_end : (inner after : Text) → more ≡ inner ++ (42 ∷ 47 ∷ after) → ⊥

-- why a text is refused
abbrev pub RefusalDue : Text → LexErr → Type 0
RefusalDue text (err.BadByte at) = BadByteDue text at
RefusalDue text (err.NumberTooBig at) = NumberTooBigDue text at
RefusalDue text (err.OpenComment at) = OpenCommentDue text at
RefusalDue text err.Memory = Unit {0}
