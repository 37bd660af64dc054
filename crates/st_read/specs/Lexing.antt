-- Helper of the code: what stands at the front of a text, found by its first bytes.
use Rattle.std.specs.Prelude.{◌≡◌, ℕ, ◌≤◌, ◌==◌, ◌&&◌, Bool, false, List, [], ◌∷◌, All, Option, Some, None, Result, Ok, Err, option_map, nat_le, if◌then◌else◌}
use Rattle.std.specs.List.{list_any}
use Rattle.grammar.specs.Pieces.{Text, run_of, strip, rest_after}
use Rattle.st_ast.specs.Names.{same_name}
use Rattle.grammar.specs.Bytes.{is_blank}
use Rattle.grammar.specs.Classes.{letter, digit, wordy}
use Rattle.st_ast.specs.Tokens.{Token, Piece, blank, comment, word, number, sign, Tokens, signs, keywords, reserved, in_table, is_identifier, number_of, greatest, kind_of_sign}
use Rattle.st_ast.specs.declared.kinds.TokenKind.{TokenKind}
use Rattle.st_ast.specs.declared.kinds.TokenKind.TheVariants as kinds
use Rattle.st_read.specs.declared.found.Fault.{Fault}
use Rattle.st_read.specs.declared.found.Fault.TheVariants as f
use Rattle.st_read.specs.declared.error.StErr.{StErr}
use Rattle.st_read.specs.declared.error.StErr.TheVariants as err

-- a token, or none for a blank and for a comment, and the text after it
abbrev pub Found : Type 0
Found = Result (Option Token × Text) Fault

-- the fault that the code found
abbrev pub Halts : Fault → Found → Type 0
Halts f.BadByte found = found ≡ Err f.BadByte
Halts f.NumberTooBig found = found ≡ Err f.NumberTooBig
Halts f.OpenComment found = found ≡ Err f.OpenComment

-- the kind of a token in its place
abbrev pub kind_found : Found → Result (Option TokenKind × Text) Fault
kind_found (Err fault) = Err fault
kind_found (Ok w) = Ok (option_map (λ (t : Token). t.kind) w.0, w.1)

-- what the code returned, and what is found, of which it tells the kind
abbrev pub Finds : {X : Type 0} → (X → Option TokenKind × Text) → Result X Fault → Found → Type 0
Finds view (Ok x) found = kind_found found ≡ Ok (view x)
Finds view (Err e) found = Halts e found

-- the error for a fault at a place
abbrev pub refusal_of : Fault → ℕ → StErr
refusal_of f.BadByte at = err.StBadByte at
refusal_of f.NumberTooBig at = err.StNumberTooBig at
refusal_of f.OpenComment at = err.StOpenComment at

unfoldable pub is_reserved : Text → Bool
is_reserved w = list_any (λ r. same_name r w) reserved

-- the kind of a word that is not reserved
abbrev pub name_kind : Text → TokenKind
name_kind w = if is_identifier w then kinds.Name else kinds.Outside

-- the kind of a word that is no keyword
unfoldable pub other_kind : Text → TokenKind
other_kind w = if is_reserved w then kinds.Outside else name_kind w

unfoldable pub word_kind : Text → TokenKind
word_kind w = in_table keywords w (other_kind w)

unfoldable pub sign_kind : Text → TokenKind
sign_kind s = kind_of_sign s

abbrev pub worded : Text × Text → Found
worded w = Ok (Some (record { kind = word_kind w.0; text = w.0 }), w.1)

-- the number that digits stand for, where a program may have it
unfoldable pub value_in : Text → Option ℕ
value_in d = if nat_le (number_of d) greatest then Some (number_of d) else None

abbrev pub with_value : Text × Text → Option ℕ → Found
with_value w None = Err f.NumberTooBig
with_value w (Some n) = Ok (Some (record { kind = kinds.Literal; text = w.0 }), w.1)

abbrev pub numbered : Text × Text → Found
numbered w = with_value w (value_in w.0)

-- what follows the first `*)`
abbrev pub after_close : Text → Option Text
after_close = rest_after 42 41

abbrev pub commented : Option Text → Found
commented None = Err f.OpenComment
commented (Some rest) = Ok (None, rest)

abbrev pub with_sign : Text → Option Text → Option (Text × Text) → Option (Text × Text)
with_sign s None other = other
with_sign s (Some rest) other = Some (s, rest)

-- the first of the signs that stands at the front of a text, and what is left
abbrev pub sign_in : List Text → Text → Option (Text × Text)
sign_in [] text = None
sign_in (s ∷ ss) text = with_sign s (strip s text) (sign_in ss text)

-- the same with its kind, of signs with their kinds
abbrev pub with_entry : Text × TokenKind → Option Text → Option ((Text × TokenKind) × Text) → Option ((Text × TokenKind) × Text)
with_entry p None other = other
with_entry p (Some rest) other = Some (p, rest)

abbrev pub entry_in : List (Text × TokenKind) → Text → Option ((Text × TokenKind) × Text)
entry_in [] text = None
entry_in (p ∷ ps) text = with_entry p (strip p.0 text) (entry_in ps text)

unfoldable pub sign_of : Text → Option (Text × Text)
sign_of text = sign_in signs text

abbrev pub signed : Option (Text × Text) → Found
signed None = Err f.BadByte
signed (Some w) = Ok (Some (record { kind = sign_kind w.0; text = w.0 }), w.1)

-- whether `(*` comes
abbrev pub opens : Text → Bool
opens [] = false
opens (a ∷ []) = false
opens (a ∷ b ∷ text) = a == 40 && b == 42

-- what follows `(*`
abbrev pub inside : Text → Text
inside [] = []
inside (a ∷ []) = []
inside (a ∷ b ∷ text) = text

-- what stands at the front of a text
unfoldable pub front_of : Text → Found
front_of [] = Err f.BadByte
front_of (b ∷ text) = if is_blank b then Ok (None, text) else (if letter b then worded (run_of wordy (b ∷ text))
    else (if digit b then numbered (run_of digit (b ∷ text))
    else (if opens (b ∷ text) then commented (after_close (inside (b ∷ text))) else signed (sign_of (b ∷ text)))))

-- ---- all tokens

-- a piece that is no number above the greatest
unfoldable pub IsInRange : Piece → Type 0
IsInRange blank = Unit {0}
IsInRange comment = Unit {0}
IsInRange (word w) = Unit {0}
IsInRange (number d) = number_of d ≤ greatest
IsInRange (sign s) = Unit {0}

-- the tokens of a text in which no number is too big
pub record Lexes (text : Text) (tokens : List Token) : Type 0 where
  pub are_tokens : Tokens text tokens
  pub in_range : All IsInRange are_tokens.pieces
