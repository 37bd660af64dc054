-- Helper of the code: what stands at the front of a text, found by its first bytes.
use Rattle.std.specs.Prelude.{◌≡◌, ℕ, Bool, ◌&&◌, ◌==◌, nat_le, [], ◌∷◌, Option, Some, None, option_map, Result, Ok, Err, if◌then◌else◌}
use Rattle.std.specs.Option.{option_or}
use Rattle.std.specs.Borrow.{Bor}
use Rattle.grammar.specs.Pieces.{Text, run_of, rest_after}
use Rattle.grammar.specs.Classes.{letter, digit, wordy}
use Rattle.cif_lex.specs.declared.token.TokenKind.{TokenKind}
use Rattle.cif_lex.specs.declared.token.TokenKind.TheVariants.{Id, Number, Sign}
use Rattle.cif_lex.specs.declared.token.Word.{Word}
use Rattle.cif_lex.specs.declared.token.Mark.{Mark}
use Rattle.cif_lex.specs.declared.token.Mark.TheVariants as m
use Rattle.cif_lex.specs.declared.found.Fault.{Fault}
use Rattle.cif_lex.specs.declared.found.Fault.TheVariants as f
use Rattle.cif_lex.specs.declared.error.LexErr.{LexErr}
use Rattle.cif_lex.specs.declared.error.LexErr.TheVariants as err
use Rattle.grammar.specs.Bytes.{is_blank}
use Rattle.cif_lex.specs.Tokens.{is_zero, is_leading, is_in_line, find_text, reserved, kind_of_word, number_of, greatest_number}

-- the kind of a token, or none for a blank or a comment, and the text after it
abbrev pub Found : Type 0
Found = Result (Option TokenKind × Text) Fault

-- what a reader of the code returned, and what is found
abbrev pub Finds : Result (Option TokenKind × Bor Text) Fault → Found → Type 0
Finds (Ok x) found = found ≡ Ok (x.0, x.1.now)
Finds (Err e) found = found ≡ Err e

-- the error for a fault at a place
abbrev pub refusal_of : Fault → ℕ → LexErr
refusal_of f.BadByte at = err.BadByte at
refusal_of f.NumberTooBig at = err.NumberTooBig at
refusal_of f.OpenComment at = err.OpenComment at

-- ---- words and numbers

unfoldable pub reserved_word : Text → Option Word
reserved_word t = find_text reserved t

abbrev pub word_found : Text × Text → Found
word_found w = Ok (Some (kind_of_word (reserved_word w.0)), w.1)

-- the text after a `$`
unfoldable pub escaped_found : Text → Found
escaped_found [] = Err f.BadByte
escaped_found (b ∷ text) = if letter b then Ok (Some Id, (run_of wordy (b ∷ text)).1) else Err f.BadByte

unfoldable pub is_small : Text → Bool
is_small digits = nat_le (number_of digits) greatest_number

abbrev pub number_found : Text × Text → Found
number_found n = if is_small n.0 then Ok (Some Number, n.1) else Err f.NumberTooBig

-- ---- comments

-- the text after the first `*/`
abbrev pub after_close : Text → Option Text
after_close = rest_after 42 47

abbrev pub closed_found : Option Text → Found
closed_found None = Err f.OpenComment
closed_found (Some rest) = Ok (None, rest)

-- the text after a `/`
unfoldable pub slash_found : Text → Found
slash_found [] = Err f.BadByte
slash_found (b ∷ text) =
    if b == 47 then Ok (None, (run_of is_in_line text).1)
    else (if b == 42 then closed_found (after_close text) else Err f.BadByte)

-- ---- signs

abbrev pub single : ℕ → Option Mark
single b =
    if b == 46 then Some m.Dot else (if b == 44 then Some m.Comma else (if b == 59 then Some m.Semicolon
    else (if b == 58 then Some m.Colon else (if b == 40 then Some m.OpenParen else (if b == 41 then Some m.CloseParen
    else (if b == 91 then Some m.OpenBracket else (if b == 93 then Some m.CloseBracket
    else (if b == 123 then Some m.OpenBrace else (if b == 125 then Some m.CloseBrace
    else (if b == 43 then Some m.Plus else (if b == 45 then Some m.Minus else (if b == 42 then Some m.Star
    else (if b == 61 then Some m.Equal else (if b == 60 then Some m.Less else (if b == 62 then Some m.Greater
    else (if b == 33 then Some m.Exclamation else (if b == 63 then Some m.Question else None)))))))))))))))))

-- two bytes as one sign
abbrev pub pair : ℕ → ℕ → Option Mark
pair a b =
    if a == 58 && b == 61 then Some m.Assign else (if a == 46 && b == 46 then Some m.Range
    else (if a == 33 && b == 61 then Some m.NotEqual else (if a == 60 && b == 61 then Some m.LessEqual
    else (if a == 62 && b == 61 then Some m.GreaterEqual else (if a == 61 && b == 62 then Some m.Implies else None)))))

abbrev pub with_rest : Text → Option Mark → Option (Mark × Text)
with_rest rest o = option_map (λ s. (s, rest)) o

-- a sign of three bytes, one of two, and one of one byte, by the first byte and the text after it
unfoldable pub triple_of : ℕ → Text → Option (Mark × Text)
triple_of a [] = None
triple_of a (b ∷ []) = None
triple_of a (b ∷ c ∷ text) = if a == 60 && (b == 61 && c == 62) then Some (m.Iff, text) else None

unfoldable pub double_of : ℕ → Text → Option (Mark × Text)
double_of a [] = None
double_of a (b ∷ text) = with_rest text (pair a b)

unfoldable pub sign_of : ℕ → Text → Option (Mark × Text)
sign_of a text = option_or (triple_of a text) (option_or (double_of a text) (with_rest text (single a)))

abbrev pub sign_found : Option (Mark × Text) → Found
sign_found None = Err f.BadByte
sign_found (Some s) = Ok (Some (Sign s.0), s.1)

-- ---- all

unfoldable pub found_of : Text → Found
found_of [] = Err f.BadByte
found_of (b ∷ text) =
    if is_blank b then Ok (None, text)
    else (if letter b then word_found (run_of wordy (b ∷ text))
    else (if b == 36 then escaped_found text
    else (if is_zero b then Ok (Some Number, text)
    else (if is_leading b then number_found (run_of digit (b ∷ text))
    else (if b == 47 then slash_found text
    else sign_found (sign_of b text))))))
