-- Helper of the code: a token as the place where it begins in its text, with its kind and for a name its length.
use Rattle.std.specs.Prelude.{◌≡◌, ◌<◌, ℕ, length, List, [], ◌∷◌, map, drop, Option, Some, None, Ok, Err, if◌then◌else◌}
use Rattle.grammar.specs.Bytes.{is_blank}
use Rattle.grammar.specs.Pieces.{Text}
use Rattle.st_ast.specs.Tokens.{Token}
use Rattle.st_ast.specs.declared.kinds.TokenKind.TheVariants as kinds
use Rattle.st_read.specs.Lexing.{Found, front_of}
use Rattle.st_read.specs.declared.marks.Mark.{Mark}

-- what follows the blanks at the front of a text
unfoldable pub after_blanks : Text → Text
after_blanks [] = []
after_blanks (b ∷ text) = if is_blank b then after_blanks text else b ∷ text

-- a token of no production stands where a text has none
abbrev pub token_or_none : Option Token → Token
token_or_none None = record { kind = kinds.Outside; text = [] }
token_or_none (Some t) = t

abbrev pub found_token : Found → Token
found_token (Err fault) = record { kind = kinds.Outside; text = [] }
found_token (Ok w) = token_or_none w.0

-- the token that begins at a place
unfoldable pub token_at : Text → ℕ → Token
token_at text at = found_token (front_of (drop at text))

abbrev pub token_of : Text → Mark → Token
token_of text m = token_at text m.at

abbrev pub tokens_of : Text → List Mark → List Token
tokens_of text = map (token_of text)

-- the kind of a mark is that of its token, and so is the length of one for a name, unless there is no room for it
abbrev pub IsMark : Text → Mark → Type 0
IsMark text m = (m.kind ≡ (token_at text m.at).kind) × (m.kind ≡ kinds.Name → m.length < 65535 → m.length ≡ length (token_at text m.at).text)
