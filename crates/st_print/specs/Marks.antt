-- Helper of the proofs: the tokens of what is printed, mark by mark, and the marks that are printed so that these are the
-- tokens of the text.
use Rattle.std.specs.Prelude.{◌≡◌, Bool, true, List, [], ◌∷◌, codes, decimal, Option, Some, None, filter_map}
use Rattle.std.specs.List.{list_any}
use Rattle.grammar.specs.Pieces.{Text, same}
use Rattle.st_ast.specs.Tokens.{Token, kind_of_word, kind_of_number, kind_of_sign}
use Rattle.st_ast.specs.Spelled.{is_word_text}
use Rattle.st_print.specs.Layout.{Mark, line, word, digits, sign, dash, times, call}

-- a line break gives none
abbrev pub token_of_mark : Mark → Option Token
token_of_mark (line n) = None
token_of_mark (word w) = Some (record { kind = kind_of_word w; text = w })
token_of_mark (digits n) = Some (record { kind = kind_of_number (decimal n); text = decimal n })
token_of_mark (sign s) = Some (record { kind = kind_of_sign s; text = s })
token_of_mark dash = Some (record { kind = kind_of_sign (codes "-"); text = codes "-" })
token_of_mark times = Some (record { kind = kind_of_sign (codes "*"); text = codes "*" })
token_of_mark call = Some (record { kind = kind_of_sign (codes "("); text = codes "(" })

abbrev pub tokens_of : List Mark → List Token
tokens_of ms = filter_map token_of_mark ms

-- the signs that are printed; `*` has a mark of its own
abbrev pub mark_signs : List Text
mark_signs = codes ":=" ∷ codes ".." ∷ codes "<>" ∷ codes "<=" ∷ codes ">=" ∷ codes ";" ∷ codes ":" ∷ codes "(" ∷ codes ")"
    ∷ codes "," ∷ codes "+" ∷ codes "-" ∷ codes "/" ∷ codes "=" ∷ codes "<" ∷ codes ">" ∷ []

abbrev pub is_mark : Mark → Bool
is_mark (line n) = true
is_mark (word w) = is_word_text w
is_mark (digits n) = true
is_mark (sign s) = list_any (λ t. same s t) mark_signs
is_mark dash = true
is_mark times = true
is_mark call = true

-- each word is spelled as one, and each sign is one that is printed
abbrev pub IsMark : Mark → Type 0
IsMark m = is_mark m ≡ true

abbrev pub AreMarks : List Mark → Type 0
AreMarks [] = Unit {0}
AreMarks (m ∷ ms) = IsMark m × AreMarks ms
