-- What a token of a text is spelled.
use Rattle.std.specs.Prelude.{ℕ, ◌-◌, Bool, ◌==◌, nat_le, [], ◌∷◌, take, drop, if◌then◌else◌}
use Rattle.grammar.specs.Pieces.{Text}
use Rattle.cif_lex.specs.declared.token.Token.{Token}
use Rattle.cif_lex.specs.Tokens.{number_of, greatest_number}

-- the bytes of a token
unfoldable pub bytes_of : Text → Token → Text
bytes_of text t = take (t.span.to - t.span.from) (drop t.span.from text)

abbrev pub without_dollar : Text → Text
without_dollar [] = []
without_dollar (b ∷ bs) = if b == 36 then bs else b ∷ bs

-- an identifier without the `$` that may stand before it
unfoldable pub spelling : Text → Token → Text
spelling text t = without_dollar (bytes_of text t)

-- the number that a token stands for
unfoldable pub value : Text → Token → ℕ
value text t = number_of (bytes_of text t)

-- whether it is at most the greatest number; each number among the tokens of a text is
unfoldable pub is_small : Text → Token → Bool
is_small text t = nat_le (number_of (bytes_of text t)) greatest_number
