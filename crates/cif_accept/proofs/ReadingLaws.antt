-- A text has the tokens that are computed from it.
use Rattle.std.proofs.Common.{◌≡◌, ℕ, zero, suc, ◌-◌, List, [], ◌∷◌, ◌++◌, length, Option, Some, None, Ok, Err, refl, subst}
use Rattle.grammar.specs.Pieces.{Text}
use Rattle.cif_lex.specs.declared.token.Token.{Token}
use Rattle.cif_lex.specs.Tokens.{Tokens}
use Rattle.cif_lex.specs.Cutting.{Found, found_of}
use Rattle.cif_lex.proofs.StepLaws.{Taken, taken_none, taken_skip, taken_token, taken_all}

-- ---- tokens

-- after these tokens, what is found at the front of what is left, and then what is found after it
abbrev found_next : (Text → List Token → Option (List Token)) → Text → Text → List Token → Found → Option (List Token)
found_next more text rest tokens (Err e) = None
found_next more text rest tokens (Ok (None, left)) = more left tokens
found_next more text rest tokens (Ok (Some kind, left)) = more left (tokens ++ record { kind = kind; span = record { from = length text - length rest; to = length text - length left } } ∷ [])

-- Each token has a byte, so the number of bytes bounds the turns.
abbrev tokens_after : ℕ → Text → Text → List Token → Option (List Token)
tokens_after n text [] tokens = Some tokens
tokens_after zero text (b ∷ rest) tokens = None
tokens_after (suc n) text (b ∷ rest) tokens = found_next (tokens_after n text) text (b ∷ rest) tokens (found_of (b ∷ rest))

abbrev tokens_in : Text → Option (List Token)
tokens_in text = tokens_after (length text) text text []

tokens_go_on : (n : ℕ) (text rest : Text) (tokens all : List Token) → Taken text rest tokens → tokens_after n text rest tokens ≡ Some all → Tokens text all
tokens_go_on n text [] tokens all t e = let same : tokens ≡ all = cc in subst (λ ts. Tokens text ts) same (taken_all text [] tokens t refl)
tokens_go_on zero text (b ∷ rest) tokens all t e = absurd cc
tokens_go_on (suc n) text (b ∷ rest) tokens all t e = go (found_of (b ∷ rest)) refl e (tokens_go_on n text)
  where
    go : (f : Found) → found_of (b ∷ rest) ≡ f → found_next (tokens_after n text) text (b ∷ rest) tokens f ≡ Some all
        → ((left : Text) (ts us : List Token) → Taken text left ts → tokens_after n text left ts ≡ Some us → Tokens text us) → Tokens text all
    go (Err f) is g ih = absurd cc
    go (Ok (None, left)) is g ih = ih left tokens all (taken_skip text (b ∷ rest) left tokens None t is refl) g
    go (Ok (Some kind, left)) is g ih =
        ih left (tokens ++ record { kind = kind; span = record { from = length text - length (b ∷ rest); to = length text - length left } } ∷ []) all
        (taken_token text (b ∷ rest) left tokens (Some kind) kind t is refl) g

pub computed_tokens : {text : Text} {tokens : List Token} → tokens_in text ≡ Some tokens → Tokens text tokens
computed_tokens {text = text} {tokens = tokens} e = tokens_go_on (length text) text text [] tokens (taken_none text) e
