-- A token that is read as a literal is one, and so is a name.
use Rattle.std.proofs.Common.{◌≡◌, true, List, [], ◌∷◌, Some, None, refl, sym, ap, ◌∙◌, inl, inr}
use Rattle.grammar.specs.Lang.{has}
use Rattle.grammar.specs.Pieces.{Text}
use Rattle.grammar.specs.Reader.{Read, and_then, one_at}
use Rattle.grammar.proofs.Plain.{took, took_value, if_some}
use Rattle.st_ast.specs.Tokens.{Token}
use Rattle.st_ast.specs.declared.kinds.TokenKind.{TokenKind}
use Rattle.st_ast.specs.declared.kinds.TokenKind.TheVariants as kinds
use Rattle.st_ast.specs.Grammar.{code, sort, text_of}
use Rattle.st_read.specs.Reading.{first, identifier_at}

only_literal : (kind : TokenKind) → has (first kinds.Literal) (code kind) ≡ true → kind ≡ kinds.Literal
only_literal kinds.Literal e = refl
only_literal other e = absurd cc

only_name : (kind : TokenKind) → has (first kinds.Name) (code kind) ≡ true → kind ≡ kinds.Name
only_name kinds.Name e = refl
only_name other e = absurd cc

kind_is : (kind : TokenKind) → ((other : TokenKind) → has (first kind) (code other) ≡ true → other ≡ kind) → (ts : List Token) (t : Token) (rest : List Token)
    → one_at sort (first kind) ts ≡ Some (t, rest) → t.kind ≡ kind
unfolding one_at
kind_is kind only [] t rest e = absurd cc
kind_is kind only (u ∷ ts) t rest e =
    elim (if_some (has (first kind) (sort u)) (took u ts) None (took t rest) e) [
      | inl w ↦ let same : u ≡ t = took_value u t ts rest w.1 in ap (λ (v : Token). v.kind) (sym same) ∙ only u.kind w.0
      | inr w ↦ absurd (let g = w.1 in cc)
    ]

pub literal_is : (ts : List Token) (t : Token) (rest : List Token) → one_at sort (first kinds.Literal) ts ≡ Some (t, rest) → t.kind ≡ kinds.Literal
literal_is ts t rest e = kind_is kinds.Literal only_literal ts t rest e

-- a name that is taken is read as its letters
pub identifier_read : (ts rest : List Token) (t : Token) (x : Text) → one_at sort (first kinds.Name) ts ≡ Some (t, rest) → (t.kind ≡ kinds.Name → x ≡ t.text) → identifier_at ts ≡ Some (x, rest)
unfolding identifier_at
identifier_read ts rest t x e letters =
    ap (λ (o : Read Token Token). and_then o (λ a us. Some (text_of a, us))) e ∙ ap (λ (y : Text). Some (y, rest)) (sym (letters (kind_is kinds.Name only_name ts t rest e)))
