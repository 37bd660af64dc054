-- The sign at the front of a text, found with its kind.
use Rattle.std.proofs.Common.{◌≡◌, List, [], ◌∷◌, map, Option, Some, None, Ok, Err, refl, sym, ap, subst, ◌∙◌}
use Rattle.std.specs.Prelude.{option_map}
use Rattle.grammar.specs.Pieces.{Text, strip}
use Rattle.st_ast.specs.Tokens.{sign_kinds, kind_of_sign}
use Rattle.st_ast.specs.declared.kinds.TokenKind.{TokenKind}
use Rattle.st_read.specs.Lexing.{sign_in, sign_of, sign_kind, with_sign, with_entry, entry_in, signed}
use Rattle.st_read.specs.declared.found.Fault.TheVariants as f

abbrev Entry : Type 0
Entry = Text × TokenKind

-- ---- a sign is found as its entry is

sign_is : (ps : List Entry) (text : Text) → sign_in (map (λ (p : Entry). p.0) ps) text ≡ option_map (λ (w : Entry × Text). (w.0.0, w.1)) (entry_in ps text)
sign_is [] text = refl
sign_is (p ∷ ps) text = go (strip p.0 text) (sign_is ps text)
  where
    go : (o : Option Text) → sign_in (map (λ (q : Entry). q.0) ps) text ≡ option_map (λ (w : Entry × Text). (w.0.0, w.1)) (entry_in ps text)
        → with_sign p.0 o (sign_in (map (λ (q : Entry). q.0) ps) text) ≡ option_map (λ (w : Entry × Text). (w.0.0, w.1)) (with_entry p o (entry_in ps text))
    go None e = e
    go (Some rest) e = refl

-- ---- the kind of a sign is that of its entry

abbrev Kinded : List Entry → Type 0
Kinded [] = Unit {0}
Kinded (p ∷ ps) = (kind_of_sign p.0 ≡ p.1) × Kinded ps

abbrev entry_or : Entry → Option (Entry × Text) → Entry
entry_or q None = q
entry_or q (Some w) = w.0

kind_is : (ps : List Entry) (text : Text) → Kinded ps → (p : Entry) (rest : Text) → entry_in ps text ≡ Some (p, rest) → kind_of_sign p.0 ≡ p.1
kind_is [] text k p rest e = absurd cc
kind_is (q ∷ ps) text k p rest e = go (strip q.0 text) e (kind_is ps text k.1 p rest)
  where
    go : (o : Option Text) → with_entry q o (entry_in ps text) ≡ Some (p, rest) → (entry_in ps text ≡ Some (p, rest) → kind_of_sign p.0 ≡ p.1) → kind_of_sign p.0 ≡ p.1
    go None h more = more h
    go (Some left) h more = subst (λ (r : Entry). kind_of_sign r.0 ≡ r.1) (ap (entry_or q) h) k.0

all_kinded : Kinded sign_kinds
all_kinded = (refl, (refl, (refl, (refl, (refl, (refl, (refl, (refl, (refl, (refl, (refl, (refl, (refl, (refl, (refl, (refl, (refl, (refl, tt))))))))))))))))))

-- what is told of the entry that stands at the front, in a table in which the signs of the text stand as among all
pub sign_found : (table : List Entry) (text s : Text) (kind : TokenKind) (rest : Text) → entry_in table text ≡ entry_in sign_kinds text
    → Some ((s, kind), rest) ≡ entry_in table text → signed (sign_of text) ≡ Ok (Some (record { kind = kind; text = s }), rest)
unfolding sign_of sign_kind
sign_found table text s kind rest all is =
    let e : entry_in sign_kinds text ≡ Some ((s, kind), rest) = sym (is ∙ all) in
    ap signed (sign_is sign_kinds text ∙ ap (option_map (λ (w : Entry × Text). (w.0.0, w.1))) e)
    ∙ ap (λ (t : TokenKind). Ok (Some (record { kind = t; text = s }), rest)) (kind_is sign_kinds text all_kinded (s, kind) rest e)

pub no_sign : (table : List Entry) (text : Text) → entry_in table text ≡ entry_in sign_kinds text → None ≡ entry_in table text → signed (sign_of text) ≡ Err f.BadByte
unfolding sign_of
no_sign table text all is = ap signed (sign_is sign_kinds text ∙ ap (option_map (λ (w : Entry × Text). (w.0.0, w.1))) (sym (is ∙ all)))
