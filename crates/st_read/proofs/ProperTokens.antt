-- The tokens of a text: names are identifiers, and numbers have literals.
use Rattle.std.proofs.Common.{◌≡◌, ◌==◌, ℕ, Bool, true, false, not, List, [], ◌∷◌, ◌++◌, refl, sym, subst, inl, inr, filter_map}
use Rattle.std.specs.Prelude.{nat_le, if◌then◌else◌}
use Rattle.std.specs.List.{list_all, list_any}
use Rattle.std.proofs.lemmas.Bool.{and_from}
use Rattle.grammar.specs.Pieces.{Text, AllAre, Pieces, one_text, same}
use Rattle.grammar.specs.Bytes.{begins_word, is_wordy}
use Rattle.grammar.proofs.Texts.{and_left, and_right}
use Rattle.st_ast.specs.Names.{same_name}
use Rattle.st_ast.specs.Tokens.{Token, Piece, blank, comment, word, number, sign, piece, signs, token_of, Tokens, kind_of_word, kind_of_sign, kind_of_sign_in, kind_of_number, number_of, greatest, keywords, reserved, in_table, is_identifier, sign_kinds}
use Rattle.st_ast.specs.declared.kinds.TokenKind.{TokenKind}
use Rattle.st_ast.specs.declared.kinds.TokenKind.TheVariants as kinds
use Rattle.st_ast.specs.Grammar.{code}
use Rattle.st_ast.specs.Spelled.{is_word_text, is_name}

pub record IsProper (t : Token) : Type 0 where
  pub name : (code kinds.Name == code t.kind) ≡ true → is_name t.text ≡ true
  pub number : (code kinds.Literal == code t.kind) ≡ true → nat_le (number_of t.text) greatest ≡ true

abbrev pub AreProper : List Token → Type 0
AreProper [] = Unit {0}
AreProper (t ∷ ts) = IsProper t × AreProper ts

pub proper_left : (xs ys : List Token) → AreProper (xs ++ ys) → AreProper xs
proper_left [] ys h = tt
proper_left (x ∷ xs) ys h = (h.0, proper_left xs ys h.1)

pub proper_right : (xs ys : List Token) → AreProper (xs ++ ys) → AreProper ys
proper_right [] ys h = h
proper_right (x ∷ xs) ys h = proper_right xs ys h.1

-- ---- words, numbers and signs

flipped : (b : Bool) → not b ≡ true → b ≡ false
flipped true e = absurd cc
flipped false e = refl

-- no kind that is given in either case is that one
not_either : (kind a c : TokenKind) (b : Bool) → not (code kind == code a) ≡ true → (code kind == code c) ≡ false → (code kind == code (if b then a else c)) ≡ false
not_either kind a c true e h = flipped (code kind == code a) e
not_either kind a c false e h = h

-- a table without a kind gives it to no text
abbrev lacks : TokenKind → List (Text × TokenKind) → Bool
lacks kind table = list_all (λ (e : Text × TokenKind). not (code kind == code e.1)) table

no_kind : (kind : TokenKind) (table : List (Text × TokenKind)) (w : Text) (other : TokenKind) → lacks kind table ≡ true → (code kind == code other) ≡ false → (code kind == code (in_table table w other)) ≡ false
no_kind kind [] w other all e = e
no_kind kind (p ∷ ps) w other all e =
    not_either kind p.1 (in_table ps w other) (same_name p.0 w) (and_left (not (code kind == code p.1)) (lacks kind ps) all)
    (no_kind kind ps w other (and_right (not (code kind == code p.1)) (lacks kind ps) all) e)

no_sign_kind : (kind : TokenKind) (table : List (Text × TokenKind)) (s : Text) → lacks kind table ≡ true → (code kind == code kinds.Outside) ≡ false → (code kind == code (kind_of_sign_in table s)) ≡ false
no_sign_kind kind [] s all e = e
no_sign_kind kind (p ∷ ps) s all e =
    not_either kind p.1 (kind_of_sign_in ps s) (same p.0 s) (and_left (not (code kind == code p.1)) (lacks kind ps) all)
    (no_sign_kind kind ps s (and_right (not (code kind == code p.1)) (lacks kind ps) all) e)

no_other_literal : (a b : Bool) → (code kinds.Literal == code (if a then kinds.Outside else (if b then kinds.Name else kinds.Outside))) ≡ false
no_other_literal true b = refl
no_other_literal false true = refl
no_other_literal false false = refl

no_literal_word : (w : Text) → (code kinds.Literal == code (kind_of_word w)) ≡ false
no_literal_word w = no_kind kinds.Literal keywords w _ refl
    (no_other_literal (list_any (λ r. same_name r w) reserved) (is_identifier w))

not_both : (b : Bool) {A : Type 0} → b ≡ false → b ≡ true → A
not_both b e f = absurd cc

word_proper : (w : Text) → is_word_text w ≡ true → IsProper (record { kind = kind_of_word w; text = w })
word_proper w good = record {
  name = λ e. and_from (is_word_text w) (code kinds.Name == code (kind_of_word w)) good e;
  number = λ e. not_both (code kinds.Literal == code (kind_of_word w)) (no_literal_word w) e;
}

number_proper : (d : Text) → IsProper (record { kind = kind_of_number d; text = d })
number_proper d = go (nat_le (number_of d) greatest) refl
  where
    go : (b : Bool) → nat_le (number_of d) greatest ≡ b → IsProper (record { kind = (if b then kinds.Literal else kinds.Outside); text = d })
    go true e = record { name = λ f. absurd cc; number = λ f. e }
    go false e = record { name = λ f. absurd cc; number = λ f. absurd cc }

sign_proper : (s : Text) → IsProper (record { kind = kind_of_sign s; text = s })
sign_proper s = record {
  name = λ e. not_both (code kinds.Name == code (kind_of_sign s)) (no_sign_kind kinds.Name sign_kinds s refl refl) e;
  number = λ e. not_both (code kinds.Literal == code (kind_of_sign s)) (no_sign_kind kinds.Literal sign_kinds s refl refl) e;
}

-- the words of a text are spelled as words
all_of_them : (f : ℕ → Bool) (t : Text) → AllAre f t → list_all f t ≡ true
all_of_them f [] h = refl
all_of_them f (b ∷ t) h = and_from (f b) (list_all f t) h.0 (all_of_them f t h.1)

no_word_sign : (ss : List Text) (w x : Text) → one_text ss sign (word w) x → ⊥
no_word_sign [] w x d = d
no_word_sign (s ∷ ss) w x (inl d) = let e = d.1 in cc
no_word_sign (s ∷ ss) w x (inr d) = no_word_sign ss w x d

pub word_spelled : (w x : Text) → piece (word w) x → is_word_text w ≡ true
unfolding piece
word_spelled w x (inl d) = let e = d.5 in absurd cc
word_spelled w x (inr (inl d)) =
    let is : word w ≡ word (d.0 ∷ d.1) = d.5 in
    let same : w ≡ d.0 ∷ d.1 = cc in
    subst (λ v. is_word_text v ≡ true) (sym same) (and_from (begins_word d.0) (list_all is_wordy d.1) d.2 (all_of_them is_wordy d.1 d.3))
word_spelled w x (inr (inr (inl d))) = let e = d.5 in absurd cc
word_spelled w x (inr (inr (inr (inl d)))) = let e = d.1.3 in absurd cc
word_spelled w x (inr (inr (inr (inr d)))) = absurd (no_word_sign signs w x d)

pieces_proper : (ps : List Piece) (text : Text) → Pieces piece ps text → AreProper (filter_map token_of ps)
pieces_proper [] text d = tt
pieces_proper (blank ∷ ps) text d = pieces_proper ps d.1 d.5
pieces_proper (comment ∷ ps) text d = pieces_proper ps d.1 d.5
pieces_proper (word w ∷ ps) text d = (word_proper w (word_spelled w d.0 d.2), pieces_proper ps d.1 d.5)
pieces_proper (number n ∷ ps) text d = (number_proper n, pieces_proper ps d.1 d.5)
pieces_proper (sign s ∷ ps) text d = (sign_proper s, pieces_proper ps d.1 d.5)

pub tokens_proper : (text : Text) (ts : List Token) → Tokens text ts → AreProper ts
tokens_proper text ts h = subst (λ us. AreProper us) (sym h.are) (pieces_proper h.pieces text h.cut)
