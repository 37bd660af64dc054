-- The number that digits stand for, digit by digit, and the kinds of words and signs.
use Rattle.std.proofs.Common.{◌≡◌, ◌==◌, ◌&&◌, ℕ, ◌<◌, ◌≤◌, Bool, true, false, not, List, [], ◌∷◌, length, drop, Some, None, refl, sym, ap, ◌∙◌, arith, nat_le, if◌then◌else◌}
use Rattle.std.proofs.lemmas.Bool.Decides.{nat_tests}
use Rattle.std.proofs.Math.ListN.{drop_of_length-le}
use Rattle.grammar.specs.Pieces.{Text, same}
use Rattle.grammar.proofs.Texts.{and_left, and_right}
use Rattle.grammar.proofs.Decimals.{grows}
use Rattle.st_ast.specs.Names.{same_name}
use Rattle.grammar.specs.Bytes.{digits_from}
use Rattle.st_ast.specs.Tokens.{keywords, in_table, is_identifier, kind_of_sign_in, sign_kinds, number_of, greatest}
use Rattle.st_ast.specs.declared.kinds.TokenKind.{TokenKind}
use Rattle.st_ast.specs.declared.kinds.TokenKind.TheVariants as kinds
use Rattle.st_ast.specs.Grammar.{code}
use Rattle.st_read.specs.Lexing.{is_reserved, other_kind, word_kind, sign_kind, value_in}

-- what the digits so far stand for is too great
pub too_great : (digits rest : Text) (n : ℕ) → digits_from 0 digits ≡ digits_from n rest → greatest < n → value_in digits ≡ None
unfolding value_in
too_great digits rest n e l =
    let more = grows n rest in
    let above : greatest < number_of digits = omega (arith, e, more) in
    let test : nat_le (number_of digits) greatest ≡ false = grind (arith, nat_tests) in
    rw test refl

pub small_enough : (digits : Text) (n i : ℕ) → digits_from 0 digits ≡ digits_from n (drop i digits) → length digits ≤ i → n ≤ greatest → value_in digits ≡ Some n
unfolding value_in
small_enough digits n i e none l =
    let is : digits_from 0 digits ≡ n = e ∙ ap (digits_from n) (drop_of_length-le digits none) in
    let below : number_of digits ≤ greatest = omega (arith, is) in
    let test : nat_le (number_of digits) greatest ≡ true = grind (arith, nat_tests) in
    rw test (ap (λ (m : ℕ). Some m) is)

-- ---- no word and no sign is a literal, and no sign is a name

abbrev none_of : TokenKind → List (Text × TokenKind) → Bool
none_of kind [] = true
none_of kind (p ∷ ps) = not (code p.1 == code kind) && none_of kind ps

-- a kind that has not its own number is none
abbrev HasItself : TokenKind → Type 0
HasItself kind = not (code kind == code kind) ≡ true → ⊥

apart : (kind other : TokenKind) → HasItself kind → not (code other == code kind) ≡ true → other ≡ kind → ⊥
apart kind other itself e is = itself (ap (λ (k : TokenKind). not (code k == code kind)) (sym is) ∙ e)

literal_itself : HasItself kinds.Literal
literal_itself e = absurd cc

name_itself : HasItself kinds.Name
name_itself e = absurd cc

table_apart : (ps : List (Text × TokenKind)) (w : Text) (other : TokenKind) → none_of kinds.Literal ps ≡ true → (other ≡ kinds.Literal → ⊥) → in_table ps w other ≡ kinds.Literal → ⊥
table_apart [] w other e n is = n is
table_apart (p ∷ ps) w other e n is = go (same_name p.0 w) (table_apart ps w other (and_right (not (code p.1 == code kinds.Literal)) (none_of kinds.Literal ps) e) n) is
  where
    go : (x : Bool) → (in_table ps w other ≡ kinds.Literal → ⊥) → (if x then p.1 else in_table ps w other) ≡ kinds.Literal → ⊥
    go true ih g = apart kinds.Literal p.1 literal_itself (and_left (not (code p.1 == code kinds.Literal)) (none_of kinds.Literal ps) e) g
    go false ih g = ih g

other_apart : (x y : Bool) → (if x then kinds.Outside else (if y then kinds.Name else kinds.Outside)) ≡ kinds.Literal → ⊥
other_apart true y e = apart kinds.Literal kinds.Outside literal_itself refl e
other_apart false true e = apart kinds.Literal kinds.Name literal_itself refl e
other_apart false false e = apart kinds.Literal kinds.Outside literal_itself refl e

pub word_apart : (w : Text) → word_kind w ≡ kinds.Literal → ⊥
unfolding word_kind other_kind
word_apart w e = table_apart keywords w (other_kind w) refl (other_apart (is_reserved w) (is_identifier w)) e

signs_apart : (kind : TokenKind) (ps : List (Text × TokenKind)) (s : Text) → HasItself kind → not (code kinds.Outside == code kind) ≡ true → none_of kind ps ≡ true → kind_of_sign_in ps s ≡ kind → ⊥
signs_apart kind [] s itself out e is = apart kind kinds.Outside itself out is
signs_apart kind (p ∷ ps) s itself out e is = go (same p.0 s) (signs_apart kind ps s itself out (and_right (not (code p.1 == code kind)) (none_of kind ps) e)) is
  where
    go : (x : Bool) → (kind_of_sign_in ps s ≡ kind → ⊥) → (if x then p.1 else kind_of_sign_in ps s) ≡ kind → ⊥
    go true ih g = apart kind p.1 itself (and_left (not (code p.1 == code kind)) (none_of kind ps) e) g
    go false ih g = ih g

pub sign_no_literal : (s : Text) → sign_kind s ≡ kinds.Literal → ⊥
unfolding sign_kind
sign_no_literal s e = signs_apart kinds.Literal sign_kinds s literal_itself refl refl e

pub sign_no_name : (s : Text) → sign_kind s ≡ kinds.Name → ⊥
unfolding sign_kind
sign_no_name s e = signs_apart kinds.Name sign_kinds s name_itself refl refl e
