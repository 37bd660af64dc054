-- Where the pieces of a text stand, and what the tokens there are spelled.
use Rattle.std.proofs.Common.{◌≡◌, ℕ, suc, ◌+◌, ◌-◌, ◌≤◌, true, nat_le, List, [], ◌∷◌, ◌++◌, length, take, drop, Option, Some, None, refl, sym, ap, ◌∙◌, arith, take-append-drop}
use Rattle.std.specs.Prelude.{map}
use Rattle.std.proofs.lemmas.List.{length-append, append_assoc}
use Rattle.std.proofs.lemmas.Bool.Decides.{nat_tests}
use Rattle.std.proofs.lemmas.Grind.{flat_map-append}
use Rattle.grammar.specs.Pieces.{Text}
use Rattle.grammar.specs.Lang.{flat}
use Rattle.cif_base.specs.declared.types.Span.{Span}
use Rattle.cif_lex.specs.declared.token.Token.{Token}
use Rattle.cif_lex.specs.declared.token.TokenKind.{TokenKind}
use Rattle.cif_lex.specs.declared.token.TokenKind.TheVariants.{Id, Number}
use Rattle.cif_lex.specs.Tokens.{with_token, number_of, greatest_number}
use Rattle.cif_parse_expr.specs.Spelling.{bytes_of, without_dollar, spelling, value, is_small}
use Rattle.cif_maker.specs.MadeText.{concatenated, place}
use Rattle.cif_maker_laws.specs.Written.{Written, text_of, tokens_of}

-- ---- lists of pieces one after the other

pub text-append : (xs ys : List Written) → text_of (xs ++ ys) ≡ text_of xs ++ text_of ys
text-append [] ys = refl
text-append (x ∷ xs) ys = ap (λ t. x.bytes ++ t) (text-append xs ys) ∙ sym (append_assoc x.bytes (text_of xs) (text_of ys))

pub text_flat : (cs : List (List Written)) → text_of (flat cs) ≡ concatenated (map text_of cs)
text_flat [] = refl
text_flat (c ∷ cs) = text-append c (flat cs) ∙ ap (λ t. text_of c ++ t) (text_flat cs)

more_tokens : (k : Option TokenKind) (at n : ℕ) (xs ys : List Token) → with_token k at n (xs ++ ys) ≡ with_token k at n xs ++ ys
more_tokens None at n xs ys = refl
more_tokens (Some k) at n xs ys = refl

pub tokens-append : (at : ℕ) (xs ys : List Written) → tokens_of at (xs ++ ys) ≡ tokens_of at xs ++ tokens_of (at + length (text_of xs)) ys
tokens-append at [] ys = let e : at ≡ at + 0 = omega arith in ap (λ n. tokens_of n ys) e
tokens-append at (x ∷ xs) ys =
    let len = length-append x.bytes (text_of xs) in
    let e : (at + length x.bytes) + length (text_of xs) ≡ at + length (x.bytes ++ text_of xs) = omega arith in
    ap (with_token x.kind at (length x.bytes)) (tokens-append (at + length x.bytes) xs ys)
    ∙ more_tokens x.kind at (length x.bytes) (tokens_of (at + length x.bytes) xs) (tokens_of ((at + length x.bytes) + length (text_of xs)) ys)
    ∙ ap (λ n. tokens_of at (x ∷ xs) ++ tokens_of n ys) e

-- the tokens of lists of pieces, list k at `at k`
abbrev pub placed : (ℕ → ℕ) → ℕ → List (List Written) → List Token
placed at k [] = []
placed at k (c ∷ cs) = tokens_of (at k) c ++ placed at (suc k) cs

front_taken : (front more : List (List Written)) → take (length front) (map text_of (front ++ more)) ≡ map text_of front
front_taken [] more = refl
front_taken (c ∷ front) more = ap (λ ts. text_of c ∷ ts) (front_taken front more)

one_more_length : (front : List (List Written)) (c : List Written) → length (concatenated (map text_of (front ++ c ∷ []))) ≡ length (concatenated (map text_of front)) + length (text_of c)
one_more_length [] c = let e = length-append (text_of c) [] in omega arith
one_more_length (x ∷ front) c =
    let ih = one_more_length front c in
    let e = length-append (text_of x) (concatenated (map text_of (front ++ c ∷ []))) in
    let g = length-append (text_of x) (concatenated (map text_of front)) in
    omega arith

next_length : {A : Type 0} (xs : List A) (x : A) → length (xs ++ x ∷ []) ≡ suc (length xs)
next_length [] x = refl
next_length (y ∷ xs) x = ap suc (next_length xs x)

placed_from : (from : ℕ) (front todo : List (List Written))
    → tokens_of (from + length (concatenated (map text_of front))) (flat todo) ≡ placed (place from (map text_of (front ++ todo))) (length front) todo
placed_from from front [] = refl
placed_from from front (c ∷ cs) =
    let at : ℕ = from + length (concatenated (map text_of front)) in
    let here : at ≡ place from (map text_of (front ++ c ∷ cs)) (length front) = ap (λ ts. from + length (concatenated ts)) (sym (front_taken front (c ∷ cs))) in
    let len = one_more_length front c in
    let next : at + length (text_of c) ≡ from + length (concatenated (map text_of (front ++ c ∷ []))) = omega arith in
    tokens-append at c (flat cs)
    ∙ ap (λ n. tokens_of n c ++ tokens_of (at + length (text_of c)) (flat cs)) here
    ∙ ap (λ n. tokens_of (place from (map text_of (front ++ c ∷ cs)) (length front)) c ++ tokens_of n (flat cs)) next
    ∙ ap (λ ts. tokens_of (place from (map text_of (front ++ c ∷ cs)) (length front)) c ++ ts)
    (placed_from from (front ++ c ∷ []) cs
    ∙ ap (λ all. placed (place from (map text_of all)) (length (front ++ c ∷ [])) cs) (append_assoc front (c ∷ []) cs)
    ∙ ap (λ n. placed (place from (map text_of (front ++ c ∷ cs))) n cs) (next_length front c))

pub all_placed : (from : ℕ) (cs : List (List Written)) (ts : List Text) → map text_of cs ≡ ts → tokens_of from (flat cs) ≡ placed (place from ts) 0 cs
all_placed from cs ts e =
    let start : from ≡ from + 0 = omega arith in
    ap (λ n. tokens_of n (flat cs)) start ∙ placed_from from [] cs ∙ ap (λ us. placed (place from us) 0 cs) e

-- ---- what stands at a place

drop_front : (a b : Text) → drop (length a) (a ++ b) ≡ b
drop_front [] b = refl
drop_front (x ∷ a) b = drop_front a b

take_front : (a b : Text) → take (length a) (a ++ b) ≡ a
take_front [] b = refl
take_front (x ∷ a) b = ap (λ t. x ∷ t) (take_front a b)

pub stands : (before after : Text) (ps : List Text) (k : ℕ) → drop (place (length before) ps k) (before ++ (concatenated ps ++ after)) ≡ concatenated (drop k ps) ++ after
stands before after ps k =
    let front : Text = concatenated (take k ps) in
    let back : Text = concatenated (drop k ps) in
    let parts : concatenated ps ≡ front ++ back = ap concatenated (sym (take-append-drop k ps)) ∙ flat_map-append (λ (t : Text). t) (take k ps) (drop k ps) in
    let whole : before ++ (concatenated ps ++ after) ≡ (before ++ front) ++ (back ++ after) =
    ap (λ t. before ++ (t ++ after)) parts ∙ ap (λ t. before ++ t) (append_assoc front back after) ∙ sym (append_assoc before front (back ++ after)) in
    ap (λ t. drop (length before + length front) t) whole
    ∙ ap (λ n. drop n ((before ++ front) ++ (back ++ after))) (sym (length-append before front))
    ∙ drop_front (before ++ front) (back ++ after)

abbrev pub span_at : ℕ → Text → Span
span_at at x = record { from = at; to = at + length x }

spelled : (text : Text) (at : ℕ) (x more : Text) (k : TokenKind) → drop at text ≡ x ++ more → bytes_of text (record { kind = k; span = span_at at x }) ≡ x
unfolding bytes_of
spelled text at x more k e =
    let size : (at + length x) - at ≡ length x = omega arith in
    ap (λ n. take n (drop at text)) size ∙ ap (take (length x)) e ∙ take_front x more

-- the pieces of a text that stand at these places
module _ (text after : Text) (at : ℕ → ℕ) (ps : List Text) (there : (k : ℕ) → drop (at k) text ≡ concatenated (drop k ps) ++ after) where
  piece_there : (k : ℕ) (x : Text) (xs : List Text) → drop k ps ≡ x ∷ xs → drop (at k) text ≡ x ++ (concatenated xs ++ after)
  piece_there k x xs e = there k ∙ ap (λ ts. concatenated ts ++ after) e ∙ append_assoc x (concatenated xs) after

  pub named_there : (k : ℕ) (x : Text) (xs : List Text) → drop k ps ≡ x ∷ xs → without_dollar x ≡ x → spelling text (record { kind = Id; span = span_at (at k) x }) ≡ x
  unfolding spelling
  named_there k x xs e g = ap without_dollar (spelled text (at k) x (concatenated xs ++ after) Id (piece_there k x xs e)) ∙ g

  pub number_there : (k : ℕ) (x : Text) (xs : List Text) (n : ℕ) → drop k ps ≡ x ∷ xs → number_of x ≡ n → n ≤ greatest_number
      → (is_small text (record { kind = Number; span = span_at (at k) x }) ≡ true) × (value text (record { kind = Number; span = span_at (at k) x }) ≡ n)
  unfolding value is_small
  number_there k x xs n e g l =
      let read = ap number_of (spelled text (at k) x (concatenated xs ++ after) Number (piece_there k x xs e)) ∙ g in
      (ap (λ v. nat_le v greatest_number) read ∙ small n l, read)
    where
      small : (n : ℕ) → n ≤ greatest_number → nat_le n greatest_number ≡ true
      small n l = grind (arith, nat_tests)
