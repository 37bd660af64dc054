-- A loop that takes tokens from the front of a text, piece by piece.
use Rattle.std.proofs.Common.{◌≡◌, ◌≢◌, ◌==◌, ℕ, true, false, ◌+◌, ◌-◌, ◌<◌, List, [], ◌∷◌, ◌++◌, length, All, Option, Some, None, Ok, Err, refl, sym, ap, subst, ◌∙◌, append-nil, arith}
use Rattle.std.proofs.lemmas.Bool.Decides.{nat_tests}
use Rattle.std.proofs.lemmas.List.{length-append}
use Rattle.std.proofs.lemmas.List.Elements.{All-nil, All-push}
use Rattle.grammar.specs.Pieces.{Text, Begun}
use Rattle.grammar.proofs.Begun.{begun_more, pieces_all}
use Rattle.grammar.proofs.Closing.{none_closes}
use Rattle.cif_lex.specs.declared.token.Token.{Token}
use Rattle.cif_lex.specs.declared.token.TokenKind.{TokenKind}
use Rattle.cif_lex.specs.declared.found.Fault.{Fault}
use Rattle.cif_lex.specs.declared.found.Fault.TheVariants as f
use Rattle.cif_lex.specs.declared.error.LexErr.{LexErr}
use Rattle.cif_lex.specs.declared.error.LexErr.TheVariants as err
use Rattle.cif_lex.specs.Tokens.{Piece, piece, sized, kind_of, IsInRange, with_token, tokens_at, Tokens, Front, BadByteDue, NumberTooBigDue, OpenCommentDue, RefusalDue}
use Rattle.cif_lex.specs.Cutting.{found_of, refusal_of}
use Rattle.cif_lex.proofs.CutLaws.{piece_cuts}
use Rattle.cif_lex.proofs.TokenLaws.{token_lists_agree, refused_has_none}
use Rattle.cif_lex.proofs.FoundLaws.{takes, bad_byte, big_number, open_comment}

abbrev Sized : Type 0
Sized = Piece × ℕ

-- how many bytes pieces have
abbrev total : List Sized → ℕ
total [] = 0
total (p ∷ ps) = p.1 + total ps

begun_total : (ps : List Sized) (text rest : Text) → Begun (sized piece) ps text rest → total ps + length rest ≡ length text
begun_total [] text rest b = let e : length text ≡ length rest = ap (λ (u : Text). length u) b in omega arith
begun_total (p ∷ ps) text rest b =
    let ih = begun_total ps b.1 rest b.5 in
    let e : length text ≡ length b.0 + length b.1 = ap (λ (u : Text). length u) b.4 ∙ length-append b.0 b.1 in
    let size = b.2.1 in
    omega arith

with_more : (k : Option TokenKind) (at n : ℕ) (xs ys : List Token) → with_token k at n (xs ++ ys) ≡ with_token k at n xs ++ ys
with_more None at n xs ys = refl
with_more (Some k) at n xs ys = refl

tokens_more : (at : ℕ) (ps : List Sized) (p : Sized) → tokens_at at (ps ++ p ∷ []) ≡ tokens_at at ps ++ with_token (kind_of p.0) (at + total ps) p.1 []
tokens_more at [] p = let e : at + 0 ≡ at = omega arith in rw e refl
tokens_more at (q ∷ ps) p =
    let e : at + q.1 + total ps ≡ at + (q.1 + total ps) = omega arith in
    ap (with_token (kind_of q.0) at q.1) (tokens_more (at + q.1) ps p ∙ ap (λ (n : ℕ). tokens_at (at + q.1) ps ++ with_token (kind_of p.0) n p.1 []) e)
    ∙ with_more (kind_of q.0) at q.1 (tokens_at (at + q.1) ps) (with_token (kind_of p.0) (at + (q.1 + total ps)) p.1 [])

-- the tokens before the rest of a text
pub record Taken (text rest : Text) (tokens : List Token) : Type 0 where
  pub pieces : List Sized
  pub cut : Begun (sized piece) pieces text rest
  pub in_range : All (λ p. IsInRange p.0) pieces
  pub are : tokens ≡ tokens_at 0 pieces

pub taken_none : (text : Text) → Taken text text []
taken_none text = record { pieces = []; cut = refl; in_range = All-nil (λ (p : Sized). IsInRange p.0); are = refl }

taken_more : (text rest left : Text) (tokens : List Token) (k : Option TokenKind) → Taken text rest tokens → found_of rest ≡ Ok (k, left)
    → Taken text left (tokens ++ with_token k (length text - length rest) (length rest - length left) [])
taken_more text rest left tokens k t e =
    let m = takes rest left k e in
    let p : Sized = (m.taken, length m.bytes) in
    let place = begun_total t.pieces text rest t.cut in
    let from : total t.pieces ≡ length text - length rest = omega arith in
    let len : length rest ≡ length m.bytes + length left = ap (λ (u : Text). length u) m.whole ∙ length-append m.bytes left in
    let size : length m.bytes ≡ length rest - length left = omega arith in
    let start : 0 + total t.pieces ≡ total t.pieces = omega arith in
    record {
      pieces = t.pieces ++ p ∷ [];
      cut = begun_more (sized piece) t.pieces p text rest m.bytes left t.cut (m.is, refl) (λ q y z r g. m.longest q.0 y z r.0 g) m.whole;
      in_range = All-push (λ (q : Sized). IsInRange q.0) t.pieces p t.in_range m.small;
      are = sym (
          tokens_more 0 t.pieces p
          ∙ ap (λ (o : Option TokenKind). tokens_at 0 t.pieces ++ with_token o (0 + total t.pieces) (length m.bytes) []) m.has_kind
          ∙ ap (λ (n : ℕ). tokens_at 0 t.pieces ++ with_token k n (length m.bytes) []) (start ∙ from)
          ∙ ap (λ (n : ℕ). tokens_at 0 t.pieces ++ with_token k (length text - length rest) n []) size
          ∙ ap (λ (ts : List Token). ts ++ with_token k (length text - length rest) (length rest - length left) []) (sym t.are)
          );
    }

-- ---- the steps of the loop

pub left_shorter : (text left : Text) (k : Option TokenKind) → found_of text ≡ Ok (k, left) → length left < length text
left_shorter text left k e =
    let m = takes text left k e in
    let s = piece_cuts.begins m.taken m.bytes m.is in
    let size : length m.bytes ≡ length (s.0 ∷ s.1) = ap (λ (u : Text). length u) s.2 in
    let len : length text ≡ length m.bytes + length left = ap (λ (u : Text). length u) m.whole ∙ length-append m.bytes left in
    omega arith

pub taken_token : (text rest left : Text) (tokens : List Token) (o : Option TokenKind) (k : TokenKind) → Taken text rest tokens → found_of rest ≡ Ok (o, left) → o ≡ Some k
    → Taken text left (tokens ++ record { kind = k; span = record { from = length text - length rest; to = length text - length left } } ∷ [])
taken_token text rest left tokens o k t e is =
    let m = taken_more text rest left tokens o t e in
    let place = begun_total t.pieces text rest t.cut in
    let less = left_shorter rest left o e in
    let end : length text - length rest + (length rest - length left) ≡ length text - length left = omega arith in
    subst (λ (n : ℕ). Taken text left (tokens ++ record { kind = k; span = record { from = length text - length rest; to = n } } ∷ [])) end
    (subst (λ (q : Option TokenKind). Taken text left (tokens ++ with_token q (length text - length rest) (length rest - length left) [])) is m)

pub taken_skip : (text rest left : Text) (tokens : List Token) (o : Option TokenKind) → Taken text rest tokens → found_of rest ≡ Ok (o, left) → o ≡ None → Taken text left tokens
taken_skip text rest left tokens o t e is =
    let m = taken_more text rest left tokens o t e in
    let same = subst (λ (q : Option TokenKind). Taken text left (tokens ++ with_token q (length text - length rest) (length rest - length left) [])) is m in
    subst (λ (ts : List Token). Taken text left ts) (append-nil tokens) same

pub taken_all : (text rest : Text) (tokens : List Token) → Taken text rest tokens → (length rest == 0) ≡ true → Tokens text tokens
taken_all text [] tokens t e = record { pieces = t.pieces; cut = pieces_all (sized piece) t.pieces text t.cut; in_range = t.in_range; are = t.are }
taken_all text (b ∷ rest) tokens t e = absurd (grind (arith, nat_tests))

front_of : (text rest : Text) (tokens : List Token) → Taken text rest tokens → Front text (length text - length rest)
front_of text rest tokens t =
    let total = begun_total t.pieces text rest t.cut in
    record { pieces = t.pieces; rest = rest; cut = t.cut; place = omega arith }

bad : (text rest : Text) (tokens : List Token) → Taken text rest tokens → length rest ≢ 0 → found_of rest ≡ Err f.BadByte → BadByteDue text (length text - length rest)
unfolding front_of
bad text [] tokens t n e = absurd (n refl)
bad text (b ∷ rest) tokens t n e =
    let total = begun_total t.pieces text (b ∷ rest) t.cut in
    let m = bad_byte b rest e in
    record { front = front_of text (b ∷ rest) tokens t; within = omega arith; no_piece = m.0; no_comment = m.1 }

too_big : (text rest : Text) (tokens : List Token) → Taken text rest tokens → length rest ≢ 0 → found_of rest ≡ Err f.NumberTooBig → NumberTooBigDue text (length text - length rest)
unfolding front_of
too_big text [] tokens t n e = absurd (n refl)
too_big text (b ∷ rest) tokens t n e =
    let m = big_number b rest e in
    record { front = front_of text (b ∷ rest) tokens t; digits = m.0; more = m.1; is_number = m.2; longest = m.3; there = m.4; too_big = m.5 }

open_end : (text rest : Text) (tokens : List Token) → Taken text rest tokens → length rest ≢ 0 → found_of rest ≡ Err f.OpenComment → OpenCommentDue text (length text - length rest)
unfolding front_of
open_end text [] tokens t n e = absurd (n refl)
open_end text (b ∷ rest) tokens t n e =
    let m = open_comment b rest e in
    record { front = front_of text (b ∷ rest) tokens t; more = m.0; there = m.1; open_end = λ inner after g. none_closes 42 47 m.0 inner after m.2 g }

due_at : (text rest : Text) (tokens : List Token) (fault : Fault) → Taken text rest tokens → length rest ≢ 0 → found_of rest ≡ Err fault → RefusalDue text (refusal_of fault (length text - length rest))
due_at text rest tokens f.BadByte t n e = bad text rest tokens t n e
due_at text rest tokens f.NumberTooBig t n e = too_big text rest tokens t n e
due_at text rest tokens f.OpenComment t n e = open_end text rest tokens t n e

not_empty : (n : ℕ) → (n == 0) ≡ false → n ≢ 0
not_empty n e = grind (arith, nat_tests)

pub refused : (text rest : Text) (tokens : List Token) (fault : Fault) (why : LexErr) → Taken text rest tokens → (length rest == 0) ≡ false → found_of rest ≡ Err fault → why ≡ refusal_of fault (length text - length rest) → RefusalDue text why
refused text rest tokens fault why t n e is = subst (λ (w : LexErr). RefusalDue text w) (sym is) (due_at text rest tokens fault t (not_empty (length rest) n) e)

-- what is taken are the only tokens
pub taken_only : (text rest : Text) (tokens all : List Token) → Taken text rest tokens → (length rest == 0) ≡ true → Tokens text all → tokens ≡ all
taken_only text rest tokens all t e d = token_lists_agree text tokens all (taken_all text rest tokens t e) d

refusal_tells : (fault : Fault) (at : ℕ) → refusal_of fault at ≢ err.Memory
refusal_tells f.BadByte at = λ e. cc
refusal_tells f.NumberTooBig at = λ e. cc
refusal_tells f.OpenComment at = λ e. cc

-- what is refused has no tokens
pub refused_only : (text rest : Text) (tokens all : List Token) (fault : Fault) (why : LexErr) → Taken text rest tokens → (length rest == 0) ≡ false → found_of rest ≡ Err fault → why ≡ refusal_of fault (length text - length rest) → Tokens text all → ⊥
refused_only text rest tokens all fault why t n e is d =
    refused_has_none text why (refused text rest tokens fault why t n e is) (λ g. refusal_tells fault (length text - length rest) (sym is ∙ g)) all d
