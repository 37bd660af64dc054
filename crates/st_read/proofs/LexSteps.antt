-- A loop that takes tokens from the front of a text, piece by piece.
use Rattle.std.proofs.Common.{◌≡◌, ◌==◌, ◌&&◌, ◌||◌, Bool, true, false, ◌+◌, ◌-◌, ◌<◌, List, [], ◌∷◌, ◌++◌, length, All, Option, Some, None, Ok, Err, refl, sym, ap, subst, ◌∙◌, append-nil, arith, codes, filter_map}
use Rattle.std.proofs.lemmas.Bool.{or_parts, or_from}
use Rattle.std.proofs.lemmas.Bool.Decides.{nat_tests}
use Rattle.std.proofs.lemmas.List.{length-append}
use Rattle.std.proofs.lemmas.List.Elements.{All-nil, All-push, filter_map-append}
use Rattle.grammar.specs.Pieces.{Text, Begun}
use Rattle.grammar.proofs.Begun.{begun_more, begun_short, pieces_all}
use Rattle.grammar.proofs.Closing.{none_closes}
use Rattle.st_ast.specs.Tokens.{Token, Piece, blank, comment, word, number, sign, piece, is_sign, opens_comment, token_of}
use Rattle.st_read.proofs.CuttingLaws.{piece_cuts}
use Rattle.st_read.specs.declared.found.Fault.{Fault}
use Rattle.st_read.specs.declared.found.Fault.TheVariants as f
use Rattle.st_read.specs.declared.error.StErr.{StErr}
use Rattle.st_read.specs.Lexing.{Halts, front_of, refusal_of, IsInRange, Lexes}
use Rattle.st_read.specs.Refusals.{Front, BadByteDue, NumberTooBigDue, OpenCommentDue, RefusalDue}
use Rattle.st_read.proofs.Fronts.{sign_bytes, sign_is}
use Rattle.st_read.proofs.FoundLaws.{Takes, takes, bad_byte, big_number, open_comment}

-- ---- `(` directly before `*`

-- whether the last piece is `(`
abbrev ends_open : List Piece → Bool
ends_open [] = false
ends_open (p ∷ []) = is_sign (codes "(") p
ends_open (p ∷ q ∷ ps) = ends_open (q ∷ ps)

ends_more : (ps : List Piece) (p : Piece) → ends_open (ps ++ p ∷ []) ≡ is_sign (codes "(") p
ends_more [] p = refl
ends_more (q ∷ []) p = refl
ends_more (q ∷ r ∷ ps) p = ends_more (r ∷ ps) p

both_false : (x y z : Bool) → (x ≡ true → y ≡ true → ⊥) → z ≡ false → (x && y || z) ≡ false
both_false true true z h e = absurd (h refl refl)
both_false true false z h e = e
both_false false y z h e = e

closed_more : (ps : List Piece) (p : Piece) → opens_comment ps ≡ false → (ends_open ps ≡ true → is_sign (codes "*") p ≡ true → ⊥) → opens_comment (ps ++ p ∷ []) ≡ false
closed_more [] p e h = refl
closed_more (q ∷ []) p e h = both_false (is_sign (codes "(") q) (is_sign (codes "*") p) false h refl
closed_more (q ∷ r ∷ ps) p e h =
    let m = or_parts (is_sign (codes "(") q && is_sign (codes "*") r) (opens_comment (r ∷ ps)) e in
    or_from (is_sign (codes "(") q && is_sign (codes "*") r) (opens_comment ((r ∷ ps) ++ p ∷ [])) m.0 (closed_more (r ∷ ps) p m.1 h)

-- ---- the tokens before the rest of a text

pub record Taken (text rest : Text) (tokens : List Token) : Type 0 where
  pub pieces : List Piece
  pub cut : Begun piece pieces text rest
  pub closed : opens_comment pieces ≡ false
  -- no `*` comes directly after `(`
  pub apart : ends_open pieces ≡ true → (more : Text) → rest ≡ 42 ∷ more → ⊥
  pub in_range : All IsInRange pieces
  pub are : tokens ≡ filter_map token_of pieces

pub taken_none : (text : Text) → Taken text text []
taken_none text = record { pieces = []; cut = refl; closed = refl; apart = λ e more g. cc; in_range = All-nil IsInRange; are = refl }

-- the token of a piece, if it is one
abbrev pub with_token : Option Token → List Token
with_token None = []
with_token (Some t) = t ∷ []

one_token : (p : Piece) → filter_map token_of (p ∷ []) ≡ with_token (token_of p)
one_token blank = refl
one_token comment = refl
one_token (word w) = refl
one_token (number d) = refl
one_token (sign s) = refl

taken_more : (text rest left : Text) (tokens : List Token) (o : Option Token) → Taken text rest tokens → front_of rest ≡ Ok (o, left) → Taken text left (tokens ++ with_token o)
taken_more text rest left tokens o t e =
    let m = takes rest left o e in
    record {
      pieces = t.pieces ++ m.taken ∷ [];
      cut = begun_more piece t.pieces m.taken text rest m.bytes left t.cut m.is m.longest m.whole;
      closed = closed_more t.pieces m.taken t.closed (λ paren star. t.apart paren left (starts (codes "*") m.taken m.bytes left rest m.is star m.whole));
      apart = λ paren more g. no_star m more (sym (ends_more t.pieces m.taken) ∙ paren) g;
      in_range = All-push IsInRange t.pieces m.taken t.in_range m.small;
      are = ap (λ (ts : List Token). ts ++ with_token o) t.are ∙ ap (λ (q : Option Token). filter_map token_of t.pieces ++ with_token q) (sym m.token)
          ∙ ap (λ (ts : List Token). filter_map token_of t.pieces ++ ts) (sym (one_token m.taken)) ∙ sym (filter_map-append token_of t.pieces (m.taken ∷ []));
    }
  where
    starts : (s : Text) (p : Piece) (x more whole : Text) → piece p x → is_sign s p ≡ true → whole ≡ x ++ more → whole ≡ s ++ more
    starts s p x more whole is same w = w ∙ ap (λ (u : Text). u ++ more) (sign_bytes s x (subst (λ (q : Piece). piece q x) (sign_is s p same) is))

    no_star : (m : Takes rest left o) (more : Text) → is_sign (codes "(") m.taken ≡ true → left ≡ 42 ∷ more → ⊥
    no_star m more paren g =
        let whole = starts (codes "(") m.taken m.bytes left rest m.is paren m.whole in
        let is = m.no_sign more (whole ∙ ap (λ (u : Text). 40 ∷ u) g) in
        let wrong : is_sign (codes "(") comment ≡ true = ap (is_sign (codes "(")) (sym is) ∙ paren in
        cc

-- ---- the steps of the loop

pub left_shorter : (text left : Text) (o : Option Token) → front_of text ≡ Ok (o, left) → length left < length text
left_shorter text left o e =
    let m = takes text left o e in
    let s = piece_cuts.begins m.taken m.bytes m.is in
    let size : length m.bytes ≡ length (s.0 ∷ s.1) = ap (λ (u : Text). length u) s.2 in
    let len : length text ≡ length m.bytes + length left = ap (λ (u : Text). length u) m.whole ∙ length-append m.bytes left in
    omega arith

pub taken_token : (text rest left : Text) (tokens : List Token) (o : Option Token) (t : Token) → Taken text rest tokens → front_of rest ≡ Ok (o, left) → o ≡ Some t → Taken text left (tokens ++ t ∷ [])
taken_token text rest left tokens o t h e is = subst (λ (q : Option Token). Taken text left (tokens ++ with_token q)) is (taken_more text rest left tokens o h e)

pub taken_skip : (text rest left : Text) (tokens : List Token) (o : Option Token) → Taken text rest tokens → front_of rest ≡ Ok (o, left) → o ≡ None → Taken text left tokens
taken_skip text rest left tokens o h e is =
    let same = subst (λ (q : Option Token). Taken text left (tokens ++ with_token q)) is (taken_more text rest left tokens o h e) in
    subst (λ (ts : List Token). Taken text left ts) (append-nil tokens) same

pub taken_all : (text rest : Text) (tokens : List Token) → Taken text rest tokens → (length rest == 0) ≡ true → Lexes text tokens
taken_all text [] tokens t e = record { are_tokens = record { pieces = t.pieces; cut = pieces_all piece t.pieces text t.cut; closed = t.closed; are = t.are }; in_range = t.in_range }
taken_all text (b ∷ rest) tokens t e = absurd (grind (arith, nat_tests))

front_at : (text rest : Text) (tokens : List Token) → Taken text rest tokens → Front text (length text - length rest)
front_at text rest tokens t =
    let short = begun_short piece t.pieces text rest t.cut in
    record { pieces = t.pieces; rest = rest; cut = t.cut; closed = t.closed; place = omega arith }

bad : (text rest : Text) (tokens : List Token) → Taken text rest tokens → (length rest == 0) ≡ false → front_of rest ≡ Err f.BadByte → BadByteDue text (length text - length rest)
unfolding front_at
bad text rest tokens t n e =
    let short = begun_short piece t.pieces text rest t.cut in
    let m = bad_byte rest e in
    record { front = front_at text rest tokens t; within = grind (arith, nat_tests); no_piece = m.0; no_comment = m.1 }

too_big : (text rest : Text) (tokens : List Token) → Taken text rest tokens → front_of rest ≡ Err f.NumberTooBig → NumberTooBigDue text (length text - length rest)
unfolding front_at
too_big text rest tokens t e =
    let m = big_number rest e in
    record { front = front_at text rest tokens t; digits = m.0; more = m.1; is_number = m.2; longest = m.3; there = m.4; too_big = m.5 }

open_end : (text rest : Text) (tokens : List Token) → Taken text rest tokens → front_of rest ≡ Err f.OpenComment → OpenCommentDue text (length text - length rest)
unfolding front_at
open_end text rest tokens t e =
    let m = open_comment rest e in
    record { front = front_at text rest tokens t; more = m.0; there = m.1; open_end = λ inner after g. none_closes 42 41 m.0 inner after m.2 g }

due_at : (text rest : Text) (tokens : List Token) (fault : Fault) → Taken text rest tokens → (length rest == 0) ≡ false → Halts fault (front_of rest) → RefusalDue text (refusal_of fault (length text - length rest))
due_at text rest tokens f.BadByte t n e = bad text rest tokens t n e
due_at text rest tokens f.NumberTooBig t n e = too_big text rest tokens t e
due_at text rest tokens f.OpenComment t n e = open_end text rest tokens t e

pub refused : (text rest : Text) (tokens : List Token) (fault : Fault) (why : StErr) → Taken text rest tokens → (length rest == 0) ≡ false → Halts fault (front_of rest)
    → why ≡ refusal_of fault (length text - length rest) → RefusalDue text why
refused text rest tokens fault why t n e is = subst (λ (w : StErr). RefusalDue text w) (sym is) (due_at text rest tokens fault t n e)
