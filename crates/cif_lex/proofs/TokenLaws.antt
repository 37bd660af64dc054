-- A text has at most one list of tokens, and none where a refusal is due.
use Rattle.std.proofs.Common.{◌≡◌, ◌≢◌, ℕ, ◌+◌, ◌≤◌, ◌<◌, List, [], ◌∷◌, ◌++◌, length, All, Option, Some, None, refl, sym, ap, subst, ◌∙◌, append-nil, arith}
use Rattle.std.proofs.lemmas.List.{length-append}
use Rattle.std.proofs.lemmas.List.Elements.{All-head, All-tail}
use Rattle.grammar.specs.Pieces.{Text, IsLongest, Pieces}
use Rattle.grammar.proofs.Begun.{some_byte, one_piece, front_goes_on, begun_all, no_more, all_tail}
use Rattle.cif_lex.specs.declared.token.Token.{Token}
use Rattle.cif_lex.specs.declared.token.TokenKind.{TokenKind}
use Rattle.cif_lex.specs.declared.error.LexErr.{LexErr}
use Rattle.cif_lex.specs.declared.error.LexErr.TheVariants as err
use Rattle.cif_lex.specs.Tokens.{Piece, number, piece, sized, IsInRange, kind_of, with_token, tokens_at, SpansRise, Tokens, Front, BadByteDue, NumberTooBigDue, OpenCommentDue, RefusalDue}
use Rattle.cif_lex.proofs.CutLaws.{piece_cuts}
use Rattle.cif_lex.proofs.FoundLaws.{no_piece_opens}

abbrev Sized : Type 0
Sized = Piece × ℕ

sized_begins : (p : Sized) (x : Text) → sized piece p x → (b : ℕ) × (t : Text) × (x ≡ b ∷ t)
sized_begins p x is = let s = piece_cuts.begins p.0 x is.0 in (s.0, s.1, s.2)

sized_same : (p q : Sized) (x : Text) → sized piece p x → sized piece q x → p ≡ q
sized_same (p, n) (q, m) x is was =
    let same : p ≡ q = piece_cuts.same p q x is.0 was.0 in
    let sizes : n ≡ m = is.1 ∙ sym was.1 in
    cc

pub token_lists_agree : (text : Text) (a b : List Token) → Tokens text a → Tokens text b → a ≡ b
token_lists_agree text a b s t =
    let m = front_goes_on (sized piece) sized_begins sized_same s.pieces t.pieces text [] (begun_all (sized piece) s.pieces text s.cut) t.cut in
    let none = no_more (sized piece) sized_begins sized_same m.0 m.2 in
    let same : t.pieces ≡ s.pieces = m.1 ∙ ap (λ (u : List Sized). s.pieces ++ u) none ∙ append-nil s.pieces in
    s.are ∙ ap (tokens_at 0) (sym same) ∙ sym t.are

-- ---- refusals

-- what goes on from a front, all in range
goes_on : (text : Text) (at : ℕ) (front : Front text at) (tokens : List Token) → Tokens text tokens
    → (tail : List Sized) × Pieces (sized piece) tail front.rest × All (λ p. IsInRange p.0) tail
goes_on text at front tokens t =
    let m = front_goes_on (sized piece) sized_begins sized_same front.pieces t.pieces text front.rest front.cut t.cut in
    (m.0, m.2, all_tail (λ (p : Sized). IsInRange p.0) front.pieces m.0 (subst (λ u. All (λ (p : Sized). IsInRange p.0) u) m.1 t.in_range))

no_bad_byte : (text : Text) (at : ℕ) (due : BadByteDue text at) (tail : List Sized) → Pieces (sized piece) tail due.front.rest → ⊥
no_bad_byte text at due [] d =
    let none : length due.front.rest ≡ 0 = ap (λ (u : Text). length u) d in
    let place = due.front.place in
    let within = due.within in
    omega arith
no_bad_byte text at due (p ∷ tail) d = due.no_piece p.0 d.0 d.1 d.2.0 d.4

sized_longest : (x text : Text) → IsLongest piece x text → IsLongest (sized piece) x text
sized_longest x text h q y z r e = h q.0 y z r.0 e

no_big_number : (text : Text) (at : ℕ) (due : NumberTooBigDue text at) (tail : List Sized) → Pieces (sized piece) tail due.front.rest → All (λ p. IsInRange p.0) tail → ⊥
unfolding IsInRange
no_big_number text at due [] d h = some_byte (sized piece) sized_begins sized_same (number due.digits, length due.digits) due.digits due.more (due.is_number, refl) (sym d ∙ due.there)
no_big_number text at due (p ∷ tail) d h =
    let size = length due.digits in
    let m = one_piece (sized piece) sized_begins sized_same p (number due.digits, size) d.0 due.digits d.1 due.more due.front.rest d.2 (due.is_number, refl) d.3 (sized_longest due.digits due.front.rest due.longest) d.4 due.there in
    let small : IsInRange (number due.digits) = subst (λ (q : Sized). IsInRange q.0) m.0 (All-head (λ (q : Sized). IsInRange q.0) p tail h) in
    let big = due.too_big in
    omega (arith, small)

no_open_comment : (text : Text) (at : ℕ) (due : OpenCommentDue text at) (tail : List Sized) → Pieces (sized piece) tail due.front.rest → ⊥
no_open_comment text at due [] d = let e : [] ≡ 47 ∷ 42 ∷ due.more = sym d ∙ due.there in cc
no_open_comment text at due (p ∷ tail) d = no_piece_opens due.more due.open_end p.0 d.0 d.1 d.2.0 (sym due.there ∙ d.4)

pub refused_has_none : (text : Text) (why : LexErr) → RefusalDue text why → why ≢ err.Memory → (tokens : List Token) → Tokens text tokens → ⊥
refused_has_none text (err.BadByte at) due other tokens t = let m = goes_on text at due.front tokens t in no_bad_byte text at due m.0 m.1
refused_has_none text (err.NumberTooBig at) due other tokens t = let m = goes_on text at due.front tokens t in no_big_number text at due m.0 m.1 m.2
refused_has_none text (err.OpenComment at) due other tokens t = let m = goes_on text at due.front tokens t in no_open_comment text at due m.0 m.1
refused_has_none text err.Memory due other tokens t = other refl

-- ---- spans

rise_from : (low at end : ℕ) (tokens : List Token) → low ≤ at → SpansRise at tokens end → SpansRise low tokens end
rise_from low at end [] l r = omega arith
rise_from low at end (t ∷ ts) l r = (omega arith, r.1, r.2)

rise_step : (k : Option TokenKind) (at n end : ℕ) (tokens : List Token) → 0 < n → SpansRise (at + n) tokens end → SpansRise at (with_token k at n tokens) end
rise_step None at n end tokens l r = rise_from at (at + n) end tokens (omega arith) r
rise_step (Some k) at n end tokens l r = (omega arith, omega arith, r)

pieces_rise : (ps : List Sized) (text : Text) (at : ℕ) → Pieces (sized piece) ps text → SpansRise at (tokens_at at ps) (at + length text)
pieces_rise [] text at d = omega arith
pieces_rise (p ∷ ps) text at d =
    let s = piece_cuts.begins p.0 d.0 d.2.0 in
    let begun : length d.0 ≡ length (s.0 ∷ s.1) = ap (λ (u : Text). length u) s.2 in
    let whole : length text ≡ length d.0 + length d.1 = ap (λ (u : Text). length u) d.4 ∙ length-append d.0 d.1 in
    let size : p.1 ≡ length d.0 = d.2.1 in
    let end : at + p.1 + length d.1 ≡ at + length text = omega arith in
    rise_step (kind_of p.0) at p.1 (at + length text) (tokens_at (at + p.1) ps) (omega arith)
    (subst (λ (n : ℕ). SpansRise (at + p.1) (tokens_at (at + p.1) ps) n) end (pieces_rise ps d.1 (at + p.1) d.5))

pub spans_rise_in : (text : Text) (tokens : List Token) → Tokens text tokens → SpansRise 0 tokens (length text)
spans_rise_in text tokens t =
    let none : 0 + length text ≡ length text = omega arith in
    subst (λ (ts : List Token). SpansRise 0 ts (length text)) (sym t.are) (subst (λ (n : ℕ). SpansRise 0 (tokens_at 0 t.pieces) n) none (pieces_rise t.pieces text 0 t.cut))
