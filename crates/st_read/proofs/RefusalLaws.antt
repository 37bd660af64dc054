-- Where a refusal is due a text derives no program.
use Rattle.std.proofs.Common.{◌≡◌, ◌&&◌, ℕ, ◌≤◌, Bool, true, false, nat_le, List, [], ◌∷◌, ◌++◌, length, All, Option, Some, None, refl, sym, ap, subst, ◌∙◌, arith, codes, filter_map}
use Rattle.std.specs.Option.{option_or}
use Rattle.std.proofs.lemmas.List.Elements.{All-nil, All-cons, All-head}
use Rattle.std.proofs.lemmas.Bool.{or_parts}
use Rattle.std.proofs.lemmas.Bool.Decides.{nat_tests}
use Rattle.grammar.specs.Pieces.{Text, Pieces, Cut, text_cut}
use Rattle.grammar.proofs.Begun.{some_byte, one_piece, front_goes_on, all_tail}
use Rattle.grammar.proofs.Closing.{unclosed}
use Rattle.st_ast.specs.Tokens.{Token, Piece, blank, comment, word, number, sign, piece, signs, is_sign, opens_comment, token_of, number_of, greatest, kind_of_number}
use Rattle.st_ast.specs.declared.kinds.TokenKind.TheVariants as kinds
use Rattle.st_ast.specs.Tree.{Program}
use Rattle.st_read.specs.Cutting.{piece_cut}
use Rattle.st_read.proofs.CuttingLaws.{piece_cuts}
use Rattle.st_read.specs.declared.error.StErr.{StErr}
use Rattle.st_read.specs.declared.error.StErr.TheVariants as err
use Rattle.st_ast.specs.ReadsAs.{Derives}
use Rattle.st_read.specs.Lexing.{IsInRange, Lexes}
use Rattle.st_read.specs.Refusals.{Front, BadByteDue, NumberTooBigDue, OpenCommentDue, RefusalDue}
use Rattle.st_read.proofs.Fronts.{comment_cut, open_uncut}
use Rattle.st_read.proofs.Programs.{Inside, whole_fits}

-- ---- the pieces of a text go on from those at its front

piece_begins : (p : Piece) (x : Text) → piece p x → (b : ℕ) × (t : Text) × (x ≡ b ∷ t)
piece_begins p x is = let s = piece_cuts.begins p x is in (s.0, s.1, s.2)

-- the piece that is cut off is the first
cut_first : (text : Text) (k : Cut Piece) (ps : List Piece) → piece_cut text ≡ Some k → (text ≡ [] → ⊥) → Pieces piece ps text
    → (qs : List Piece) × (ps ≡ k.piece ∷ qs) × Pieces piece qs k.rest
cut_first text k [] e some d = absurd (some d)
cut_first text k (p ∷ qs) e some d =
    let f = piece_cuts.found text k e in
    let m = one_piece piece piece_begins piece_cuts.same p k.piece d.0 k.bytes d.1 k.rest text d.2 f.0 d.3 f.1 d.4 f.2 in
    (qs, ap (λ (q : Piece). q ∷ qs) m.0, subst (λ (u : Text). Pieces piece qs u) m.1 d.5)

-- ---- `(*` that begins no comment is two signs

paren_cut : (text : Text) → comment_cut (40 ∷ 42 ∷ text) ≡ None → piece_cut (40 ∷ 42 ∷ text) ≡ Some (record { piece = sign (codes "("); bytes = codes "("; rest = 42 ∷ text })
unfolding piece_cut
paren_cut text e = ap (λ (o : Option (Cut Piece)). option_or o (text_cut signs sign (40 ∷ 42 ∷ text))) e

star_cut : (text : Text) → piece_cut (42 ∷ text) ≡ Some (record { piece = sign (codes "*"); bytes = codes "*"; rest = text })
unfolding piece_cut
star_cut text = refl

tail_closed : (p : Piece) (qs : List Piece) → opens_comment (p ∷ qs) ≡ false → opens_comment qs ≡ false
tail_closed p [] e = refl
tail_closed p (q ∷ rs) e = (or_parts (is_sign (codes "(") p && is_sign (codes "*") q) (opens_comment (q ∷ rs)) e).1

later_closed : (ps qs : List Piece) → opens_comment (ps ++ qs) ≡ false → opens_comment qs ≡ false
later_closed [] qs e = e
later_closed (p ∷ ps) qs e = later_closed ps qs (tail_closed p (ps ++ qs) e)

stuck : (more : Text) (ps : List Piece) → ((inner after : Text) → more ≡ inner ++ (42 ∷ 41 ∷ after) → ⊥) → Pieces piece ps (40 ∷ 42 ∷ more) → opens_comment ps ≡ false → ⊥
stuck more ps none d o =
    let cut = paren_cut more (open_uncut more (unclosed 42 41 more none)) in
    let one = cut_first (40 ∷ 42 ∷ more) (record { piece = sign (codes "("); bytes = codes "("; rest = 42 ∷ more }) ps cut (λ e. cc) d in
    let two = cut_first (42 ∷ more) (record { piece = sign (codes "*"); bytes = codes "*"; rest = more }) one.0 (star_cut more) (λ e. cc) one.2 in
    let both : opens_comment (sign (codes "(") ∷ sign (codes "*") ∷ two.0) ≡ false =
    ap (λ (rs : List Piece). opens_comment (sign (codes "(") ∷ rs)) (sym two.1) ∙ ap opens_comment (sym one.1) ∙ o in
    let wrong : true ≡ false = both in
    cc

-- ---- a text whose numbers are in range is not refused for its pieces

-- what goes on from a front
goes_on : (text : Text) (at : ℕ) (front : Front text at) (tokens : List Token) → Lexes text tokens
    → (tail : List Piece) × Pieces piece tail front.rest × All IsInRange tail × (opens_comment tail ≡ false)
goes_on text at front tokens t =
    let m = front_goes_on piece piece_begins piece_cuts.same front.pieces t.are_tokens.pieces text front.rest front.cut t.are_tokens.cut in (
      m.0,
      m.2,
      all_tail IsInRange front.pieces m.0 (subst (λ u. All IsInRange u) m.1 t.in_range),
      later_closed front.pieces m.0 (ap opens_comment (sym m.1) ∙ t.are_tokens.closed),
    )

no_byte : (text : Text) (at : ℕ) (due : BadByteDue text at) (tail : List Piece) → Pieces piece tail due.front.rest → ⊥
no_byte text at due [] d =
    let none : length due.front.rest ≡ 0 = ap (λ (u : Text). length u) d in
    let place = due.front.place in
    let within = due.within in
    omega arith
no_byte text at due (p ∷ tail) d = due.no_piece p d.0 d.1 d.2 d.4

no_number : (text : Text) (at : ℕ) (due : NumberTooBigDue text at) (tail : List Piece) → Pieces piece tail due.front.rest → All IsInRange tail → ⊥
unfolding IsInRange
no_number text at due [] d h = some_byte piece piece_begins piece_cuts.same (number due.digits) due.digits due.more due.is_number (sym d ∙ due.there)
no_number text at due (p ∷ tail) d h =
    let m = one_piece piece piece_begins piece_cuts.same p (number due.digits) d.0 due.digits d.1 due.more due.front.rest d.2 due.is_number d.3 due.longest d.4 due.there in
    let small : IsInRange (number due.digits) = subst (λ (q : Piece). IsInRange q) m.0 (All-head IsInRange p tail h) in
    let big = due.too_big in
    omega (arith, small)

pub no_bad_byte : (text : Text) (at : ℕ) → BadByteDue text at → (tokens : List Token) → Lexes text tokens → ⊥
no_bad_byte text at due tokens t = let m = goes_on text at due.front tokens t in no_byte text at due m.0 m.1

pub no_big_number : (text : Text) (at : ℕ) → NumberTooBigDue text at → (tokens : List Token) → Lexes text tokens → ⊥
no_big_number text at due tokens t = let m = goes_on text at due.front tokens t in no_number text at due m.0 m.1 m.2

pub no_open_comment : (text : Text) (at : ℕ) → OpenCommentDue text at → (tokens : List Token) → Lexes text tokens → ⊥
no_open_comment text at due tokens t =
    let m = goes_on text at due.front tokens t in
    stuck due.more m.0 due.open_end (subst (λ (u : Text). Pieces piece m.0 u) due.there m.1) m.3

-- ---- the numbers of a program are in range

range_of : (d : Text) → (kind_of_number d ≡ kinds.Outside → ⊥) → number_of d ≤ greatest
range_of d h = go (nat_le (number_of d) greatest) refl
  where
    go : (x : Bool) → nat_le (number_of d) greatest ≡ x → number_of d ≤ greatest
    go true e = grind (arith, nat_tests)
    go false e = absurd (h (rw e refl))

inside_range : (ps : List Piece) → Inside (filter_map token_of ps) → All IsInRange ps
unfolding IsInRange
inside_range [] h = All-nil IsInRange
inside_range (blank ∷ ps) h = All-cons IsInRange blank ps tt (inside_range ps h)
inside_range (comment ∷ ps) h = All-cons IsInRange comment ps tt (inside_range ps h)
inside_range (word w ∷ ps) h = All-cons IsInRange (word w) ps tt (inside_range ps h.1)
inside_range (number d ∷ ps) h = All-cons IsInRange (number d) ps (range_of d h.0) (inside_range ps h.1)
inside_range (sign s ∷ ps) h = All-cons IsInRange (sign s) ps tt (inside_range ps h.1)

derives_lexes : (text : Text) (p : Program) (d : Derives text p) → Lexes text d.tokens
derives_lexes text p d =
    let m = whole_fits p d.tokens d.derived in
    let inside : Inside (filter_map token_of d.are_tokens.pieces) = subst (λ (ts : List Token). Inside ts) d.are_tokens.are m.1 in
    record { are_tokens = d.are_tokens; in_range = inside_range d.are_tokens.pieces inside }

-- ---- refusals

-- a text that is refused derives no program
pub refused_derives_none : (text : Text) (why : StErr) → RefusalDue text why → (why ≡ err.Memory → ⊥) → (p : Program) → Derives text p → ⊥
refused_derives_none text (err.StBadByte at) due other p d = no_bad_byte text at due d.tokens (derives_lexes text p d)
refused_derives_none text (err.StNumberTooBig at) due other p d = no_big_number text at due d.tokens (derives_lexes text p d)
refused_derives_none text (err.StOpenComment at) due other p d = no_open_comment text at due d.tokens (derives_lexes text p d)
refused_derives_none text (err.StNotRead at) due other p d = due.no_program p d
refused_derives_none text err.Memory due other p d = other refl
