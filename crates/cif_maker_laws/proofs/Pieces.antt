-- Pieces of which no two neighbours run together are cut from their text as they were written.
use Rattle.std.proofs.Common.{◌≡◌, ◌==◌, ℕ, ◌+◌, ◌≤◌, ◌<◌, nat_le, Bool, true, false, not, ◌||◌, ◌&&◌, List, [], ◌∷◌, ◌++◌, length, All, Option, Some, None, refl, sym, ap, subst, ◌∙◌, arith, inl, inr}
use Rattle.std.proofs.lemmas.Bool.Decides.{nat_tests}
use Rattle.std.proofs.lemmas.List.{length-append, append-nil}
use Rattle.std.proofs.lemmas.List.Elements.{All-nil, All-cons}
use Rattle.grammar.specs.Pieces.{Text, IsLongest, Pieces, Cut, run_of, AllAre, one_text, text_cut}
use Rattle.grammar.specs.Bytes.{is_blank, begins_word, is_digit, is_wordy, none_of}
use Rattle.grammar.proofs.Texts.{and_left, and_right, from_test}
use Rattle.grammar.proofs.Cutting.{Cuts, text_cuts, text_made}
use Rattle.cif_lex.specs.Tokens.{Piece, blank, comment, word, escaped, number, sign, signs, piece, is_zero, is_leading, sized, kind_of, with_token, tokens_at, IsInRange, Tokens}
use Rattle.cif_lex.proofs.CutLaws.{piece_cut, piece_cuts}
use Rattle.cif_maker_laws.specs.Written.{Written, AreWritten, text_of, tokens_of, begins_with, one_begins, goes_on, ends_before, are_apart}

not_true : (b : Bool) → not b ≡ true → b ≡ false
not_true true e = absurd cc
not_true false e = refl

-- ---- runs

run_front : (f : ℕ → Bool) (t : Text) (c : ℕ) (more : Text) → AllAre f t → f c ≡ false → run_of f (t ++ c ∷ more) ≡ (t, c ∷ more)
run_front f [] c more a e = rw e refl
run_front f (b ∷ t) c more a e = let ih = run_front f t c more a.1 e in rw (a.0, ih) refl

-- what is cut off is the longest
module _ (x : Text) (text : Text) (p : Piece) (rest : Text) where
  cut_longest : piece_cut text ≡ Some (record { piece = p; bytes = x; rest = rest }) → IsLongest piece x text
  cut_longest e = (piece_cuts.found text (record { piece = p; bytes = x; rest = rest }) e).1

blank_longest : (b c : ℕ) (t more : Text) → is_blank b ≡ true → AllAre none_of t → IsLongest piece (b ∷ t) ((b ∷ t) ++ c ∷ more)
unfolding piece_cut
blank_longest b c [] more e a = cut_longest (b ∷ []) (b ∷ c ∷ more) blank (c ∷ more) (rw e refl)
blank_longest b c (d ∷ t) more e a = absurd (let w = a.0 in cc)

word_no_blank : (b : ℕ) → begins_word b ≡ true → is_blank b ≡ false
word_no_blank b e = go (is_blank b) refl
  where
    go : (x : Bool) → is_blank b ≡ x → x ≡ false
    go true g = absurd (grind (arith, nat_tests))
    go false g = refl

word_longest : (b c : ℕ) (t more : Text) → begins_word b ≡ true → AllAre is_wordy t → is_wordy c ≡ false → IsLongest piece (b ∷ t) ((b ∷ t) ++ c ∷ more)
unfolding piece_cut
word_longest b c t more e a s =
    let other = word_no_blank b e in
    let r = run_front is_wordy t c more a s in
    cut_longest (b ∷ t) (b ∷ (t ++ c ∷ more)) (word (b ∷ t)) (c ∷ more) (rw (other, e, r) refl)

escaped_longest : (b c : ℕ) (t more : Text) → begins_word b ≡ true → AllAre is_wordy t → is_wordy c ≡ false → IsLongest piece (36 ∷ b ∷ t) ((36 ∷ b ∷ t) ++ c ∷ more)
unfolding piece_cut
escaped_longest b c t more e a s =
    let r = run_front is_wordy t c more a s in
    cut_longest (36 ∷ b ∷ t) (36 ∷ b ∷ (t ++ c ∷ more)) (escaped (b ∷ t)) (c ∷ more) (rw (e, r) refl)

zero_longest : (b c : ℕ) (t more : Text) → is_zero b ≡ true → AllAre none_of t → IsLongest piece (b ∷ t) ((b ∷ t) ++ c ∷ more)
unfolding piece_cut
zero_longest b c [] more e a = subst (λ n. IsLongest piece (n ∷ []) (n ∷ c ∷ more)) (from_test b 48 e) (cut_longest (48 ∷ []) (48 ∷ c ∷ more) (number (48 ∷ [])) (c ∷ more) refl)
zero_longest b c (d ∷ t) more e a = absurd (let w = a.0 in cc)

leading_other : (b : ℕ) → is_leading b ≡ true → (is_blank b ≡ false) × (begins_word b ≡ false) × ((b == 36) ≡ false) × (is_zero b ≡ false)
leading_other b e = (go (is_blank b) refl, go' (begins_word b) refl, dollar (b == 36) refl, none (is_zero b) refl)
  where
    go : (x : Bool) → is_blank b ≡ x → x ≡ false
    go true g = absurd (grind (arith, nat_tests))
    go false g = refl

    go' : (x : Bool) → begins_word b ≡ x → x ≡ false
    go' true g = absurd (grind (arith, nat_tests))
    go' false g = refl

    dollar : (x : Bool) → (b == 36) ≡ x → x ≡ false
    dollar true g = absurd (grind (arith, nat_tests))
    dollar false g = refl

    none : (x : Bool) → is_zero b ≡ x → x ≡ false
    none true g = absurd (grind (arith, nat_tests))
    none false g = refl

leading_longest : (b c : ℕ) (t more : Text) → is_leading b ≡ true → AllAre is_digit t → is_digit c ≡ false → IsLongest piece (b ∷ t) ((b ∷ t) ++ c ∷ more)
unfolding piece_cut
leading_longest b c t more e a s =
    let o = leading_other b e in
    let h = o.0 in
    let i = o.1 in
    let j = o.2 in
    let k = o.3 in
    let r = run_front is_digit t c more a s in
    cut_longest (b ∷ t) (b ∷ (t ++ c ∷ more)) (number (b ∷ t)) (c ∷ more) (rw (h, i, j, k, e, r) refl)

-- ---- signs

-- the bytes that a sign begins with
abbrev opens_sign : ℕ → Bool
opens_sign b = b == 33 || nat_le 40 b && nat_le b 46 || nat_le 58 b && nat_le b 63 || b == 91 || b == 93 || b == 123 || b == 125

sign_cuts : Cuts opens_sign (one_text signs sign) (text_cut signs sign)
sign_cuts = text_cuts opens_sign signs sign refl refl

sign_other : (b : ℕ) → opens_sign b ≡ true → (is_blank b ≡ false) × (begins_word b ≡ false) × ((b == 36) ≡ false) × (is_zero b ≡ false) × (is_leading b ≡ false) × ((b == 47) ≡ false)
sign_other b e = (go (is_blank b) refl, go' (begins_word b) refl, dollar (b == 36) refl, none (is_zero b) refl, more (is_leading b) refl, slash (b == 47) refl)
  where
    go : (x : Bool) → is_blank b ≡ x → x ≡ false
    go true g = absurd (grind (arith, nat_tests))
    go false g = refl

    go' : (x : Bool) → begins_word b ≡ x → x ≡ false
    go' true g = absurd (grind (arith, nat_tests))
    go' false g = refl

    dollar : (x : Bool) → (b == 36) ≡ x → x ≡ false
    dollar true g = absurd (grind (arith, nat_tests))
    dollar false g = refl

    none : (x : Bool) → is_zero b ≡ x → x ≡ false
    none true g = absurd (grind (arith, nat_tests))
    none false g = refl

    more : (x : Bool) → is_leading b ≡ x → x ≡ false
    more true g = absurd (grind (arith, nat_tests))
    more false g = refl

    slash : (x : Bool) → (b == 47) ≡ x → x ≡ false
    slash true g = absurd (grind (arith, nat_tests))
    slash false g = refl

-- a longer front begins with the shorter one and the byte behind it
longer_begins : (x y more z : Text) (c : ℕ) → x ++ c ∷ more ≡ y ++ z → length x < length y → begins_with (x ++ c ∷ []) y ≡ true
longer_begins x [] more z c e l = absurd (omega arith)
longer_begins [] (b ∷ y) more z c e l =
    let head : c ≡ b = cc in
    let same : (c == b) ≡ true = grind (arith, nat_tests) in
    rw same refl
longer_begins (a ∷ x) (b ∷ y) more z c e l =
    let head : a ≡ b = cc in
    let tail : x ++ c ∷ more ≡ y ++ z = cc in
    let same : (a == b) ≡ true = grind (arith, nat_tests) in
    let ih = longer_begins x y more z c tail (omega arith) in
    rw (same, ih) refl

none_begins : (x y : Text) (ss : List Text) (q : Piece) → one_text ss sign q y → begins_with x y ≡ true → one_begins x ss ≡ true
none_begins x y [] q d e = absurd d
none_begins x y (s ∷ ss) q (inl d) e = let h : begins_with x s ≡ true = ap (begins_with x) (sym d.0) ∙ e in rw h refl
none_begins x y (s ∷ ss) q (inr d) e = go (begins_with x s) (none_begins x y ss q d e)
  where
    go : (b : Bool) → one_begins x ss ≡ true → (b || one_begins x ss) ≡ true
    go true h = refl
    go false h = h

-- no sign that begins the text is longer
sign_longest_sign : (x more : Text) (c : ℕ) → one_begins (x ++ c ∷ []) signs ≡ false → IsLongest (one_text signs sign) x (x ++ c ∷ more)
sign_longest_sign x more c apart q y z d e = go (nat_le (length y) (length x)) refl
  where
    go : (b : Bool) → nat_le (length y) (length x) ≡ b → length y ≤ length x
    go true h = grind (arith, nat_tests)
    go false h =
        let less : length x < length y = grind (arith, nat_tests) in
        let yes = none_begins (x ++ c ∷ []) y signs q d (longer_begins x y more z c e less) in
        absurd cc

sign_at_front : (b : ℕ) (t text : Text) → opens_sign b ≡ true → piece_cut (b ∷ text) ≡ text_cut signs sign (b ∷ text)
unfolding piece_cut
sign_at_front b t text e =
    let o = sign_other b e in
    let h = o.0 in
    let i = o.1 in
    let j = o.2 in
    let k = o.3 in
    let l = o.4 in
    let m = o.5 in
    rw (h, i, j, k, l, m) refl

sign_longest : (x more : Text) (c : ℕ) (p : Piece) → one_text signs sign p x → one_begins (x ++ c ∷ []) signs ≡ false → IsLongest piece x (x ++ c ∷ more)
sign_longest x more c p d apart = go (text_cut signs sign (x ++ c ∷ more)) refl
  where
    go : (o : Option (Cut Piece)) → text_cut signs sign (x ++ c ∷ more) ≡ o → IsLongest piece x (x ++ c ∷ more)
    go None e = absurd (sign_cuts.none (x ++ c ∷ more) e p x (c ∷ more) d refl)
    go (Some k) e =
        let m = sign_cuts.found (x ++ c ∷ more) k e in
        let s = sign_cuts.begins p x d in
        let whole : x ++ c ∷ more ≡ s.0 ∷ (s.1 ++ c ∷ more) = ap (λ (u : Text). u ++ c ∷ more) s.2 in
        let front = sign_at_front s.0 s.1 (s.1 ++ c ∷ more) s.3 in
        let cut : piece_cut (x ++ c ∷ more) ≡ Some k = ap piece_cut whole ∙ front ∙ ap (text_cut signs sign) (sym whole) ∙ e in
        let f = piece_cuts.found (x ++ c ∷ more) k cut in
        let up = m.1 p x (c ∷ more) d refl in
        let down = sign_longest_sign x more c apart k.piece k.bytes k.rest m.0 m.2 in
        let same : length k.bytes ≡ length x = omega arith in
        λ q y z is was. let fits = f.1 q y z is was in omega arith

-- ---- all

module _ (p : Piece) (x : Text) (c : ℕ) (more : Text) (stops : goes_on p c ≡ false) where
  goes : (q : Piece) → p ≡ q → goes_on q c ≡ false
  goes q e = ap (λ r. goes_on r c) (sym e) ∙ stops

  longest_as : (y : Text) → x ≡ y → IsLongest piece y (y ++ c ∷ more) → IsLongest piece x (x ++ c ∷ more)
  longest_as y e h = subst (λ u. IsLongest piece u (u ++ c ∷ more)) (sym e) h

  longest_before : piece p x → IsLongest piece x (x ++ c ∷ more)
  unfolding piece
  longest_before (inl d) = longest_as (d.0 ∷ d.1) d.4 (blank_longest d.0 c d.1 more d.2 d.3)
  longest_before (inr (inl d)) = longest_as (d.0 ∷ d.1) d.4 (word_longest d.0 c d.1 more d.2 d.3 (goes (word (d.0 ∷ d.1)) d.5))
  longest_before (inr (inr (inl d))) =
      longest_as (36 ∷ d.1.0 ∷ d.1.1) (d.2 ∙ ap (λ u. 36 ∷ u) d.1.4) (escaped_longest d.1.0 c d.1.1 more d.1.2 d.1.3 (goes (escaped (d.1.0 ∷ d.1.1)) d.1.5))
  longest_before (inr (inr (inr (inl d)))) = longest_as (d.0 ∷ d.1) d.4 (zero_longest d.0 c d.1 more d.2 d.3)
  longest_before (inr (inr (inr (inr (inl d))))) = longest_as (d.0 ∷ d.1) d.4 (leading_longest d.0 c d.1 more d.2 d.3 (goes (number (d.0 ∷ d.1)) d.5))
  longest_before (inr (inr (inr (inr (inr (inl (y, inl d, g))))))) = absurd (let e = goes comment d.5 in cc)
  longest_before (inr (inr (inr (inr (inr (inl (y, inr d, g))))))) = absurd (let e = goes comment d.3 in cc)
  longest_before (inr (inr (inr (inr (inr (inr d)))))) = sign_longest x more c p d (goes (sign x) (text_made signs sign p x d))

pub is_longest : (p : Piece) (x rest : Text) → piece p x → ends_before p rest ≡ true → IsLongest piece x (x ++ rest)
is_longest p x [] is e q y z was g =
    let whole : length x ≡ length y + length z = ap (λ (u : Text). length u) (sym (append-nil x) ∙ g) ∙ length-append y z in
    omega arith
is_longest p x (c ∷ more) is e q y z was g = longest_before p x c more (not_true (goes_on p c) e) is q y z was g

-- ---- lists of pieces

abbrev pub sizes_of : List Written → List (Piece × ℕ)
sizes_of [] = []
sizes_of (w ∷ ws) = (w.form, length w.bytes) ∷ sizes_of ws

cut_as_written : (ws : List Written) → AreWritten ws → are_apart ws [] ≡ true → Pieces (sized piece) (sizes_of ws) (text_of ws)
cut_as_written [] h e = refl
cut_as_written (w ∷ ws) h e =
    let first = and_left (ends_before w.form (text_of ws ++ [])) (are_apart ws []) e in
    let ends : ends_before w.form (text_of ws) ≡ true = ap (ends_before w.form) (sym (append-nil (text_of ws))) ∙ first in (
      w.bytes,
      text_of ws,
      (h.0.is, refl),
      (λ q y z r g. is_longest w.form w.bytes (text_of ws) h.0.is ends q.0 y z r.0 g),
      refl,
      cut_as_written ws h.1 (and_right (ends_before w.form (text_of ws ++ [])) (are_apart ws []) e),
    )

all_in_range : (ws : List Written) → AreWritten ws → All (λ p. IsInRange p.0) (sizes_of ws)
all_in_range [] h = All-nil (λ (p : Piece × ℕ). IsInRange p.0)
all_in_range (w ∷ ws) h = All-cons (λ (p : Piece × ℕ). IsInRange p.0) (w.form, length w.bytes) (sizes_of ws) h.0.in_range (all_in_range ws h.1)

same_tokens : (at : ℕ) (ws : List Written) → AreWritten ws → tokens_of at ws ≡ tokens_at at (sizes_of ws)
same_tokens at [] h = refl
same_tokens at (w ∷ ws) h =
    ap (λ k. with_token k at (length w.bytes) (tokens_of (at + length w.bytes) ws)) (sym h.0.has_kind)
    ∙ ap (with_token (kind_of w.form) at (length w.bytes)) (same_tokens (at + length w.bytes) ws h.1)

-- Pieces of which no two neighbours run together are cut as they are written.
pub written_tokens : (ws : List Written) → AreWritten ws → are_apart ws [] ≡ true → Tokens (text_of ws) (tokens_of 0 ws)
written_tokens ws h e = record { pieces = sizes_of ws; cut = cut_as_written ws h e; in_range = all_in_range ws h; are = same_tokens 0 ws h }
