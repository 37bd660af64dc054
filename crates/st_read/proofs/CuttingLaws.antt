-- The pieces of a text of Structured Text are found by cutting, and a text has at most one list of tokens.
use Rattle.std.proofs.Common.{◌≡◌, ◌==◌, ℕ, ◌≤◌, ◌<◌, Bool, true, false, ◌||◌, nat_le, List, [], ◌∷◌, ◌++◌, length, Option, Some, None, refl, sym, ap, ◌∙◌, arith, inl, inr, leb-true, filter_map}
use Rattle.std.specs.Option.{option_or}
use Rattle.std.proofs.lemmas.Bool.{or_left, or_right}
use Rattle.std.proofs.lemmas.Bool.Decides.{nat_tests}
use Rattle.grammar.specs.Pieces.{Text, Kinds, ◌∣◌, IsLongest, Pieces, Cut, Cutter, cut_all, after_byte, closed, IsClosed, one_text, none_longer}
use Rattle.grammar.proofs.Cutting.{Cuts, either_cuts, run_cuts, after_cuts, closed_cuts, text_cuts, cut_iff}
use Rattle.grammar.proofs.Texts.{and_left, and_right}
use Rattle.grammar.specs.Bytes.{is_blank, begins_word, is_digit, is_wordy, none_of}
use Rattle.st_ast.specs.Tokens.{Piece, blank, comment, word, number, sign, signs, piece, Token, token_of, Tokens}
use Rattle.st_read.specs.Cutting.{first_cut, begins_sign, piece_cut}

-- ---- a choice between longer pieces and shorter ones

pub first_cuts : {P : Type 0} {f g : ℕ → Bool} {r s : Kinds P} {c d : Cutter P} → Cuts f r c → Cuts g s d → ((p q : P) (x y : Text) → r p x → s q y → length y < length x)
    → Cuts (λ b. f b || g b) (r ∣ s) (first_cut c d)
first_cuts {P = P} {f = f} {g = g} {r = r} {s = s} {c = c} {d = d} h k longer = record {
  begins = begins_first;
  same = same_first;
  found = λ text w e. found_first text w (c text) refl e;
  none = λ text e. none_first text (c text) refl e;
}
  where
    begins_first : (p : P) (x : Text) → (r ∣ s) p x → (b : ℕ) × (t : Text) × (x ≡ b ∷ t) × ((f b || g b) ≡ true)
    begins_first p x (inl w) = let m = h.begins p x w in (m.0, m.1, m.2, or_left (f m.0) (g m.0) m.3)
    begins_first p x (inr w) = let m = k.begins p x w in (m.0, m.1, m.2, or_right (f m.0) (g m.0) m.3)

    not_both : (p q : P) (x : Text) → r p x → s q x → ⊥
    not_both p q x w u = let m = longer p q x x w u in omega arith

    same_first : (p q : P) (x : Text) → (r ∣ s) p x → (r ∣ s) q x → p ≡ q
    same_first p q x (inl w) (inl u) = h.same p q x w u
    same_first p q x (inl w) (inr u) = absurd (not_both p q x w u)
    same_first p q x (inr w) (inl u) = absurd (not_both q p x u w)
    same_first p q x (inr w) (inr u) = k.same p q x w u

    longest_left : (text : Text) (w : Cut P) → r w.piece w.bytes → IsLongest r w.bytes text → IsLongest (r ∣ s) w.bytes text
    longest_left text w is m q y z (inl u) e = m q y z u e
    longest_left text w is m q y z (inr u) e = let less = longer w.piece q w.bytes y is u in omega arith

    longest_right : (text : Text) (w : Cut P) → c text ≡ None → IsLongest s w.bytes text → IsLongest (r ∣ s) w.bytes text
    longest_right text w t m q y z (inl u) e = absurd (h.none text t q y z u e)
    longest_right text w t m q y z (inr u) e = m q y z u e

    found_first : (text : Text) (w : Cut P) (o : Option (Cut P)) → c text ≡ o → option_or o (d text) ≡ Some w → (r ∣ s) w.piece w.bytes × IsLongest (r ∣ s) w.bytes text × (text ≡ w.bytes ++ w.rest)
    found_first text w None is e = let m = k.found text w e in (inr m.0, longest_right text w is m.1, m.2)
    found_first text w (Some v) is e = let m = h.found text w (is ∙ e) in (inl m.0, longest_left text w m.0 m.1, m.2)

    none_first : (text : Text) (o : Option (Cut P)) → c text ≡ o → option_or o (d text) ≡ None → (q : P) (y z : Text) → (r ∣ s) q y → text ≡ y ++ z → ⊥
    none_first text None is e q y z (inl u) g = h.none text is q y z u g
    none_first text None is e q y z (inr u) g = k.none text e q y z u g
    none_first text (Some v) is e q y z u g = cc

-- ---- a comment is longer than a sign

closed_long : (a b : ℕ) (x : Text) → IsClosed a b x → 2 ≤ length x
closed_long a b [] w = absurd w
closed_long a b (c ∷ []) w = absurd w
closed_long a b (c ∷ d ∷ x) w = omega arith

comment_long : (p : Piece) (x : Text) → after_byte 40 (closed 42 42 41 comment) p x → 4 ≤ length x
comment_long p x d =
    let inner = d.1 in
    let long = closed_long 42 41 inner.0 inner.1 in
    let one : length d.0 ≡ length (42 ∷ inner.0) = ap (λ (v : Text). length v) inner.2 in
    let two : length x ≡ length (40 ∷ d.0) = ap (λ (v : Text). length v) d.2 in
    omega arith

text_short : {P : Type 0} (n : ℕ) (ss : List Text) (make : Text → P) → none_longer n ss ≡ true → (p : P) (x : Text) → one_text ss make p x → length x ≤ n
text_short n [] make e p x d = absurd d
text_short n (s ∷ ss) make e p x (inl d) = let small : length s ≤ n = leb-true (length s) n (and_left (nat_le (length s) n) (none_longer n ss) e) in let len = ap (λ (v : Text). length v) d.0 in omega arith
text_short n (s ∷ ss) make e p x (inr d) = text_short n ss make (and_right (nat_le (length s) n) (none_longer n ss) e) p x d

comment_longer : (p q : Piece) (x y : Text) → after_byte 40 (closed 42 42 41 comment) p x → one_text signs sign q y → length y < length x
comment_longer p q x y d e = let long = comment_long p x d in let short = text_short 2 signs sign refl q y e in omega arith

-- ---- the pieces of Structured Text

-- what begins the pieces from each one on
abbrev from_comment : ℕ → Bool
from_comment b = b == 40 || begins_sign b

abbrev from_digit : ℕ → Bool
from_digit b = is_digit b || from_comment b

abbrev from_letter : ℕ → Bool
from_letter b = begins_word b || from_digit b

digit_apart : (b : ℕ) → is_digit b ≡ true → from_comment b ≡ true → ⊥
digit_apart b e f = grind (arith, nat_tests)

letter_apart : (b : ℕ) → begins_word b ≡ true → from_digit b ≡ true → ⊥
letter_apart b e f = grind (arith, nat_tests)

blank_apart : (b : ℕ) → is_blank b ≡ true → from_letter b ≡ true → ⊥
blank_apart b e f = grind (arith, nat_tests)

pub piece_cuts : Cuts (λ b. is_blank b || from_letter b) piece piece_cut
unfolding piece piece_cut
piece_cuts = either_cuts (run_cuts is_blank none_of (λ t. blank)) blank_apart
    (either_cuts (run_cuts begins_word is_wordy word) letter_apart
    (either_cuts (run_cuts is_digit is_digit number) digit_apart
    (first_cuts (after_cuts 40 (closed_cuts 42 42 41 comment)) (text_cuts begins_sign signs sign refl refl) comment_longer)))

-- A text is at most one list of pieces, and cutting finds it.
pub pieces_found : (text : Text) (ps : List Piece) → (cut_all piece_cut text ≡ Some ps → Pieces piece ps text) × (Pieces piece ps text → cut_all piece_cut text ≡ Some ps)
pieces_found text ps = cut_iff piece_cuts text ps

pub one_piece_list : (text : Text) (a b : List Piece) → Pieces piece a text → Pieces piece b text → a ≡ b
one_piece_list text a b p q =
    let m = (pieces_found text a).1 p in
    let n = (pieces_found text b).1 q in
    cc

pub token_lists_agree : (text : Text) (a b : List Token) → Tokens text a → Tokens text b → a ≡ b
token_lists_agree text a b s t = s.are ∙ ap (filter_map token_of) (one_piece_list text s.pieces t.pieces s.cut t.cut) ∙ sym t.are
