-- The tokens of a printed text are those of its marks.
use Rattle.std.proofs.Common.{◌≡◌, ◌==◌, ℕ, zero, suc, ◌*◌, ◌<◌, Bool, true, false, not, ◌&&◌, ◌||◌, List, [], ◌∷◌, ◌++◌, length, Some, refl, sym, ap, subst, ◌∙◌, arith}
use Rattle.std.specs.Prelude.{if◌then◌else◌, codes, decimal, replicate, filter_map}
use Rattle.std.specs.List.{list_any, list_all, AllByRecursion}
use Rattle.std.proofs.lemmas.Bool.Decides.{nat_tests}
use Rattle.grammar.specs.Pieces.{Text, Pieces, AllAre, head_is, run_of, same}
use Rattle.grammar.proofs.Texts.{and_left, and_right, same_equal}
use Rattle.st_ast.specs.Tokens as tk
use Rattle.grammar.specs.Bytes.{is_blank, begins_word, is_digit, is_wordy}
use Rattle.st_ast.specs.Tokens.{Piece, piece, is_sign, opens_comment, token_of, Tokens}
use Rattle.st_read.specs.Cutting.{piece_cut}
use Rattle.st_read.proofs.CuttingLaws.{piece_cuts}
use Rattle.grammar.proofs.Decimals.{decimal_digits, decimal_nonempty}
use Rattle.st_print.specs.Layout.{Mark, line, word, digits, sign, dash, times, call, gap, closes, opens, fresh_after, text_of}
use Rattle.st_ast.specs.Spelled.{is_word_text}
use Rattle.st_print.specs.Marks.{tokens_of, mark_signs, AreMarks}

-- ---- tests

all_are : (f : ℕ → Bool) (t : Text) → list_all f t ≡ true → AllAre f t
all_are f [] e = tt
all_are f (b ∷ t) e = (and_left (f b) (list_all f t) e, all_are f t (and_right (f b) (list_all f t) e))

-- ---- what holds of each sign

of_each : (P : Text → Type 0) (ss : List Text) (s : Text) → AllByRecursion P ss → list_any (λ t. same s t) ss ≡ true → P s
of_each P [] s h e = absurd cc
of_each P (t ∷ ss) s h e = go (same s t) refl e (λ w. of_each P ss s h.1 w)
  where
    go : (b : Bool) → same s t ≡ b → (b || list_any (λ u. same s u) ss) ≡ true → (list_any (λ u. same s u) ss ≡ true → P s) → P s
    go true is w ih = subst P (sym (same_equal s t is)) h.0
    go false is w ih = ih w

-- what may stand after a word, digits and most signs: nothing, a blank, a line break, or `;` `,` `:` `)` `(`
abbrev ends : ℕ → Bool
ends b = b == 32 || b == 10 || b == 59 || b == 44 || b == 58 || b == 41 || b == 40

abbrev is_stop : Text → Bool
is_stop [] = true
is_stop (b ∷ t) = ends b

each_passes : (test : Text → Bool) (ss : List Text) → list_all test ss ≡ true → AllByRecursion (λ s. test s ≡ true) ss
each_passes test [] h = tt
each_passes test (s ∷ ss) h = (and_left (test s) (list_all test ss) h, each_passes test ss (and_right (test s) (list_all test ss) h))

abbrev is_star : ℕ → Bool
is_star b = b == 42

-- no star begins it
abbrev begins_other : Text → Bool
begins_other [] = false
begins_other (b ∷ s) = not (is_star b)

-- where no blank is due before it, it may stand directly after a word
abbrev may_adjoin : Text → Bool
may_adjoin [] = false
may_adjoin (b ∷ s) = not (closes (b ∷ s)) || ends b

abbrev may_follow : Text → Text → Bool
may_follow s rest = if opens s then not (head_is is_star rest) else is_stop rest

abbrev IsCutSign : Text → Type 0
IsCutSign s = (rest : Text) → may_follow s rest ≡ true → piece_cut (s ++ rest) ≡ Some (record { piece = tk.sign s; bytes = s; rest = rest })

colon_cut : IsCutSign (codes ":")
unfolding piece_cut
colon_cut [] e = refl
colon_cut (b ∷ t) e = let other : (61 == b) ≡ false = grind (arith, nat_tests) in rw other refl

less_cut : IsCutSign (codes "<")
unfolding piece_cut
less_cut [] e = refl
less_cut (b ∷ t) e = let other : (61 == b) ≡ false = grind (arith, nat_tests) in let second : (62 == b) ≡ false = grind (arith, nat_tests) in rw (second, other) refl

more_cut : IsCutSign (codes ">")
unfolding piece_cut
more_cut [] e = refl
more_cut (b ∷ t) e = let other : (61 == b) ≡ false = grind (arith, nat_tests) in rw other refl

open_cut : IsCutSign (codes "(")
unfolding piece_cut
open_cut [] e = refl
open_cut (b ∷ t) e = let other : (b == 42) ≡ false = grind (arith, nat_tests) in rw other refl

signs_cut : AllByRecursion IsCutSign mark_signs
unfolding piece_cut
signs_cut = (
  λ rest e. refl,
  (
    λ rest e. refl,
    (
      λ rest e. refl,
      (
        λ rest e. refl,
        (
          λ rest e. refl,
          (
            λ rest e. refl,
            (
              colon_cut,
              (
                open_cut,
                (
                  λ rest e. refl,
                  (λ rest e. refl, (λ rest e. refl, (λ rest e. refl, (λ rest e. refl, (λ rest e. refl, (less_cut, (more_cut, tt))))))),
                ),
              ),
            ),
          ),
        ),
      ),
    ),
  ),
)

-- ---- runs

run_of-all : (f : ℕ → Bool) (t rest : Text) → AllAre f t → head_is f rest ≡ false → run_of f (t ++ rest) ≡ (t, rest)
run_of-all f [] [] a e = refl
run_of-all f [] (b ∷ rest) a e = rw e refl
run_of-all f (c ∷ t) rest a e = rw (a.0, run_of-all f t rest a.1 e) refl

stop_not_wordy : (rest : Text) → is_stop rest ≡ true → head_is is_wordy rest ≡ false
stop_not_wordy [] e = refl
stop_not_wordy (b ∷ rest) e = byte b e
  where
    byte : (b : ℕ) → ends b ≡ true → is_wordy b ≡ false
    byte b e = grind (arith, nat_tests)

stop_not_digit : (rest : Text) → is_stop rest ≡ true → head_is is_digit rest ≡ false
stop_not_digit [] e = refl
stop_not_digit (b ∷ rest) e = byte b e
  where
    byte : (b : ℕ) → ends b ≡ true → is_digit b ≡ false
    byte b e = grind (arith, nat_tests)

letter_not_blank : (b : ℕ) → begins_word b ≡ true → is_blank b ≡ false
letter_not_blank b e = grind (arith, nat_tests)

digit_not_blank : (b : ℕ) → is_digit b ≡ true → is_blank b ≡ false
digit_not_blank b e = grind (arith, nat_tests)

digit_not_letter : (b : ℕ) → is_digit b ≡ true → begins_word b ≡ false
digit_not_letter b e = grind (arith, nat_tests)

word_cut : (w rest : Text) → is_word_text w ≡ true → is_stop rest ≡ true → piece_cut (w ++ rest) ≡ Some (record { piece = tk.word w; bytes = w; rest = rest })
unfolding piece_cut
word_cut [] rest e s = absurd cc
word_cut (b ∷ t) rest e s =
    let letter : begins_word b ≡ true = and_left (begins_word b) (list_all is_wordy t) e in
    let all = all_are is_wordy t (and_right (begins_word b) (list_all is_wordy t) e) in
    rw (letter_not_blank b letter, letter, run_of-all is_wordy t rest all (stop_not_wordy rest s)) refl

number_cut : (d rest : Text) → 0 < length d → AllAre is_digit d → is_stop rest ≡ true → piece_cut (d ++ rest) ≡ Some (record { piece = tk.number d; bytes = d; rest = rest })
unfolding piece_cut
number_cut [] rest l a s = absurd (omega arith)
number_cut (b ∷ t) rest l a s =
    rw (digit_not_blank b a.0, digit_not_letter b a.0, a.0, run_of-all is_digit t rest a.1 (stop_not_digit rest s)) refl

blank_cut : (rest : Text) → piece_cut (32 ∷ rest) ≡ Some (record { piece = tk.blank; bytes = 32 ∷ []; rest = rest })
unfolding piece_cut
blank_cut [] = refl
blank_cut (b ∷ rest) = refl

break_cut : (rest : Text) → piece_cut (10 ∷ rest) ≡ Some (record { piece = tk.blank; bytes = 10 ∷ []; rest = rest })
unfolding piece_cut
break_cut [] = refl
break_cut (b ∷ rest) = refl

dash_cut : (rest : Text) → piece_cut (45 ∷ rest) ≡ Some (record { piece = tk.sign (codes "-"); bytes = codes "-"; rest = rest })
unfolding piece_cut
dash_cut rest = refl

times_cut : (rest : Text) → piece_cut (42 ∷ rest) ≡ Some (record { piece = tk.sign (codes "*"); bytes = codes "*"; rest = rest })
unfolding piece_cut
times_cut rest = refl

-- ---- what stands after a mark

no_star : (s rest : Text) → begins_other s ≡ true → head_is is_star (s ++ rest) ≡ false
no_star [] rest e = absurd cc
no_star (b ∷ s) rest e = go (is_star b) e
  where
    go : (x : Bool) → not x ≡ true → x ≡ false
    go true e = absurd cc
    go false e = refl

starts_no_star : (s : Text) → list_any (λ t. same s t) mark_signs ≡ true → (rest : Text) → head_is is_star (s ++ rest) ≡ false
starts_no_star s e rest = no_star s rest (of_each (λ t. begins_other t ≡ true) mark_signs s (each_passes begins_other mark_signs refl) e)

stops_before : (s rest : Text) → may_adjoin s ≡ true → closes s ≡ true → is_stop (s ++ rest) ≡ true
stops_before [] rest e c = absurd cc
stops_before (b ∷ s) rest e c = go (closes (b ∷ s)) (ends b) e c
  where
    go : (x y : Bool) → (not x || y) ≡ true → x ≡ true → y ≡ true
    go true y e c = e
    go false y e c = absurd cc

close_stops : (s : Text) → list_any (λ t. same s t) mark_signs ≡ true → closes s ≡ true → (rest : Text) → is_stop (s ++ rest) ≡ true
close_stops s e c rest = stops_before s rest (of_each (λ t. may_adjoin t ≡ true) mark_signs s (each_passes may_adjoin mark_signs refl) e) c

after_stop : (ms : List Mark) → AreMarks ms → is_stop (text_of false ms) ≡ true
after_stop [] a = refl
after_stop (line n ∷ ms) a = refl
after_stop (word w ∷ ms) a = refl
after_stop (digits n ∷ ms) a = refl
after_stop (dash ∷ ms) a = refl
after_stop (times ∷ ms) a = refl
after_stop (call ∷ ms) a = refl
after_stop (sign s ∷ ms) a = go (closes s) refl
  where
    go : (b : Bool) → closes s ≡ b → is_stop ((gap b ++ s) ++ text_of (opens s) ms) ≡ true
    go true is = close_stops s a.0 is (text_of (opens s) ms)
    go false is = refl

wordy_not_star : (w rest : Text) → is_word_text w ≡ true → head_is is_star (w ++ rest) ≡ false
wordy_not_star [] rest e = absurd cc
wordy_not_star (b ∷ t) rest e = byte b (and_left (begins_word b) (list_all is_wordy t) e)
  where
    byte : (b : ℕ) → begins_word b ≡ true → is_star b ≡ false
    byte b e = grind (arith, nat_tests)

digits_not_star : (d rest : Text) → 0 < length d → AllAre is_digit d → head_is is_star (d ++ rest) ≡ false
digits_not_star [] rest l a = absurd (omega arith)
digits_not_star (b ∷ t) rest l a = byte b a.0
  where
    byte : (b : ℕ) → is_digit b ≡ true → is_star b ≡ false
    byte b e = grind (arith, nat_tests)

after_open : (ms : List Mark) → AreMarks ms → head_is is_star (text_of true ms) ≡ false
after_open [] a = refl
after_open (line n ∷ ms) a = refl
after_open (word w ∷ ms) a = wordy_not_star w (text_of false ms) a.0
after_open (digits n ∷ ms) a = digits_not_star (decimal n) (text_of false ms) (decimal_nonempty n) (decimal_digits n)
after_open (dash ∷ ms) a = refl
after_open (times ∷ ms) a = refl
after_open (call ∷ ms) a = refl
after_open (sign s ∷ ms) a = starts_no_star s a.0 (text_of (opens s) ms)

after_sign : (s : Text) (ms : List Mark) → AreMarks ms → may_follow s (text_of (opens s) ms) ≡ true
after_sign s ms a = go (opens s)
  where
    go : (b : Bool) → (if b then not (head_is is_star (text_of b ms)) else is_stop (text_of b ms)) ≡ true
    go true = rw (after_open ms a) refl
    go false = after_stop ms a

-- ---- the pieces of the text of marks

abbrev gap_pieces : Bool → List Piece
gap_pieces true = []
gap_pieces false = tk.blank ∷ []

abbrev mark_pieces : Bool → Mark → List Piece
mark_pieces fresh (line n) = tk.blank ∷ replicate (2 * n) tk.blank
mark_pieces fresh (word w) = gap_pieces fresh ++ (tk.word w ∷ [])
mark_pieces fresh (digits n) = gap_pieces fresh ++ (tk.number (decimal n) ∷ [])
mark_pieces fresh (sign s) = gap_pieces (fresh || closes s) ++ (tk.sign s ∷ [])
mark_pieces fresh dash = gap_pieces fresh ++ (tk.sign (codes "-") ∷ [])
mark_pieces fresh times = tk.blank ∷ tk.sign (codes "*") ∷ []
mark_pieces fresh call = tk.sign (codes "(") ∷ []

abbrev pieces_of : Bool → List Mark → List Piece
pieces_of fresh [] = []
pieces_of fresh (m ∷ ms) = mark_pieces fresh m ++ pieces_of (fresh_after m) ms

one_piece : (p : Piece) (x rest : Text) (ps : List Piece) → piece_cut (x ++ rest) ≡ Some (record { piece = p; bytes = x; rest = rest }) → Pieces piece ps rest → Pieces piece (p ∷ ps) (x ++ rest)
one_piece p x rest ps e more =
    let m = piece_cuts.found (x ++ rest) (record { piece = p; bytes = x; rest = rest }) e in
    (x, rest, m.0, m.1, m.2, more)

blank_pieces : (k : ℕ) (rest : Text) (ps : List Piece) → Pieces piece ps rest → Pieces piece (replicate k tk.blank ++ ps) (replicate k 32 ++ rest)
blank_pieces zero rest ps more = more
blank_pieces (suc k) rest ps more = one_piece tk.blank (32 ∷ []) (replicate k 32 ++ rest) (replicate k tk.blank ++ ps) (blank_cut (replicate k 32 ++ rest)) (blank_pieces k rest ps more)

gap_and_piece : (fresh : Bool) (p : Piece) (x rest : Text) (ps : List Piece) → piece_cut (x ++ rest) ≡ Some (record { piece = p; bytes = x; rest = rest }) → Pieces piece ps rest
    → Pieces piece ((gap_pieces fresh ++ (p ∷ [])) ++ ps) ((gap fresh ++ x) ++ rest)
gap_and_piece true p x rest ps e more = one_piece p x rest ps e more
gap_and_piece false p x rest ps e more = one_piece tk.blank (32 ∷ []) (x ++ rest) (p ∷ ps) (blank_cut (x ++ rest)) (one_piece p x rest ps e more)

pieces_of-cut : (fresh : Bool) (ms : List Mark) → AreMarks ms → Pieces piece (pieces_of fresh ms) (text_of fresh ms)
pieces_of-cut fresh [] a = refl
pieces_of-cut fresh (line n ∷ ms) a =
    one_piece tk.blank (10 ∷ []) (replicate (2 * n) 32 ++ text_of true ms) (replicate (2 * n) tk.blank ++ pieces_of true ms) (break_cut (replicate (2 * n) 32 ++ text_of true ms))
    (blank_pieces (2 * n) (text_of true ms) (pieces_of true ms) (pieces_of-cut true ms a.1))
pieces_of-cut fresh (word w ∷ ms) a =
    gap_and_piece fresh (tk.word w) w (text_of false ms) (pieces_of false ms) (word_cut w (text_of false ms) a.0 (after_stop ms a.1)) (pieces_of-cut false ms a.1)
pieces_of-cut fresh (digits n ∷ ms) a =
    gap_and_piece fresh (tk.number (decimal n)) (decimal n) (text_of false ms) (pieces_of false ms)
    (number_cut (decimal n) (text_of false ms) (decimal_nonempty n) (decimal_digits n) (after_stop ms a.1)) (pieces_of-cut false ms a.1)
pieces_of-cut fresh (sign s ∷ ms) a =
    gap_and_piece (fresh || closes s) (tk.sign s) s (text_of (opens s) ms) (pieces_of (opens s) ms)
    (of_each IsCutSign mark_signs s signs_cut a.0 (text_of (opens s) ms) (after_sign s ms a.1)) (pieces_of-cut (opens s) ms a.1)
pieces_of-cut fresh (dash ∷ ms) a =
    gap_and_piece fresh (tk.sign (codes "-")) (codes "-") (text_of true ms) (pieces_of true ms) (dash_cut (text_of true ms)) (pieces_of-cut true ms a.1)
pieces_of-cut fresh (times ∷ ms) a =
    gap_and_piece false (tk.sign (codes "*")) (codes "*") (text_of false ms) (pieces_of false ms) (times_cut (text_of false ms)) (pieces_of-cut false ms a.1)
pieces_of-cut fresh (call ∷ ms) a =
    one_piece (tk.sign (codes "(")) (codes "(") (text_of true ms) (pieces_of true ms) (open_cut (text_of true ms) (after_sign (codes "(") ms a.1)) (pieces_of-cut true ms a.1)

-- ---- no two signs that would be a comment

abbrev begins_star : List Piece → Bool
begins_star [] = false
begins_star (p ∷ ps) = is_sign (codes "*") p

-- no comment in it, and none with a `(` before it
abbrev IsClear : List Piece → Type 0
IsClear ps = (opens_comment ps ≡ false) × (begins_star ps ≡ false)

opens_none : (p : Piece) (ps : List Piece) → IsClear ps → opens_comment (p ∷ ps) ≡ false
opens_none p [] h = refl
opens_none p (q ∷ ps) h = go (is_sign (codes "(") p)
  where
    go : (b : Bool) → (b && is_sign (codes "*") q || opens_comment (q ∷ ps)) ≡ false
    go true = rw (h.1, h.0) refl
    go false = h.0

clear-other : (p : Piece) (ps : List Piece) → is_sign (codes "*") p ≡ false → IsClear ps → IsClear (p ∷ ps)
clear-other p ps e h = (opens_none p ps h, e)

clear-blanks : (k : ℕ) (ps : List Piece) → IsClear ps → IsClear (replicate k tk.blank ++ ps)
clear-blanks zero ps h = h
clear-blanks (suc k) ps h = clear-other tk.blank (replicate k tk.blank ++ ps) refl (clear-blanks k ps h)

clear-gap : (fresh : Bool) (p : Piece) (ps : List Piece) → is_sign (codes "*") p ≡ false → IsClear ps → IsClear ((gap_pieces fresh ++ (p ∷ [])) ++ ps)
clear-gap true p ps e h = clear-other p ps e h
clear-gap false p ps e h = clear-other tk.blank (p ∷ ps) refl (clear-other p ps e h)

clear-times : (ps : List Piece) → IsClear ps → IsClear (tk.blank ∷ tk.sign (codes "*") ∷ ps)
clear-times ps h = (opens_none (tk.sign (codes "*")) ps h, refl)

sign_no_star : (s : Text) → list_any (λ t. same s t) mark_signs ≡ true → same (codes "*") s ≡ false
sign_no_star s e = of_each (λ s. same (codes "*") s ≡ false) mark_signs s (refl, (refl, (refl, (refl, (refl, (refl, (refl, (refl, (refl, (refl, (refl, (refl, (refl, (refl, (refl, (refl, tt)))))))))))))))) e

pieces_of-clear : (fresh : Bool) (ms : List Mark) → AreMarks ms → IsClear (pieces_of fresh ms)
pieces_of-clear fresh [] a = (refl, refl)
pieces_of-clear fresh (line n ∷ ms) a = clear-blanks (suc (2 * n)) (pieces_of true ms) (pieces_of-clear true ms a.1)
pieces_of-clear fresh (word w ∷ ms) a = clear-gap fresh (tk.word w) (pieces_of false ms) refl (pieces_of-clear false ms a.1)
pieces_of-clear fresh (digits n ∷ ms) a = clear-gap fresh (tk.number (decimal n)) (pieces_of false ms) refl (pieces_of-clear false ms a.1)
pieces_of-clear fresh (sign s ∷ ms) a = clear-gap (fresh || closes s) (tk.sign s) (pieces_of (opens s) ms) (sign_no_star s a.0) (pieces_of-clear (opens s) ms a.1)
pieces_of-clear fresh (dash ∷ ms) a = clear-gap fresh (tk.sign (codes "-")) (pieces_of true ms) refl (pieces_of-clear true ms a.1)
pieces_of-clear fresh (times ∷ ms) a = clear-times (pieces_of false ms) (pieces_of-clear false ms a.1)
pieces_of-clear fresh (call ∷ ms) a = clear-other (tk.sign (codes "(")) (pieces_of true ms) refl (pieces_of-clear true ms a.1)

-- ---- the tokens of the pieces

blanks-no_tokens : (k : ℕ) (ps : List Piece) → filter_map token_of (replicate k tk.blank ++ ps) ≡ filter_map token_of ps
blanks-no_tokens zero ps = refl
blanks-no_tokens (suc k) ps = blanks-no_tokens k ps

gap-no_token : (fresh : Bool) (p : Piece) (ps : List Piece) → filter_map token_of ((gap_pieces fresh ++ (p ∷ [])) ++ ps) ≡ filter_map token_of (p ∷ ps)
gap-no_token true p ps = refl
gap-no_token false p ps = refl

pieces_of-tokens : (fresh : Bool) (ms : List Mark) → tokens_of ms ≡ filter_map token_of (pieces_of fresh ms)
pieces_of-tokens fresh [] = refl
pieces_of-tokens fresh (line n ∷ ms) = pieces_of-tokens true ms ∙ sym (blanks-no_tokens (2 * n) (pieces_of true ms))
pieces_of-tokens fresh (word w ∷ ms) = ap (λ ts. record { kind = tk.kind_of_word w; text = w } ∷ ts) (pieces_of-tokens false ms) ∙ sym (gap-no_token fresh (tk.word w) (pieces_of false ms))
pieces_of-tokens fresh (digits n ∷ ms) = ap (λ ts. record { kind = tk.kind_of_number (decimal n); text = decimal n } ∷ ts) (pieces_of-tokens false ms) ∙ sym (gap-no_token fresh (tk.number (decimal n)) (pieces_of false ms))
pieces_of-tokens fresh (sign s ∷ ms) = ap (λ ts. record { kind = tk.kind_of_sign s; text = s } ∷ ts) (pieces_of-tokens (opens s) ms) ∙ sym (gap-no_token (fresh || closes s) (tk.sign s) (pieces_of (opens s) ms))
pieces_of-tokens fresh (dash ∷ ms) = ap (λ ts. record { kind = tk.kind_of_sign (codes "-"); text = codes "-" } ∷ ts) (pieces_of-tokens true ms) ∙ sym (gap-no_token fresh (tk.sign (codes "-")) (pieces_of true ms))
pieces_of-tokens fresh (times ∷ ms) = ap (λ ts. record { kind = tk.kind_of_sign (codes "*"); text = codes "*" } ∷ ts) (pieces_of-tokens false ms)
pieces_of-tokens fresh (call ∷ ms) = ap (λ ts. record { kind = tk.kind_of_sign (codes "("); text = codes "(" } ∷ ts) (pieces_of-tokens true ms)

-- the same, whether or not a blank is due before the first mark
pub marks-tokens_from : (fresh : Bool) (ms : List Mark) → AreMarks ms → Tokens (text_of fresh ms) (tokens_of ms)
marks-tokens_from fresh ms a = record {
  pieces = pieces_of fresh ms;
  cut = pieces_of-cut fresh ms a;
  closed = (pieces_of-clear fresh ms a).0;
  are = pieces_of-tokens fresh ms;
}

pub marks-tokens : (ms : List Mark) → AreMarks ms → Tokens (text_of true ms) (tokens_of ms)
marks-tokens ms a = marks-tokens_from true ms a
