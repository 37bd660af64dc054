-- The lines of a made source, piece by piece.
use Rattle.std.proofs.Common.{◌≡◌, ◌==◌, ℕ, zero, suc, ◌+◌, ◌<◌, Bool, true, false, not, ◌||◌, ◌&&◌, nat_le, List, [], ◌∷◌, ◌++◌, length, Some, None, refl, sym, ap, subst, arith, codes, append-nil, inl, inr}
use Rattle.std.specs.Prelude.{map, decimal}
use Rattle.std.specs.Fmt.{digits}
use Rattle.std.proofs.lemmas.Bool.Decides.{nat_tests}
use Rattle.grammar.specs.Pieces.{Text, AllAre, one_text, same}
use Rattle.grammar.specs.Lang.{flat}
use Rattle.grammar.specs.Bytes.{begins_word, is_digit, is_wordy}
use Rattle.grammar.proofs.Texts.{same_equal, and_left, and_right}
use Rattle.grammar.proofs.Decimals.{decimal_digits, decimal_nonempty}
use Rattle.cif_lex.specs.declared.token.TokenKind.TheVariants.{Id, Reserved, Number, Sign}
use Rattle.cif_lex.specs.declared.token.Word.{Word}
use Rattle.cif_lex.specs.declared.token.Word.TheVariants as w
use Rattle.cif_lex.specs.declared.token.Mark.{Mark}
use Rattle.cif_lex.specs.declared.token.Mark.TheVariants as m
use Rattle.cif_lex.specs.Tokens.{blank, word, number, sign, marks, signs, reserved, piece, find_text, kind_of, IsInRange, number_of}
use Rattle.cif_maker.specs.MadeText.{numbered, plant_pieces, need_pieces}
use Rattle.cif_maker_laws.specs.Written.{Written, IsWritten, AreWritten, text_of, are_apart}

-- ---- single pieces

abbrev pub key : Word → Text → Written
key k t = record { form = word t; bytes = t; kind = Some (Reserved k) }

abbrev pub name : Text → Written
name t = record { form = word t; bytes = t; kind = Some Id }

abbrev pub num : Text → Written
num t = record { form = number t; bytes = t; kind = Some Number }

abbrev pub mark : Mark → Text → Written
mark k t = record { form = sign t; bytes = t; kind = Some (Sign k) }

abbrev pub gap : Written
gap = record { form = blank; bytes = codes " "; kind = None }

abbrev pub line_end : Written
line_end = record { form = blank; bytes = codes "\n"; kind = None }

abbrev all_are : (ℕ → Bool) → Text → Bool
all_are f [] = true
all_are f (b ∷ t) = f b && all_are f t

are_all : (f : ℕ → Bool) (t : Text) → all_are f t ≡ true → AllAre f t
are_all f [] e = tt
are_all f (b ∷ t) e = (and_left (f b) (all_are f t) e, are_all f t (and_right (f b) (all_are f t) e))

word_is : (b : ℕ) (t : Text) → begins_word b ≡ true → AllAre is_wordy t → piece (word (b ∷ t)) (b ∷ t)
unfolding piece
word_is b t e a = inr (inl (b, t, e, a, refl, refl))

key_is : (k : Word) (b : ℕ) (t : Text) → begins_word b ≡ true → all_are is_wordy t ≡ true → find_text reserved (b ∷ t) ≡ Some k → IsWritten (key k (b ∷ t))
unfolding kind_of IsInRange
key_is k b t e g h = record { is = word_is b t e (are_all is_wordy t g); has_kind = rw h refl; in_range = tt }

name_is : (b : ℕ) (t : Text) → begins_word b ≡ true → AllAre is_wordy t → find_text reserved (b ∷ t) ≡ None → IsWritten (name (b ∷ t))
unfolding kind_of IsInRange
name_is b t e a h = record { is = word_is b t e a; has_kind = rw h refl; in_range = tt }

plain_name_is : (b : ℕ) (t : Text) → begins_word b ≡ true → all_are is_wordy t ≡ true → find_text reserved (b ∷ t) ≡ None → IsWritten (name (b ∷ t))
plain_name_is b t e g h = name_is b t e (are_all is_wordy t g) h

gap_is : IsWritten gap
unfolding piece kind_of IsInRange
gap_is = record { is = inl (32, [], refl, tt, refl, refl); has_kind = refl; in_range = tt }

line_end_is : IsWritten line_end
unfolding piece kind_of IsInRange
line_end_is = record { is = inl (10, [], refl, tt, refl, refl); has_kind = refl; in_range = tt }

abbrev one_is : Text → List Text → Bool
one_is t [] = false
one_is t (s ∷ ss) = same t s || one_is t ss

in_texts : (t : Text) (ss : List Text) → one_is t ss ≡ true → one_text ss sign (sign t) t
in_texts t [] e = absurd cc
in_texts t (s ∷ ss) e = go (same t s) refl e (in_texts t ss)
  where
    go : (x : Bool) → same t s ≡ x → (x || one_is t ss) ≡ true → (one_is t ss ≡ true → one_text ss sign (sign t) t) → one_text (s ∷ ss) sign (sign t) t
    go true g h more = let is = same_equal t s g in inl (is, ap sign is)
    go false g h more = inr (more h)

mark_is : (k : Mark) (t : Text) → one_is t signs ≡ true → find_text marks t ≡ Some k → IsWritten (mark k t)
unfolding piece kind_of IsInRange
mark_is k t e h = record { is = inr (inr (inr (inr (inr (inr (in_texts t signs e)))))); has_kind = rw h refl; in_range = tt }

zero_is : IsWritten (num (codes "0"))
unfolding piece kind_of IsInRange number_of
zero_is = record { is = inr (inr (inr (inl (48, [], refl, tt, refl, refl)))); has_kind = refl; in_range = omega arith }

-- a number of one digit but 0
digit_is : (n : ℕ) → 0 < n → n < 10 → IsWritten (num ((48 + n) ∷ []))
unfolding piece kind_of IsInRange number_of
digit_is n l u =
    let first : (nat_le 49 (48 + n) && nat_le (48 + n) 57) ≡ true = grind (arith, nat_tests) in
    record { is = inr (inr (inr (inr (inl (48 + n, [], first, tt, refl, refl))))); has_kind = refl; in_range = omega arith }

-- ---- a letter and a number

abbrev second_apart : Text → Bool
second_apart [] = true
second_apart (a ∷ []) = true
second_apart (a ∷ c ∷ t) = not (is_digit c)

abbrev seconds_apart : {A : Type 0} → List (Text × A) → Bool
seconds_apart [] = true
seconds_apart (e ∷ es) = second_apart e.0 && seconds_apart es

other_second : (s : Text) (b d : ℕ) (ds : Text) → is_digit d ≡ true → second_apart s ≡ true → same s (b ∷ d ∷ ds) ≡ false
other_second [] b d ds e h = refl
other_second (a ∷ []) b d ds e h = go (a == b)
  where
    go : (x : Bool) → (x && false) ≡ false
    go true = refl
    go false = refl
other_second (a ∷ c ∷ s) b d ds e h =
    let apart : (c == d) ≡ false = differ (c == d) refl in
    rw apart (go (a == b))
  where
    go : (x : Bool) → (x && false) ≡ false
    go true = refl
    go false = refl

    differ : (x : Bool) → (c == d) ≡ x → x ≡ false
    differ true g = absurd (grind (arith, nat_tests))
    differ false g = refl

not_found : {A : Type 0} (es : List (Text × A)) (b d : ℕ) (ds : Text) → is_digit d ≡ true → seconds_apart es ≡ true → find_text es (b ∷ d ∷ ds) ≡ None
not_found [] b d ds e h = refl
not_found (x ∷ es) b d ds e h =
    let other = other_second x.0 b d ds e (and_left (second_apart x.0) (seconds_apart es) h) in
    rw other (not_found es b d ds e (and_right (second_apart x.0) (seconds_apart es) h))

digit_wordy : (b : ℕ) → is_digit b ≡ true → is_wordy b ≡ true
digit_wordy b e = rw e (last (begins_word b))
  where
    last : (x : Bool) → (x || true) ≡ true
    last true = refl
    last false = refl

digits_wordy : (t : Text) → AllAre is_digit t → AllAre is_wordy t
digits_wordy [] a = tt
digits_wordy (b ∷ t) a = (digit_wordy b a.0, digits_wordy t a.1)

letter_and_digits : (b : ℕ) (t : Text) → begins_word b ≡ true → AllAre is_digit t → 0 < length t → IsWritten (name (b ∷ t))
letter_and_digits b [] e a l = absurd (omega arith)
letter_and_digits b (d ∷ t) e a l = name_is b (d ∷ t) e (digits_wordy (d ∷ t) a) (not_found reserved b d t a.0 refl)

numbered_is : (b i : ℕ) → begins_word b ≡ true → IsWritten (name (b ∷ decimal i))
numbered_is b i e = letter_and_digits b (decimal i) e (decimal_digits i) (decimal_nonempty i)

-- ---- the lines, in the pieces of the text

abbrev pub declaration_chunks : (i : ℕ) → Text → List (List Written)
declaration_chunks i most =
    (key w.Uncontrollable (codes "uncontrollable") ∷ gap ∷ []) ∷ (name (numbered (codes "u") i) ∷ [])
    ∷ (mark m.Semicolon (codes ";") ∷ gap ∷ key w.Controllable (codes "controllable") ∷ gap ∷ []) ∷ (name (numbered (codes "c") i) ∷ [])
    ∷ (mark m.Semicolon (codes ";") ∷ gap ∷ key w.Input (codes "input") ∷ gap ∷ key w.Bool (codes "bool") ∷ gap ∷ []) ∷ (name (numbered (codes "s") i) ∷ [])
    ∷ (mark m.Semicolon (codes ";") ∷ gap ∷ key w.Plant (codes "plant") ∷ gap ∷ []) ∷ (name (numbered (codes "A") i) ∷ [])
    ∷ (mark m.Colon (codes ":") ∷ gap ∷ key w.Disc (codes "disc") ∷ gap ∷ key w.Int (codes "int") ∷ mark m.OpenBracket (codes "[") ∷ []) ∷ (num (codes "0") ∷ [])
    ∷ (mark m.Range (codes "..") ∷ []) ∷ (num most ∷ [])
    ∷ (mark m.CloseBracket (codes "]") ∷ gap ∷ []) ∷ (name (codes "n") ∷ [])
    ∷ (gap ∷ mark m.Equal (codes "=") ∷ gap ∷ []) ∷ (num (codes "0") ∷ [])
    ∷ (mark m.Semicolon (codes ";") ∷ gap ∷ key w.Location (codes "location") ∷ gap ∷ []) ∷ []

abbrev pub idle_chunks : (i : ℕ) → Text → List (List Written)
idle_chunks i most =
    (name (codes "idle") ∷ [])
    ∷ (mark m.Colon (codes ":") ∷ gap ∷ key w.Initial (codes "initial") ∷ mark m.Semicolon (codes ";") ∷ gap ∷ key w.Marked (codes "marked")
    ∷ mark m.Semicolon (codes ";") ∷ gap ∷ key w.Edge (codes "edge") ∷ gap ∷ []) ∷ (name (numbered (codes "u") i) ∷ [])
    ∷ (gap ∷ key w.When (codes "when") ∷ gap ∷ []) ∷ (name (numbered (codes "s") i) ∷ [])
    ∷ (gap ∷ key w.And (codes "and") ∷ gap ∷ []) ∷ (name (codes "n") ∷ [])
    ∷ (gap ∷ mark m.Less (codes "<") ∷ gap ∷ []) ∷ (num most ∷ [])
    ∷ (gap ∷ key w.«Do» (codes "do") ∷ gap ∷ []) ∷ (name (codes "n") ∷ [])
    ∷ (gap ∷ mark m.Assign (codes ":=") ∷ gap ∷ []) ∷ (name (codes "n") ∷ [])
    ∷ (gap ∷ mark m.Plus (codes "+") ∷ gap ∷ []) ∷ (num (codes "1") ∷ [])
    ∷ (gap ∷ key w.Goto (codes "goto") ∷ gap ∷ []) ∷ (name (codes "busy") ∷ [])
    ∷ (mark m.Semicolon (codes ";") ∷ gap ∷ key w.Location (codes "location") ∷ gap ∷ []) ∷ []

abbrev pub busy_chunks : ℕ → List (List Written)
busy_chunks i =
    (name (codes "busy") ∷ []) ∷ (mark m.Colon (codes ":") ∷ gap ∷ key w.Edge (codes "edge") ∷ gap ∷ []) ∷ (name (numbered (codes "c") i) ∷ [])
    ∷ (gap ∷ key w.Goto (codes "goto") ∷ gap ∷ []) ∷ (name (codes "idle") ∷ [])
    ∷ (mark m.Semicolon (codes ";") ∷ gap ∷ key w.End (codes "end") ∷ line_end ∷ []) ∷ []

abbrev pub plant_chunks : (i : ℕ) → Text → List (List Written)
plant_chunks i most = declaration_chunks i most ++ (idle_chunks i most ++ busy_chunks i)

abbrev pub need_chunks : (i j : ℕ) → List (List Written)
need_chunks i j =
    (key w.Requirement (codes "requirement") ∷ gap ∷ []) ∷ (name (numbered (codes "c") i) ∷ [])
    ∷ (gap ∷ key w.Needs (codes "needs") ∷ gap ∷ []) ∷ (name (numbered (codes "A") j) ∷ [])
    ∷ (mark m.Dot (codes ".") ∷ []) ∷ (name (codes "idle") ∷ [])
    ∷ (mark m.Semicolon (codes ";") ∷ line_end ∷ []) ∷ []

-- ---- they have the bytes of the pieces

pub plant_bytes : (i most : ℕ) → map text_of (plant_chunks i (decimal most)) ≡ plant_pieces i most
plant_bytes i most = simp append-nil

pub need_bytes : (i j : ℕ) → map text_of (need_chunks i j) ≡ need_pieces i j
need_bytes i j = simp append-nil

-- ---- they are written

one_is_written : IsWritten (num (codes "1"))
one_is_written = digit_is 1 (omega arith) (omega arith)

and_word : IsWritten (key w.And (codes "and"))
and_word = key_is w.And 97 (codes "nd") refl refl refl

assign_mark : IsWritten (mark m.Assign (codes ":="))
assign_mark = mark_is m.Assign (codes ":=") refl refl

bool_word : IsWritten (key w.Bool (codes "bool"))
bool_word = key_is w.Bool 98 (codes "ool") refl refl refl

busy_name : IsWritten (name (codes "busy"))
busy_name = plain_name_is 98 (codes "usy") refl refl refl

close_bracket_mark : IsWritten (mark m.CloseBracket (codes "]"))
close_bracket_mark = mark_is m.CloseBracket (codes "]") refl refl

colon_mark : IsWritten (mark m.Colon (codes ":"))
colon_mark = mark_is m.Colon (codes ":") refl refl

controllable_word : IsWritten (key w.Controllable (codes "controllable"))
controllable_word = key_is w.Controllable 99 (codes "ontrollable") refl refl refl

disc_word : IsWritten (key w.Disc (codes "disc"))
disc_word = key_is w.Disc 100 (codes "isc") refl refl refl

do_word : IsWritten (key w.«Do» (codes "do"))
do_word = key_is w.«Do» 100 (codes "o") refl refl refl

dot_mark : IsWritten (mark m.Dot (codes "."))
dot_mark = mark_is m.Dot (codes ".") refl refl

edge_word : IsWritten (key w.Edge (codes "edge"))
edge_word = key_is w.Edge 101 (codes "dge") refl refl refl

end_word : IsWritten (key w.End (codes "end"))
end_word = key_is w.End 101 (codes "nd") refl refl refl

equal_mark : IsWritten (mark m.Equal (codes "="))
equal_mark = mark_is m.Equal (codes "=") refl refl

goto_word : IsWritten (key w.Goto (codes "goto"))
goto_word = key_is w.Goto 103 (codes "oto") refl refl refl

idle_name : IsWritten (name (codes "idle"))
idle_name = plain_name_is 105 (codes "dle") refl refl refl

initial_word : IsWritten (key w.Initial (codes "initial"))
initial_word = key_is w.Initial 105 (codes "nitial") refl refl refl

input_word : IsWritten (key w.Input (codes "input"))
input_word = key_is w.Input 105 (codes "nput") refl refl refl

int_word : IsWritten (key w.Int (codes "int"))
int_word = key_is w.Int 105 (codes "nt") refl refl refl

less_mark : IsWritten (mark m.Less (codes "<"))
less_mark = mark_is m.Less (codes "<") refl refl

location_word : IsWritten (key w.Location (codes "location"))
location_word = key_is w.Location 108 (codes "ocation") refl refl refl

marked_word : IsWritten (key w.Marked (codes "marked"))
marked_word = key_is w.Marked 109 (codes "arked") refl refl refl

n_name : IsWritten (name (codes "n"))
n_name = plain_name_is 110 (codes "") refl refl refl

needs_word : IsWritten (key w.Needs (codes "needs"))
needs_word = key_is w.Needs 110 (codes "eeds") refl refl refl

open_bracket_mark : IsWritten (mark m.OpenBracket (codes "["))
open_bracket_mark = mark_is m.OpenBracket (codes "[") refl refl

plant_word : IsWritten (key w.Plant (codes "plant"))
plant_word = key_is w.Plant 112 (codes "lant") refl refl refl

plus_mark : IsWritten (mark m.Plus (codes "+"))
plus_mark = mark_is m.Plus (codes "+") refl refl

range_mark : IsWritten (mark m.Range (codes ".."))
range_mark = mark_is m.Range (codes "..") refl refl

requirement_word : IsWritten (key w.Requirement (codes "requirement"))
requirement_word = key_is w.Requirement 114 (codes "equirement") refl refl refl

semicolon_mark : IsWritten (mark m.Semicolon (codes ";"))
semicolon_mark = mark_is m.Semicolon (codes ";") refl refl

uncontrollable_word : IsWritten (key w.Uncontrollable (codes "uncontrollable"))
uncontrollable_word = key_is w.Uncontrollable 117 (codes "ncontrollable") refl refl refl

when_word : IsWritten (key w.When (codes "when"))
when_word = key_is w.When 119 (codes "hen") refl refl refl

abbrev pub AllWritten : List (List Written) → Type 0
AllWritten [] = Unit {0}
AllWritten (c ∷ cs) = AreWritten c × AllWritten cs

pub written-append : (xs ys : List Written) → AreWritten xs → AreWritten ys → AreWritten (xs ++ ys)
written-append [] ys a b = b
written-append (x ∷ xs) ys a b = (a.0, written-append xs ys a.1 b)

all_flat : (cs : List (List Written)) → AllWritten cs → AreWritten (flat cs)
all_flat [] a = tt
all_flat (c ∷ cs) a = written-append c (flat cs) a.0 (all_flat cs a.1)

all-append : (xs ys : List (List Written)) → AllWritten xs → AllWritten ys → AllWritten (xs ++ ys)
all-append [] ys a b = b
all-append (x ∷ xs) ys a b = (a.0, all-append xs ys a.1 b)

declaration_written : (i : ℕ) (most : Text) → IsWritten (num most) → AllWritten (declaration_chunks i most)
declaration_written i most digits = (
  (uncontrollable_word, (gap_is, tt)),
  (
    (numbered_is 117 i refl, tt),
    (
      (semicolon_mark, (gap_is, (controllable_word, (gap_is, tt)))),
      (
        (numbered_is 99 i refl, tt),
        (
          (semicolon_mark, (gap_is, (input_word, (gap_is, (bool_word, (gap_is, tt)))))),
          (
            (numbered_is 115 i refl, tt),
            (
              (semicolon_mark, (gap_is, (plant_word, (gap_is, tt)))),
              (
                (numbered_is 65 i refl, tt),
                (
                  (colon_mark, (gap_is, (disc_word, (gap_is, (int_word, (open_bracket_mark, tt)))))),
                  (
                    (zero_is, tt),
                    (
                      (range_mark, tt),
                      (
                        (digits, tt),
                        (
                          (close_bracket_mark, (gap_is, tt)),
                          (
                            (n_name, tt),
                            (
                              (gap_is, (equal_mark, (gap_is, tt))),
                              (
                                (zero_is, tt),
                                ((semicolon_mark, (gap_is, (location_word, (gap_is, tt)))), tt),
                              ),
                            ),
                          ),
                        ),
                      ),
                    ),
                  ),
                ),
              ),
            ),
          ),
        ),
      ),
    ),
  ),
)

idle_written : (i : ℕ) (most : Text) → IsWritten (num most) → AllWritten (idle_chunks i most)
idle_written i most digits = (
  (idle_name, tt),
  (
    (colon_mark, (gap_is, (initial_word, (semicolon_mark, (gap_is, (marked_word, (semicolon_mark, (gap_is, (edge_word, (gap_is, tt)))))))))),
    (
      (numbered_is 117 i refl, tt),
      (
        (gap_is, (when_word, (gap_is, tt))),
        (
          (numbered_is 115 i refl, tt),
          (
            (gap_is, (and_word, (gap_is, tt))),
            (
              (n_name, tt),
              (
                (gap_is, (less_mark, (gap_is, tt))),
                (
                  (digits, tt),
                  (
                    (gap_is, (do_word, (gap_is, tt))),
                    (
                      (n_name, tt),
                      (
                        (gap_is, (assign_mark, (gap_is, tt))),
                        (
                          (n_name, tt),
                          (
                            (gap_is, (plus_mark, (gap_is, tt))),
                            (
                              (one_is_written, tt),
                              (
                                (gap_is, (goto_word, (gap_is, tt))),
                                (
                                  (busy_name, tt),
                                  ((semicolon_mark, (gap_is, (location_word, (gap_is, tt)))), tt),
                                ),
                              ),
                            ),
                          ),
                        ),
                      ),
                    ),
                  ),
                ),
              ),
            ),
          ),
        ),
      ),
    ),
  ),
)

busy_written : (i : ℕ) → AllWritten (busy_chunks i)
busy_written i = (
  (busy_name, tt),
  (
    (colon_mark, (gap_is, (edge_word, (gap_is, tt)))),
    (
      (numbered_is 99 i refl, tt),
      (
        (gap_is, (goto_word, (gap_is, tt))),
        (
          (idle_name, tt),
          ((semicolon_mark, (gap_is, (end_word, (line_end_is, tt)))), tt),
        ),
      ),
    ),
  ),
)

pub plant_written : (i : ℕ) (most : Text) → IsWritten (num most) → AreWritten (flat (plant_chunks i most))
plant_written i most digits =
    all_flat (plant_chunks i most) (all-append (declaration_chunks i most) (idle_chunks i most ++ busy_chunks i) (declaration_written i most digits)
    (all-append (idle_chunks i most) (busy_chunks i) (idle_written i most digits) (busy_written i)))

pub need_written : (i j : ℕ) → AreWritten (flat (need_chunks i j))
need_written i j = all_flat (need_chunks i j) (
  (requirement_word, (gap_is, tt)),
  (
    (numbered_is 99 i refl, tt),
    (
      (gap_is, (needs_word, (gap_is, tt))),
      (
        (numbered_is 65 j refl, tt),
        (
          (dot_mark, tt),
          (
            (idle_name, tt),
            ((semicolon_mark, (line_end_is, tt)), tt),
          ),
        ),
      ),
    ),
  ),
)

-- ---- no two of them run together

pub plant_apart : (i d : ℕ) (ds rest : Text) → are_apart (flat (plant_chunks i (d ∷ ds))) rest ≡ true
plant_apart i d ds [] = refl
plant_apart i d ds (c ∷ rest) = refl

pub need_apart : (i j : ℕ) (rest : Text) → are_apart (flat (need_chunks i j)) rest ≡ true
need_apart i j [] = refl
need_apart i j (c ∷ rest) = refl

-- ---- the number of a variable

-- what is written for a number of one digit
pub one_digit : (n : ℕ) → 0 < n → n < 10 → decimal n ≡ (48 + n) ∷ []
unfolding digits
one_digit zero l u = absurd (omega arith)
one_digit (suc zero) l u = refl
one_digit (suc (suc zero)) l u = refl
one_digit (suc (suc (suc zero))) l u = refl
one_digit (suc (suc (suc (suc zero)))) l u = refl
one_digit (suc (suc (suc (suc (suc zero))))) l u = refl
one_digit (suc (suc (suc (suc (suc (suc zero)))))) l u = refl
one_digit (suc (suc (suc (suc (suc (suc (suc zero))))))) l u = refl
one_digit (suc (suc (suc (suc (suc (suc (suc (suc zero)))))))) l u = refl
one_digit (suc (suc (suc (suc (suc (suc (suc (suc (suc zero))))))))) l u = refl
one_digit (suc (suc (suc (suc (suc (suc (suc (suc (suc (suc n)))))))))) l u = absurd (omega arith)

-- a plant whose variable goes up to a number of one digit
pub plant_is_written : (i most : ℕ) → 0 < most → most < 10 → AreWritten (flat (plant_chunks i (decimal most)))
plant_is_written i most l u = subst (λ t. AreWritten (flat (plant_chunks i t))) (sym (one_digit most l u)) (plant_written i ((48 + most) ∷ []) (digit_is most l u))

pub plant_is_apart : (i most : ℕ) (rest : Text) → 0 < most → most < 10 → are_apart (flat (plant_chunks i (decimal most))) rest ≡ true
plant_is_apart i most rest l u = subst (λ t. are_apart (flat (plant_chunks i t)) rest ≡ true) (sym (one_digit most l u)) (plant_apart i (48 + most) [] rest)
