-- Names of another letter or number differ, and each name is an identifier.
use Rattle.std.proofs.Common.{◌≡◌, ◌==◌, ℕ, ◌^◌, ◌<◌, Bool, true, false, ◌&&◌, List, [], ◌∷◌, ◌++◌, length, ◌⊎◌, inl, inr, refl, sym, ap, ◌∙◌, arith, eqb-true, subst}
use Rattle.std.specs.Prelude.{if◌then◌else◌}
use Rattle.std.specs.Fmt.{decimal}
use Rattle.std.specs.List.{list_all, list_any}
use Rattle.std.specs.Char.{to_ascii_lowercase}
use Rattle.std.proofs.lemmas.Fmt.{decimal_injective}
use Rattle.std.proofs.lemmas.Bool.Decides.{nat_tests}
use Rattle.grammar.specs.Pieces.{Text, AllAre}
use Rattle.grammar.proofs.Texts.{and_left, and_right}
use Rattle.st_ast.specs.Names.{same_name}
use Rattle.grammar.specs.Bytes.{begins_word, is_digit, is_wordy}
use Rattle.st_ast.specs.Tokens.{is_identifier, in_table, keywords, reserved, kind_of_word}
use Rattle.st_ast.specs.declared.kinds.TokenKind.{TokenKind}
use Rattle.st_ast.specs.declared.kinds.TokenKind.TheVariants as kinds
use Rattle.plc_model.specs.declared.letter.Letter.{Letter}
use Rattle.plc_model.specs.declared.letter.Letter.TheVariants as letter
use Rattle.plc_model.specs.Names.{text_of, underscore, tidied, name_for, IsIdentifier}
use Rattle.grammar.proofs.Decimals.{decimal_digits, decimal_nonempty}
use Rattle.plc_model.proofs.Tidying.{tidied-wordy, tidied-identifier}

-- ---- letters

-- the letter that a small one belongs to
letter_at : ℕ → Letter
letter_at b =
    if b == 105 then letter.I else (if b == 104 then letter.H else (if b == 108 then letter.L else (if b == 118 then letter.V else
    (if b == 112 then letter.P else (if b == 113 then letter.Q else (if b == 114 then letter.R else letter.T))))))

abbrev byte_of : Letter → ℕ
byte_of letter.I = 73
byte_of letter.H = 72
byte_of letter.L = 76
byte_of letter.V = 86
byte_of letter.P = 80
byte_of letter.Q = 81
byte_of letter.R = 82
byte_of letter.T = 84

letter_at-folded : (l : Letter) → letter_at (to_ascii_lowercase (byte_of l)) ≡ l
unfolding letter_at
letter_at-folded letter.I = refl
letter_at-folded letter.H = refl
letter_at-folded letter.L = refl
letter_at-folded letter.V = refl
letter_at-folded letter.P = refl
letter_at-folded letter.Q = refl
letter_at-folded letter.R = refl
letter_at-folded letter.T = refl

text_of-byte : (l : Letter) → text_of l ≡ byte_of l ∷ []
text_of-byte letter.I = refl
text_of-byte letter.H = refl
text_of-byte letter.L = refl
text_of-byte letter.V = refl
text_of-byte letter.P = refl
text_of-byte letter.Q = refl
text_of-byte letter.R = refl
text_of-byte letter.T = refl

name_for-bytes : (l : Letter) (k : ℕ) (path : Text) → name_for l k path ≡ byte_of l ∷ (decimal k ++ (underscore ∷ tidied path))
name_for-bytes l k path = ap (λ t. t ++ (decimal k ++ (underscore ∷ tidied path))) (text_of-byte l)

-- ---- names that are the same

first-same : (a b : ℕ) (x y : Text) → same_name (a ∷ x) (b ∷ y) ≡ true → to_ascii_lowercase a ≡ to_ascii_lowercase b
first-same a b x y e = eqb-true (to_ascii_lowercase a) (to_ascii_lowercase b) (and_left (to_ascii_lowercase a == to_ascii_lowercase b) (same_name x y) e)

digit-folded : (d : ℕ) → is_digit d ≡ true → to_ascii_lowercase d ≡ d
digit-folded d e = grind (arith, nat_tests)

digit-no_underscore : (d : ℕ) → is_digit d ≡ true → (underscore == to_ascii_lowercase d) ≡ false
digit-no_underscore d e = grind (arith, nat_tests)

underscore-no_digit : (d : ℕ) → is_digit d ≡ true → (to_ascii_lowercase d == underscore) ≡ false
underscore-no_digit d e = grind (arith, nat_tests)

pub false-true : {A : Type 0} (b : Bool) → b ≡ false → b ≡ true → A
false-true b off on = cc

numbers-same : (x y t u : Text) → AllAre is_digit x → AllAre is_digit y → same_name (x ++ (underscore ∷ t)) (y ++ (underscore ∷ u)) ≡ true → x ≡ y
numbers-same [] [] t u a b e = refl
numbers-same [] (d ∷ y) t u a b e = false-true (underscore == to_ascii_lowercase d) (digit-no_underscore d b.0) (and_left (underscore == to_ascii_lowercase d) (same_name t (y ++ (underscore ∷ u))) e)
numbers-same (d ∷ x) [] t u a b e = false-true (to_ascii_lowercase d == underscore) (underscore-no_digit d a.0) (and_left (to_ascii_lowercase d == underscore) (same_name (x ++ (underscore ∷ t)) u) e)
numbers-same (c ∷ x) (d ∷ y) t u a b e =
    let first : c ≡ d = sym (digit-folded c a.0) ∙ first-same c d (x ++ (underscore ∷ t)) (y ++ (underscore ∷ u)) e ∙ digit-folded d b.0 in
    let rest : x ≡ y = numbers-same x y t u a.1 b.1 (and_right (to_ascii_lowercase c == to_ascii_lowercase d) (same_name (x ++ (underscore ∷ t)) (y ++ (underscore ∷ u))) e) in
    ap (λ h. h ∷ x) first ∙ ap (λ r. d ∷ r) rest

module _ (a b : Letter) (j k : ℕ) (p q : Text) where
  bytes-same : same_name (name_for a j p) (name_for b k q) ≡ true → same_name (byte_of a ∷ (decimal j ++ (underscore ∷ tidied p))) (byte_of b ∷ (decimal k ++ (underscore ∷ tidied q))) ≡ true
  bytes-same e = ap (λ x. same_name x (byte_of b ∷ (decimal k ++ (underscore ∷ tidied q)))) (sym (name_for-bytes a j p)) ∙ ap (λ y. same_name (name_for a j p) y) (sym (name_for-bytes b k q)) ∙ e

  pub letters-same : same_name (name_for a j p) (name_for b k q) ≡ true → a ≡ b
  letters-same e =
      sym (letter_at-folded a)
      ∙ ap letter_at (first-same (byte_of a) (byte_of b) (decimal j ++ (underscore ∷ tidied p)) (decimal k ++ (underscore ∷ tidied q)) (bytes-same e))
      ∙ letter_at-folded b

  pub numbers_same : j < 2 ^ 64 → k < 2 ^ 64 → same_name (name_for a j p) (name_for b k q) ≡ true → j ≡ k
  numbers_same small_j small_k e =
      decimal_injective j k small_j small_k
      (numbers-same (decimal j) (decimal k) (tidied p) (tidied q) (decimal_digits j) (decimal_digits k)
      (and_right (to_ascii_lowercase (byte_of a) == to_ascii_lowercase (byte_of b)) (same_name (decimal j ++ (underscore ∷ tidied p)) (decimal k ++ (underscore ∷ tidied q))) (bytes-same e)))

  not_true : (t : Bool) → (t ≡ true → ⊥) → t ≡ false
  not_true true never = absurd (never refl)
  not_true false never = refl

  pub letters-differ : (a ≡ b → ⊥) → same_name (name_for a j p) (name_for b k q) ≡ false
  letters-differ other = not_true (same_name (name_for a j p) (name_for b k q)) (λ e. other (letters-same e))

  pub names-differ : j < 2 ^ 64 → k < 2 ^ 64 → (a ≡ b → ⊥) ⊎ (j ≡ k → ⊥) → same_name (name_for a j p) (name_for b k q) ≡ false
  names-differ small_j small_k (inl other) = letters-differ other
  names-differ small_j small_k (inr other) = not_true (same_name (name_for a j p) (name_for b k q)) (λ e. other (numbers_same small_j small_k e))

-- ---- identifiers

digit-wordy : (d : ℕ) → is_digit d ≡ true → is_wordy d ≡ true
digit-wordy d e = grind (arith, nat_tests)

digit-other : (d : ℕ) → is_digit d ≡ true → (d == underscore) ≡ false
digit-other d e = grind (arith, nat_tests)

number-wordy : (x w : Text) → AllAre is_digit x → AllAre is_wordy w → AllAre is_wordy (x ++ w)
number-wordy [] w a b = b
number-wordy (d ∷ x) w a b = (digit-wordy d a.0, number-wordy x w a.1 b)

-- a byte that is no underscore, before more
other-identifier : (d b : ℕ) (w : Text) → (d == underscore) ≡ false → is_identifier (b ∷ w) ≡ true → is_identifier (d ∷ b ∷ w) ≡ true
other-identifier d b w e rest = rw e rest

number-identifier : (c : ℕ) (x t : Text) → (c == underscore) ≡ false → AllAre is_digit x → is_identifier (underscore ∷ t) ≡ true → is_identifier (c ∷ (x ++ (underscore ∷ t))) ≡ true
number-identifier c [] t other a rest = other-identifier c underscore t other rest
number-identifier c (d ∷ x) t other a rest = other-identifier c d (x ++ (underscore ∷ t)) other (number-identifier d x t (digit-other d a.0) a.1 rest)

-- the second byte is no digit
abbrev has_second : Text → Bool
has_second [] = false
has_second (b ∷ []) = false
has_second (b ∷ d ∷ w) = begins_word d

second-differs : (r : Text) (c d : ℕ) (w : Text) → has_second r ≡ true → is_digit d ≡ true → same_name r (c ∷ d ∷ w) ≡ false
second-differs [] c d w has digit = refl
second-differs (b ∷ []) c d w has digit = one (to_ascii_lowercase b == to_ascii_lowercase c)
  where
    one : (t : Bool) → (t && false) ≡ false
    one true = refl
    one false = refl
second-differs (b ∷ e ∷ r) c d w has digit =
    let apart : (to_ascii_lowercase e == to_ascii_lowercase d) ≡ false = grind (arith, nat_tests) in
    rw apart (one (to_ascii_lowercase b == to_ascii_lowercase c))
  where
    one : (t : Bool) → (t && false) ≡ false
    one true = refl
    one false = refl

table-other : (ps : List (Text × TokenKind)) (c d : ℕ) (w : Text) (k : TokenKind) → list_all (λ p. has_second p.0) ps ≡ true → is_digit d ≡ true → in_table ps (c ∷ d ∷ w) k ≡ k
table-other [] c d w k all digit = refl
table-other (p ∷ ps) c d w k all digit =
    let apart = second-differs p.0 c d w (and_left (has_second p.0) (list_all (λ p. has_second p.0) ps) all) digit in
    rw apart (table-other ps c d w k (and_right (has_second p.0) (list_all (λ p. has_second p.0) ps) all) digit)

none-reserved : (rs : List Text) (c d : ℕ) (w : Text) → list_all has_second rs ≡ true → is_digit d ≡ true → list_any (λ r. same_name r (c ∷ d ∷ w)) rs ≡ false
none-reserved [] c d w all digit = refl
none-reserved (r ∷ rs) c d w all digit =
    let apart = second-differs r c d w (and_left (has_second r) (list_all has_second rs) all) digit in
    rw apart (none-reserved rs c d w (and_right (has_second r) (list_all has_second rs) all) digit)

-- a word whose second byte is a digit is no reserved word
kind-name : (c : ℕ) (x t : Text) → AllAre is_digit x → 0 < length x → is_identifier (c ∷ (x ++ (underscore ∷ t))) ≡ true → kind_of_word (c ∷ (x ++ (underscore ∷ t))) ≡ kinds.Name
kind-name c [] t a some e = absurd (omega arith)
kind-name c (d ∷ x) t a some e =
    let free = none-reserved reserved c d (x ++ (underscore ∷ t)) refl a.0 in
    table-other keywords c d (x ++ (underscore ∷ t)) (if list_any (λ r. same_name r (c ∷ d ∷ (x ++ (underscore ∷ t)))) reserved then kinds.Outside else (if is_identifier (c ∷ d ∷ (x ++ (underscore ∷ t))) then kinds.Name else kinds.Outside)) refl a.0
    ∙ rw (free, e) refl

byte-letter : (l : Letter) → begins_word (byte_of l) ≡ true
byte-letter letter.I = refl
byte-letter letter.H = refl
byte-letter letter.L = refl
byte-letter letter.V = refl
byte-letter letter.P = refl
byte-letter letter.Q = refl
byte-letter letter.R = refl
byte-letter letter.T = refl

byte-wordy : (l : Letter) → is_wordy (byte_of l) ≡ true
byte-wordy l = let e = byte-letter l in rw e refl

byte-other : (l : Letter) → (byte_of l == underscore) ≡ false
byte-other letter.I = refl
byte-other letter.H = refl
byte-other letter.L = refl
byte-other letter.V = refl
byte-other letter.P = refl
byte-other letter.Q = refl
byte-other letter.R = refl
byte-other letter.T = refl

pub name-identifier : (l : Letter) (k : ℕ) (path : Text) → IsIdentifier (name_for l k path)
name-identifier l k path =
    subst IsIdentifier (sym (name_for-bytes l k path)) record {
      begins = byte-letter l;
      bytes = (byte-wordy l, number-wordy (decimal k) (underscore ∷ tidied path) (decimal_digits k) (refl, tidied-wordy path));
      kind = kind-name (byte_of l) (decimal k) (tidied path) (decimal_digits k) (decimal_nonempty k)
          (number-identifier (byte_of l) (decimal k) (tidied path) (byte-other l) (decimal_digits k) (tidied-identifier path));
    }
