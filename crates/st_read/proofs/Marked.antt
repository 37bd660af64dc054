-- The tokens of a text by the places where they begin.
use Rattle.std.proofs.Common.{◌≡◌, ℕ, suc, ◌+◌, ◌-◌, ◌≤◌, ◌<◌, ◌==◌, min, Bool, true, false, not, if◌then◌else◌, List, [], ◌∷◌, ◌++◌, length, get_or, take, drop, All, Option, Some, None, Ok, Err, Result, refl, sym, ap, subst, ◌∙◌, append_assoc, nat_le, leb-true, arith}
use Rattle.std.specs.Prelude.{IsTrue, ◌↔◌, position, unwrap_or}
use Rattle.std.proofs.Math.Seq.{drop-append_seam}
use Rattle.std.proofs.Math.ListN.{drop_of_length-le}
use Rattle.std.proofs.lemmas.Bool.Decides.{nat_tests}
use Rattle.std.proofs.lemmas.Slice.{first_rest}
use Rattle.std.proofs.lemmas.List.{length-append, length-map, length-take-le, length-drop, map-append}
use Rattle.std.proofs.lemmas.List.Elements.{All-nil, All-push, All-head}
use Rattle.grammar.specs.Bytes.{is_blank}
use Rattle.grammar.specs.Lang.{has}
use Rattle.grammar.specs.Pieces.{Text, Begun, run_of}
use Rattle.grammar.specs.Reader.{starts, one_at}
use Rattle.grammar.proofs.Runs.{run_is, first_within}
use Rattle.grammar.specs.Classes.{letter, digit, wordy}
use Rattle.st_ast.specs.Grammar.{code, sort}
use Rattle.st_ast.specs.Tokens.{Token, Piece, piece, number_of, greatest}
use Rattle.st_ast.specs.declared.kinds.TokenKind.{TokenKind}
use Rattle.st_ast.specs.declared.kinds.TokenKind.TheVariants as kinds
use Rattle.st_read.specs.declared.found.Fault.{Fault}
use Rattle.st_read.specs.declared.marks.Mark.{Mark}
use Rattle.st_read.specs.Lexing.{Found, kind_found, worded, value_in, with_value, numbered, after_close, commented, sign_of, signed, opens, inside, front_of, Lexes}
use Rattle.st_read.specs.Marks.{after_blanks, found_token, token_at, token_of, tokens_of, IsMark}
use Rattle.st_read.specs.Reading.{next_kind}
use Rattle.st_read.proofs.LexSteps.{Taken, taken_token, taken_skip, taken_none, taken_all, left_shorter}
use Rattle.st_read.proofs.Numbers.{word_apart, sign_no_literal, sign_no_name}

-- ---- the kind that is found, and the token

abbrev kind_or_none : Result (Option TokenKind × Text) Fault → Option TokenKind
kind_or_none (Err fault) = None
kind_or_none (Ok w) = w.0

abbrev rest_or_none : Result (Option TokenKind × Text) Fault → Text
rest_or_none (Err fault) = []
rest_or_none (Ok w) = w.1

found_some : (found : Found) (kind : TokenKind) (left : Text) → kind_found found ≡ Ok (Some kind, left) → (t : Token) × (found ≡ Ok (Some t, left)) × (t.kind ≡ kind)
found_some (Err fault) kind left h = absurd cc
found_some (Ok (None, more)) kind left h = absurd (let e : None ≡ Some kind = ap kind_or_none h in cc)
found_some (Ok (Some t, more)) kind left h =
    let e : Some t.kind ≡ Some kind = ap kind_or_none h in
    (t, ap (λ (u : Text). Ok (Some t, u)) (ap rest_or_none h), cc)

found_none : (found : Found) (left : Text) → kind_found found ≡ Ok (None, left) → found ≡ Ok (None, left)
found_none (Err fault) left h = absurd cc
found_none (Ok (None, more)) left h = ap (λ (u : Text). Ok (None, u)) (ap rest_or_none h)
found_none (Ok (Some t, more)) left h = absurd (let e : Some t.kind ≡ None = ap kind_or_none h in cc)

found_rest : (found : Found) (o : Option TokenKind) (left : Text) → kind_found found ≡ Ok (o, left) → (q : Option Token) × (found ≡ Ok (q, left))
found_rest (Err fault) o left h = absurd cc
found_rest (Ok (q, more)) o left h = (q, ap (λ (u : Text). Ok (q, u)) (ap rest_or_none h))

-- ---- blanks

front_blank : (b : ℕ) (text : Text) → is_blank b ≡ true → front_of (b ∷ text) ≡ Ok (None, text)
unfolding front_of
front_blank b text e = rw e refl

pub blanks_shorter : (text : Text) → length (after_blanks text) ≤ length text
unfolding after_blanks
blanks_shorter [] = omega arith
blanks_shorter (b ∷ text) = go (is_blank b) (blanks_shorter text)
  where
    go : (x : Bool) → length (after_blanks text) ≤ length text → length (if x then after_blanks text else b ∷ text) ≤ suc (length text)
    go true h = omega arith
    go false h = omega arith

pub later_shorter : (text left : Text) (o : Option TokenKind) → kind_found (front_of text) ≡ Ok (o, left) → length (after_blanks left) < length text
later_shorter text left o e =
    let f = found_rest (front_of text) o left e in
    let m = left_shorter text left f.0 f.1 in
    let b = blanks_shorter left in
    omega arith

-- ---- where a token begins

pub nothing_from : (text : Text) (at : ℕ) → length text ≤ at → drop at text ≡ []
nothing_from text at none = drop_of_length-le text none

begun_rest : (ps : List Piece) (text rest : Text) → Begun piece ps text rest → (front : Text) × (text ≡ front ++ rest)
begun_rest [] text rest b = ([], b)
begun_rest (p ∷ ps) text rest b = let ih = begun_rest ps b.1 rest b.5 in (b.0 ++ ih.0, b.4 ∙ ap (λ (u : Text). b.0 ++ u) ih.1 ∙ sym (append_assoc b.0 ih.0 rest))

rest_at : (text rest : Text) (tokens : List Token) → Taken text rest tokens → drop (length text - length rest) text ≡ rest
rest_at text rest tokens t =
    let w = begun_rest t.pieces text rest t.cut in
    let whole : length text ≡ length w.0 + length rest = ap (λ (u : Text). length u) w.1 ∙ length-append w.0 rest in
    let len : length text - length rest ≡ length w.0 = omega (arith, whole) in
    ap (λ (n : ℕ). drop n text) len ∙ ap (λ (u : Text). drop (length w.0) u) w.1 ∙ drop-append_seam w.0 rest

found_at : (text rest left : Text) (tokens : List Token) (t : Token) → Taken text rest tokens → front_of rest ≡ Ok (Some t, left) → token_at text (length text - length rest) ≡ t
unfolding token_at
found_at text rest left tokens t taken e = ap (λ (u : Text). found_token (front_of u)) (rest_at text rest tokens taken) ∙ ap found_token e

-- ---- the letters of a name

if_both : (P : Found → Type 0) (x : Bool) (a b : Found) → P a → P b → P (if x then a else b)
if_both P true a b p q = p
if_both P false a b p q = q

abbrev rest_found : Found → Text
rest_found (Err fault) = []
rest_found (Ok w) = w.1

abbrev IsSpelled : Text → Found → Type 0
IsSpelled text found = (found_token found).kind ≡ kinds.Name → run_of wordy text ≡ ((found_token found).text, rest_found found)

spelled_number : (text : Text) (w : Text × Text) (o : Option ℕ) → IsSpelled text (with_value w o)
spelled_number text w None e = absurd cc
spelled_number text w (Some n) e = absurd cc

spelled_comment : (text : Text) (o : Option Text) → IsSpelled text (commented o)
spelled_comment text None e = absurd cc
spelled_comment text (Some rest) e = absurd cc

spelled_sign : (text : Text) (o : Option (Text × Text)) → IsSpelled text (signed o)
spelled_sign text None e = absurd cc
spelled_sign text (Some w) e = absurd (sign_no_name w.0 e)

spelled_front : (text : Text) → IsSpelled text (front_of text)
unfolding front_of
spelled_front [] = λ e. absurd cc
spelled_front (b ∷ text) =
    if_both (IsSpelled (b ∷ text)) (is_blank b) (Ok (None, text)) _ (λ e. absurd cc)
    (if_both (IsSpelled (b ∷ text)) (letter b) (worded (run_of wordy (b ∷ text))) _ (λ e. refl)
    (if_both (IsSpelled (b ∷ text)) (digit b) (numbered (run_of digit (b ∷ text))) _ (spelled_number (b ∷ text) (run_of digit (b ∷ text)) (value_in (run_of digit (b ∷ text)).0))
    (if_both (IsSpelled (b ∷ text)) (opens (b ∷ text)) (commented (after_close (inside (b ∷ text)))) (signed (sign_of (b ∷ text)))
    (spelled_comment (b ∷ text) (after_close (inside (b ∷ text)))) (spelled_sign (b ∷ text) (sign_of (b ∷ text))))))

-- a run is so many bytes at the front
run_parts : (g : ℕ → Bool) (text : Text) → (n : ℕ) × (n ≤ length text) × (run_of g text ≡ (take n text, drop n text))
run_parts g text = (unwrap_or (position (λ b. not (g b)) text) (length text), first_within (λ b. not (g b)) text, run_is g text)

module _ (g : ℕ → Bool) (text word left : Text) (run : run_of g text ≡ (word, left)) where
  run_len : length word ≡ (run_parts g text).0
  run_len = let p = run_parts g text in ap (λ (w : Text × Text). length w.0) (sym run ∙ p.2) ∙ length-take-le p.0 text p.1

  run_takes : take (length word) text ≡ word
  run_takes = let p = run_parts g text in ap (λ (n : ℕ). take n text) run_len ∙ ap (λ (w : Text × Text). w.0) (sym p.2 ∙ run)

  run_leaves : length text - length left ≡ length word
  run_leaves =
      let p = run_parts g text in
      let after : length left ≡ length text - p.0 = ap (λ (w : Text × Text). length w.1) (sym run ∙ p.2) ∙ length-drop p.0 text in
      let len = run_len in
      let within = p.1 in
      omega (arith, after, len, within)

pub name_taken : (text rest : Text) (at n : ℕ) → rest ≡ drop at text → n ≡ length (token_at text at).text → (token_at text at).kind ≡ kinds.Name → take n rest ≡ (token_at text at).text
unfolding token_at
name_taken text rest at n is len e =
    ap (take n) is ∙ ap (λ (m : ℕ). take m (drop at text)) len ∙ run_takes wordy (drop at text) _ _ (spelled_front (drop at text) e)

pub name_spelled : (text rest word left : Text) (at : ℕ) → rest ≡ drop at text → run_of wordy rest ≡ (word, left) → (token_at text at).kind ≡ kinds.Name → word ≡ (token_at text at).text
unfolding token_at
name_spelled text rest word left at is run e =
    sym (ap (λ (w : Text × Text). w.0) run) ∙ ap (λ (u : Text). (run_of wordy u).0) is ∙ ap (λ (w : Text × Text). w.0) (spelled_front (drop at text) e)

-- what a mark says is the length, unless it is the most that a mark can say
pub marked_short : (n m : ℕ) → m ≡ min n 65535 → m < 65535 → m ≡ n
marked_short n m is short = omega (arith, is)

-- ---- the marks of the tokens so far

pub record Marked (text rest : Text) (marks : List Mark) : Type 0 where
  pub taken : Taken text rest (tokens_of text marks)
  pub are : All (IsMark text) marks

past : (text rest left : Text) (marks : List Mark) → Marked text rest marks → front_of rest ≡ Ok (None, left) → Marked text left marks
past text rest left marks m e = record { taken = taken_skip text rest left (tokens_of text marks) None m.taken e refl; are = m.are }

past_blanks : (text rest : Text) (marks : List Mark) → Marked text rest marks → Marked text (after_blanks rest) marks
unfolding after_blanks
past_blanks text [] marks m = m
past_blanks text (b ∷ rest) marks m = go (is_blank b) refl (λ (d : Marked text rest marks). past_blanks text rest marks d)
  where
    go : (x : Bool) → is_blank b ≡ x → (Marked text rest marks → Marked text (after_blanks rest) marks) → Marked text (if x then after_blanks rest else b ∷ rest) marks
    go true e on = on (past text (b ∷ rest) rest marks m (front_blank b rest e))
    go false e on = m

pub marked_none : (text : Text) → Marked text (after_blanks text) []
marked_none text = past_blanks text text [] (record { taken = taken_none text; are = All-nil (IsMark text) })

pub marked_token : (text rest left : Text) (marks : List Mark) (o : Option TokenKind) (kind : TokenKind) (n : ℕ) → Marked text rest marks → kind_found (front_of rest) ≡ Ok (o, left) → o ≡ Some kind
    → (n < 65535 → n ≡ length rest - length left) → Marked text (after_blanks left) (marks ++ record { at = length text - length rest; length = n; kind = kind } ∷ [])
marked_token text rest left marks o kind n m e is long =
    let f = found_some (front_of rest) kind left (e ∙ ap (λ (q : Option TokenKind). Ok (q, left)) is) in
    let there : token_at text (length text - length rest) ≡ f.0 = found_at text rest left (tokens_of text marks) f.0 m.taken f.1 in
    let mark : Mark = record { at = length text - length rest; length = n; kind = kind } in
    let spelled : IsSpelled rest (Ok (Some f.0, left)) = subst (λ (found : Found). IsSpelled rest found) f.1 (spelled_front rest) in
    let same : tokens_of text marks ++ f.0 ∷ [] ≡ tokens_of text (marks ++ mark ∷ []) =
    ap (λ (t : Token). tokens_of text marks ++ t ∷ []) (sym there) ∙ sym (map-append (token_of text) marks (mark ∷ [])) in
    past_blanks text left (marks ++ mark ∷ []) (record {
      taken = subst (λ (ts : List Token). Taken text left ts) same (taken_token text rest left (tokens_of text marks) (Some f.0) f.0 m.taken f.1 refl);
      are = All-push (IsMark text) marks mark m.are (
        sym f.2 ∙ ap (λ (t : Token). t.kind) (sym there),
        λ name short. long short ∙ run_leaves wordy rest f.0.text left (spelled (f.2 ∙ name)) ∙ ap (λ (t : Token). length t.text) (sym there),
      );
    })

pub marked_skip : (text rest left : Text) (marks : List Mark) (o : Option TokenKind) → Marked text rest marks → kind_found (front_of rest) ≡ Ok (o, left) → o ≡ None
    → Marked text (after_blanks left) marks
marked_skip text rest left marks o m e is =
    past_blanks text left marks (past text rest left marks m (found_none (front_of rest) left (e ∙ ap (λ (q : Option TokenKind). Ok (q, left)) is)))

pub marked_all : (text rest : Text) (marks : List Mark) → Marked text rest marks → (length rest == 0) ≡ true → Lexes text (tokens_of text marks)
marked_all text rest marks m e = taken_all text rest (tokens_of text marks) m.taken e

pub marked_as : (text rest left : Text) (marks more : List Mark) → left ≡ rest → more ≡ marks → Marked text rest marks → Marked text left more
marked_as text rest left marks more e f m = subst (λ (u : Text). Marked text u more) (sym e) (subst (λ (l : List Mark). Marked text rest l) (sym f) m)

-- ---- tokens at their marks

pub tokens_number : (text : Text) (marks : List Mark) → length (tokens_of text marks) ≡ length marks
tokens_number text marks = length-map marks (token_of text)

some_left : (n : ℕ) → IsTrue (suc n == 0) → ⊥
some_left n e = grind (arith, nat_tests)

pub tokens_end : (text : Text) (marks : List Mark) → IsTrue (length marks == 0) ↔ (tokens_of text marks ≡ [])
tokens_end text [] = (λ e. refl, λ e. refl)
tokens_end text (m ∷ marks) = (λ e. absurd (some_left (length marks) e), λ e. absurd cc)

pub marked_starts : (text : Text) (ks : List ℕ) (m : Mark) (marks : List Mark) → All (IsMark text) (m ∷ marks) → has ks (code m.kind) ≡ starts sort ks (tokens_of text (m ∷ marks))
marked_starts text ks m marks all = ap (λ (kind : TokenKind). has ks (code kind)) (All-head (IsMark text) m marks all).0

pub marked_kind : (text : Text) (m : Mark) (marks : List Mark) → All (IsMark text) (m ∷ marks) → Some m.kind ≡ next_kind (tokens_of text (m ∷ marks))
marked_kind text m marks all = ap (λ (kind : TokenKind). Some kind) (All-head (IsMark text) m marks all).0

one_marked : (text : Text) (ks : List ℕ) (m : Mark) (marks : List Mark) → All (IsMark text) (m ∷ marks) → has ks (code m.kind) ≡ true
    → one_at sort ks (tokens_of text (m ∷ marks)) ≡ Some (token_of text m, tokens_of text marks)
unfolding one_at
one_marked text ks m marks all e = let is : has ks (sort (token_of text m)) ≡ true = sym (marked_starts text ks m marks all) ∙ e in rw is refl

other_marked : (text : Text) (ks : List ℕ) (m : Mark) (marks : List Mark) → All (IsMark text) (m ∷ marks) → has ks (code m.kind) ≡ false → one_at sort ks (tokens_of text (m ∷ marks)) ≡ None
unfolding one_at
other_marked text ks m marks all e = let is : has ks (sort (token_of text m)) ≡ false = sym (marked_starts text ks m marks all) ∙ e in rw is refl

module _ (text : Text) (ks : List ℕ) (marks : List Mark) (m : Mark) (all : All (IsMark text) marks) (ts : List Token) (are : tokens_of text marks ≡ ts) where
  -- the first mark, and those after it
  pub taken_at : (t : Token) (us : List Token) → 0 < length marks → has ks (code (get_or marks 0 m).kind) ≡ true
      → t ≡ token_of text (get_or marks 0 m) → us ≡ tokens_of text (take (length marks - 1) (drop 1 marks)) → one_at sort ks ts ≡ Some (t, us)
  taken_at t us some e f g =
      let whole = first_rest marks m some in
      ap (one_at sort ks) (sym are) ∙ ap (λ (l : List Mark). one_at sort ks (tokens_of text l)) whole
      ∙ one_marked text ks (get_or marks 0 m) (take (length marks - 1) (drop 1 marks)) (subst (λ (l : List Mark). All (IsMark text) l) whole all) e
      ∙ ap (λ (u : Token). Some (u, tokens_of text (take (length marks - 1) (drop 1 marks)))) (sym f) ∙ ap (λ (l : List Token). Some (t, l)) (sym g)

  pub not_taken_at : 0 < length marks → has ks (code (get_or marks 0 m).kind) ≡ false → one_at sort ks ts ≡ None
  not_taken_at some e =
      let whole = first_rest marks m some in
      ap (one_at sort ks) (sym are) ∙ ap (λ (l : List Mark). one_at sort ks (tokens_of text l)) whole
      ∙ other_marked text ks (get_or marks 0 m) (take (length marks - 1) (drop 1 marks)) (subst (λ (l : List Mark). All (IsMark text) l) whole all) e

none_at : (text : Text) (ks : List ℕ) (marks : List Mark) → length marks < 1 → one_at sort ks (tokens_of text marks) ≡ None
unfolding one_at
none_at text ks [] none = refl
none_at text ks (m ∷ marks) none = absurd (omega arith)

pub none_taken_at : (text : Text) (ks : List ℕ) (marks : List Mark) (ts : List Token) → tokens_of text marks ≡ ts → length marks < 1 → one_at sort ks ts ≡ None
none_taken_at text ks marks ts are none = ap (one_at sort ks) (sym are) ∙ none_at text ks marks none

-- ---- the number of a literal

abbrev IsValued : Text → Found → Type 0
IsValued text found = (found_token found).kind ≡ kinds.Literal → value_in (run_of digit text).0 ≡ Some (number_of (found_token found).text)

valued_number : (text : Text) → IsValued text (numbered (run_of digit text))
unfolding value_in
valued_number text = go (nat_le (number_of (run_of digit text).0) greatest)
  where
    go : (x : Bool) → (found_token (with_value (run_of digit text) (if x then Some (number_of (run_of digit text).0) else None))).kind ≡ kinds.Literal
        → (if x then Some (number_of (run_of digit text).0) else None) ≡ Some (number_of (found_token (with_value (run_of digit text) (if x then Some (number_of (run_of digit text).0) else None))).text)
    go true e = refl
    go false e = absurd cc

valued_comment : (text : Text) (o : Option Text) → IsValued text (commented o)
valued_comment text None e = absurd cc
valued_comment text (Some rest) e = absurd cc

valued_sign : (text : Text) (o : Option (Text × Text)) → IsValued text (signed o)
valued_sign text None e = absurd cc
valued_sign text (Some w) e = absurd (sign_no_literal w.0 e)

valued_front : (text : Text) → IsValued text (front_of text)
unfolding front_of
valued_front [] = λ e. absurd cc
valued_front (b ∷ text) =
    if_both (IsValued (b ∷ text)) (is_blank b) (Ok (None, text)) _ (λ e. absurd cc)
    (if_both (IsValued (b ∷ text)) (letter b) (worded (run_of wordy (b ∷ text))) _ (λ e. absurd (word_apart (run_of wordy (b ∷ text)).0 e))
    (if_both (IsValued (b ∷ text)) (digit b) (numbered (run_of digit (b ∷ text))) _ (valued_number (b ∷ text))
    (if_both (IsValued (b ∷ text)) (opens (b ∷ text)) (commented (after_close (inside (b ∷ text)))) (signed (sign_of (b ∷ text)))
    (valued_comment (b ∷ text) (after_close (inside (b ∷ text)))) (valued_sign (b ∷ text) (sign_of (b ∷ text))))))

literal_value : (text : Text) (at : ℕ) → (token_at text at).kind ≡ kinds.Literal → value_in (run_of digit (drop at text)).0 ≡ Some (number_of (token_at text at).text)
unfolding token_at
literal_value text at e = valued_front (drop at text) e

module _ (text rest digits left : Text) (at : ℕ) (is : rest ≡ drop at text) (run : run_of digit rest ≡ (digits, left)) where
  valued : (token_at text at).kind ≡ kinds.Literal → value_in digits ≡ Some (number_of (token_at text at).text)
  valued e = ap value_in (sym (ap (λ (w : Text × Text). w.0) run) ∙ ap (λ (u : Text). (run_of digit u).0) is) ∙ literal_value text at e

  pub literal_valued : (n : ℕ) → value_in digits ≡ Some n → (token_at text at).kind ≡ kinds.Literal → n ≡ number_of (token_at text at).text
  literal_valued n e lit = let h = valued lit in let same : Some n ≡ Some (number_of (token_at text at).text) = sym e ∙ h in cc

  pub literal_found : value_in digits ≡ None → (token_at text at).kind ≡ kinds.Literal → 0 ≡ number_of (token_at text at).text
  literal_found e lit = absurd (let h = valued lit in let same : None ≡ Some (number_of (token_at text at).text) = sym e ∙ h in cc)

pub value_small : (digits : Text) (n : ℕ) → value_in digits ≡ Some n → n ≤ greatest
unfolding value_in
value_small digits n e = go (nat_le (number_of digits) greatest) refl e
  where
    go : (x : Bool) → nat_le (number_of digits) greatest ≡ x → (if x then Some (number_of digits) else None) ≡ Some n → n ≤ greatest
    go true is e = let same : number_of digits ≡ n = cc in subst (λ (k : ℕ). k ≤ greatest) same (leb-true (number_of digits) greatest is)
    go false is e = absurd cc
