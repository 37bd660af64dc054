-- What stands at the front of a text is the piece that is cut off there, and where nothing does none begins.
use Rattle.std.proofs.Common.{◌≡◌, ◌==◌, ◌&&◌, ℕ, Bool, true, false, nat_le, List, [], ◌∷◌, Option, Some, None, Ok, Err, refl, sym, ap, eqb-true, ◌∙◌, inl, inr, if◌then◌else◌}
use Rattle.std.specs.Option.{option_or}
use Rattle.grammar.specs.Pieces.{Text, Cutter, Cut, either_cut, run_cut, run_of, after_cut, closed_cut, close_at, text_cut, strip, or_else, head_is}
use Rattle.grammar.proofs.Plain.{if_some}
use Rattle.grammar.proofs.Texts.{same_equal}
use Rattle.grammar.proofs.Cutting.{text_made}
use Rattle.grammar.proofs.Closing.{rest_of, close_is}
use Rattle.grammar.specs.Bytes.{is_blank, begins_word, is_digit, is_wordy, none_of}
use Rattle.grammar.specs.Classes.{letter, digit, wordy}
use Rattle.grammar.proofs.Fronts.{none_run}
use Rattle.st_ast.specs.Tokens.{Piece, blank, comment, word, number, sign, signs, token_of, piece, is_sign, number_of, greatest}
use Rattle.st_read.specs.Cutting.{first_cut, piece_cut}
use Rattle.st_read.specs.declared.found.Fault.TheVariants as f
use Rattle.st_read.specs.Lexing.{Found, is_reserved, other_kind, word_kind, sign_kind, value_in, numbered, after_close, commented, with_sign, sign_in, sign_of, signed, opens, inside, front_of}

-- ---- cutting that stops at a comment that isn't closed

abbrev pub comment_cut : Cutter Piece
comment_cut = after_cut 40 (closed_cut 42 42 41 comment)

abbrev last_cut : Cutter Piece
last_cut text = if opens text then comment_cut text else text_cut signs sign text

abbrev over : Cutter Piece → Cutter Piece
over last = either_cut is_blank (run_cut is_blank none_of (λ t. blank)) (either_cut begins_word (run_cut begins_word is_wordy word) (either_cut is_digit (run_cut is_digit is_digit number) last))

unfoldable pub strict_cut : Cutter Piece
strict_cut = over last_cut

-- what the last cutter gives, the whole gives
lift_if : {A : Type 0} (b : Bool) (x y z : Option A) (a : A) → (y ≡ Some a → z ≡ Some a) → (if b then x else y) ≡ Some a → (if b then x else z) ≡ Some a
lift_if true x y z a h e = e
lift_if false x y z a h e = h e

lifted : (c d : Cutter Piece) (text : Text) (k : Cut Piece) → (c text ≡ Some k → d text ≡ Some k) → over c text ≡ Some k → over d text ≡ Some k
lifted c d text k h e =
    lift_if (head_is is_blank text) (run_cut is_blank none_of (λ t. blank) text) _ _ k
    (lift_if (head_is begins_word text) (run_cut begins_word is_wordy word text) _ _ k
    (lift_if (head_is is_digit text) (run_cut is_digit is_digit number text) (c text) (d text) k h)) e

-- ---- a text that begins with `(*`

opening : (a b : ℕ) → (a == 40 && b == 42) ≡ true → (a ≡ 40) × (b ≡ 42)
opening a b e = go (a == 40) refl e
  where
    go : (x : Bool) → (a == 40) ≡ x → (x && b == 42) ≡ true → (a ≡ 40) × (b ≡ 42)
    go true is g = (eqb-true a 40 is, eqb-true b 42 g)
    go false is g = absurd cc

pub opened : (text : Text) → opens text ≡ true → text ≡ 40 ∷ 42 ∷ inside text
opened [] e = absurd cc
opened (a ∷ []) e = absurd cc
opened (a ∷ b ∷ text) e = let m = opening a b e in ap (λ (c : ℕ). c ∷ b ∷ text) m.0 ∙ ap (λ (c : ℕ). 40 ∷ c ∷ text) m.1

-- ---- what stands at the front

abbrev pub in_range : Piece → Bool
in_range blank = true
in_range comment = true
in_range (word w) = true
in_range (number d) = nat_le (number_of d) greatest
in_range (sign s) = true

-- a piece as what is found, with the text after it
abbrev pub judge : Piece → Text → Found
judge p rest = if in_range p then Ok (token_of p, rest) else Err f.NumberTooBig

-- what is cut as what is found, where a comment opens or not
abbrev pub judged : Bool → Option (Cut Piece) → Found
judged comes None = if comes then Err f.OpenComment else Err f.BadByte
judged comes (Some k) = judge k.piece k.rest

comment_of : (o : Option (Text × Text)) → Option (Cut Piece)
comment_of None = None
comment_of (Some q) = Some (record { piece = comment; bytes = 40 ∷ 42 ∷ q.0; rest = q.1 })

comment_is : (text : Text) → comment_cut (40 ∷ 42 ∷ text) ≡ comment_of (close_at 42 41 text)
unfolding comment_of
comment_is text = go (close_at 42 41 text) refl
  where
    go : (o : Option (Text × Text)) → close_at 42 41 text ≡ o → comment_cut (40 ∷ 42 ∷ text) ≡ comment_of (close_at 42 41 text)
    go None e = rw e refl
    go (Some q) e = rw e refl

-- a comment that isn't closed is not cut off
pub open_uncut : (text : Text) → after_close text ≡ None → comment_cut (40 ∷ 42 ∷ text) ≡ None
unfolding comment_of
open_uncut text e = go (close_at 42 41 text) refl
  where
    go : (o : Option (Text × Text)) → close_at 42 41 text ≡ o → comment_cut (40 ∷ 42 ∷ text) ≡ None
    go None is = comment_is text ∙ ap comment_of is
    go (Some q) is = absurd (let g : None ≡ Some q.1 = sym e ∙ close_is 42 41 text ∙ ap rest_of is in cc)

comment_front : (o : Option (Text × Text)) → commented (rest_of o) ≡ judged true (comment_of o)
unfolding comment_of
comment_front None = refl
comment_front (Some q) = refl

sign_front : (ss : List Text) (text : Text) → signed (sign_in ss text) ≡ judged false (text_cut ss sign text)
unfolding sign_kind
sign_front [] text = refl
sign_front (s ∷ ss) text = go (strip s text) (sign_front ss text)
  where
    go : (o : Option Text) → signed (sign_in ss text) ≡ judged false (text_cut ss sign text) → signed (with_sign s o (sign_in ss text)) ≡ judged false (or_else (sign s) s o (text_cut ss sign text))
    go None ih = ih
    go (Some rest) ih = refl

last_is : (w : Text) → (if opens w then commented (after_close (inside w)) else signed (sign_of w)) ≡ judged (opens w) (last_cut w)
unfolding sign_of
last_is w = go (opens w) refl
  where
    go : (x : Bool) → opens w ≡ x → (if x then commented (after_close (inside w)) else signed (sign_in signs w)) ≡ judged x (if x then comment_cut w else text_cut signs sign w)
    go true e =
        ap commented (close_is 42 41 (inside w)) ∙ comment_front (close_at 42 41 (inside w))
        ∙ sym (ap (λ (u : Text). judged true (comment_cut u)) (opened w e) ∙ ap (judged true) (comment_is (inside w)))
    go false e = sign_front signs w

number_judged : (d rest : Text) → numbered (d, rest) ≡ judge (number d) rest
unfolding value_in
number_judged d rest = go (nat_le (number_of d) greatest) refl
  where
    go : (x : Bool) → nat_le (number_of d) greatest ≡ x → numbered (d, rest) ≡ judge (number d) rest
    go true e = rw e refl
    go false e = rw e refl

front_step : (b : ℕ) (text : Text) (x y z : Bool) → is_blank b ≡ x → begins_word b ≡ y → is_digit b ≡ z → front_of (b ∷ text) ≡ judged (opens (b ∷ text)) (strict_cut (b ∷ text))
unfolding front_of strict_cut letter wordy digit word_kind other_kind is_reserved
front_step b text true y z e f g = rw (e, none_run text) refl
front_step b text false true z e f g = rw (e, f) refl
front_step b text false false true e f g = rw (e, f, g) (number_judged (b ∷ (run_of is_digit text).0) (run_of is_digit text).1)
front_step b text false false false e f g = rw (e, f, g) (last_is (b ∷ text))

pub front_is : (text : Text) → front_of text ≡ judged (opens text) (strict_cut text)
unfolding front_of strict_cut
front_is [] = refl
front_is (b ∷ text) = front_step b text (is_blank b) (begins_word b) (is_digit b) refl refl refl

-- ---- the two ways to cut

pub not_opened : (text : Text) → opens text ≡ false → comment_cut text ≡ None
not_opened [] e = refl
not_opened (a ∷ []) e = go (a == 40) refl
  where
    go : (x : Bool) → (a == 40) ≡ x → comment_cut (a ∷ []) ≡ None
    go true is = rw is refl
    go false is = rw is refl
not_opened (a ∷ b ∷ text) e = go (a == 40) (b == 42) refl refl e
  where
    go : (x y : Bool) → (a == 40) ≡ x → (b == 42) ≡ y → (a == 40 && b == 42) ≡ false → comment_cut (a ∷ b ∷ text) ≡ None
    go true true is js f = absurd (let g : (true && true) ≡ false = ap (λ (x : Bool). x && true) (sym is) ∙ ap (λ (y : Bool). a == 40 && y) (sym js) ∙ f in cc)
    go true false is js f = rw (is, js) refl
    go false y is js f = rw is refl

last_first : (text : Text) (k : Cut Piece) → last_cut text ≡ Some k → first_cut comment_cut (text_cut signs sign) text ≡ Some k
last_first text k e =
    elim (if_some (opens text) (comment_cut text) (text_cut signs sign text) (Some k) e) [
      | inl w ↦ ap (λ (o : Option (Cut Piece)). option_or o (text_cut signs sign text)) w.1
      | inr w ↦ ap (λ (o : Option (Cut Piece)). option_or o (text_cut signs sign text)) (not_opened text w.0) ∙ w.1
    ]

first_last : (text : Text) (k : Cut Piece) → (opens text ≡ true → comment_cut text ≡ None → ⊥) → first_cut comment_cut (text_cut signs sign) text ≡ Some k → last_cut text ≡ Some k
first_last text k n e = go (opens text) refl (comment_cut text) refl
  where
    go : (x : Bool) → opens text ≡ x → (o : Option (Cut Piece)) → comment_cut text ≡ o → (if x then comment_cut text else text_cut signs sign text) ≡ Some k
    go true is None f = absurd (n is f)
    go true is (Some j) f = let g : option_or (Some j) (text_cut signs sign text) ≡ Some k = ap (λ (o : Option (Cut Piece)). option_or o (text_cut signs sign text)) (sym f) ∙ e in f ∙ g
    go false is o f = ap (λ (p : Option (Cut Piece)). option_or p (text_cut signs sign text)) (sym (not_opened text is)) ∙ e

pub strict_cuts : (text : Text) (k : Cut Piece) → strict_cut text ≡ Some k → piece_cut text ≡ Some k
unfolding strict_cut piece_cut
strict_cuts text k e = lifted last_cut (first_cut comment_cut (text_cut signs sign)) text k (last_first text k) e

pub cuts_strict : (text : Text) (k : Cut Piece) → (opens text ≡ true → comment_cut text ≡ None → ⊥) → piece_cut text ≡ Some k → strict_cut text ≡ Some k
unfolding strict_cut piece_cut
cuts_strict text k n e = lifted (first_cut comment_cut (text_cut signs sign)) last_cut text k (first_last text k n) e

-- ---- `(` directly before `*`

pub sign_bytes : (s x : Text) → piece (sign s) x → x ≡ s
unfolding piece
sign_bytes s x (inl d) = absurd (let e = d.5 in cc)
sign_bytes s x (inr (inl d)) = absurd (let e = d.5 in cc)
sign_bytes s x (inr (inr (inl d))) = absurd (let e = d.5 in cc)
sign_bytes s x (inr (inr (inr (inl d)))) = absurd (let e = d.1.3 in cc)
sign_bytes s x (inr (inr (inr (inr d)))) = let e : sign s ≡ sign x = text_made signs sign (sign s) x d in cc

pub sign_is : (s : Text) (p : Piece) → is_sign s p ≡ true → p ≡ sign s
sign_is s blank e = absurd cc
sign_is s comment e = absurd cc
sign_is s (word w) e = absurd cc
sign_is s (number d) e = absurd cc
sign_is s (sign t) e = ap sign (sym (same_equal s t e))

comment_some : (o : Option (Text × Text)) (k : Cut Piece) → comment_of o ≡ Some k → k.piece ≡ comment
unfolding comment_of
comment_some None k e = absurd cc
comment_some (Some q) k e = let same_cut : record { piece = comment; bytes = 40 ∷ 42 ∷ q.0; rest = q.1 } ≡ k = cc in ap (λ (c : Cut Piece). c.piece) (sym same_cut)

pub strict_comment : (text : Text) (k : Cut Piece) → strict_cut (40 ∷ 42 ∷ text) ≡ Some k → k.piece ≡ comment
unfolding strict_cut
strict_comment text k e = comment_some (close_at 42 41 text) k (sym (comment_is text) ∙ e)
