-- The kind of a word is found among the words of its length.
use Rattle.std.proofs.Common.{◌≡◌, ◌≢◌, ◌==◌, ℕ, Bool, true, false, if◌then◌else◌, List, [], ◌∷◌, ◌++◌, map, length, refl, sym, ap, ◌∙◌, eq-eqb, arith}
use Rattle.std.specs.Prelude.{IsTrue, ◌↔◌}
use Rattle.std.specs.List.{list_any}
use Rattle.std.specs.Char.{to_ascii_lowercase}
use Rattle.std.proofs.lemmas.Bool.Decides.{same_from_decides}
use Rattle.std.proofs.lemmas.Slice.Eq.{bytes_eq-Decides}
use Rattle.grammar.specs.Pieces.{Text}
use Rattle.grammar.proofs.Texts.{and_right}
use Rattle.grammar.proofs.Tables.{look, having, found_having, is_other, other_length}
use Rattle.st_ast.specs.Names.{same_name}
use Rattle.st_ast.specs.Tokens.{keywords, reserved, in_table}
use Rattle.st_ast.specs.declared.kinds.TokenKind.{TokenKind}
use Rattle.st_ast.specs.declared.kinds.TokenKind.TheVariants as kinds
use Rattle.st_read.specs.Lexing.{name_kind, is_reserved, other_kind, word_kind}

abbrev Table : Type 0
Table = List (Text × TokenKind)

-- ---- the words without a kind as a table

abbrev unused : List Text → Table
unused [] = []
unused (r ∷ rs) = (r, kinds.Outside) ∷ unused rs

abbrev words : Table
words = keywords ++ unused reserved

unused_found : (rs : List Text) (w : Text) (other : TokenKind) → in_table (unused rs) w other ≡ (if list_any (λ r. same_name r w) rs then kinds.Outside else other)
unused_found [] w other = refl
unused_found (r ∷ rs) w other = go (same_name r w) refl (unused_found rs w other)
  where
    go : (x : Bool) → same_name r w ≡ x → in_table (unused rs) w other ≡ (if list_any (λ s. same_name s w) rs then kinds.Outside else other)
        → in_table (unused (r ∷ rs)) w other ≡ (if list_any (λ s. same_name s w) (r ∷ rs) then kinds.Outside else other)
    go true e ih = rw e refl
    go false e ih = rw e ih

both_found : (ps qs : Table) (w : Text) (other : TokenKind) → in_table (ps ++ qs) w other ≡ in_table ps w (in_table qs w other)
both_found [] qs w other = refl
both_found (p ∷ ps) qs w other = ap (λ (k : TokenKind). if same_name p.0 w then p.1 else k) (both_found ps qs w other)

words_found : (w : Text) → in_table words w (name_kind w) ≡ word_kind w
unfolding word_kind other_kind is_reserved
words_found w = both_found keywords (unused reserved) w (name_kind w) ∙ ap (in_table keywords w) (unused_found reserved w (name_kind w))

-- what a comparison of bytes tells, ignoring the case of letters
pub same_where_folded : (b : Bool) (x y : Text) → IsTrue b ↔ (map to_ascii_lowercase x ≡ map to_ascii_lowercase y) → b ≡ same_name x y
same_where_folded b x y told = same_from_decides b (same_name x y) told (bytes_eq-Decides (map to_ascii_lowercase x) (map to_ascii_lowercase y))

-- ---- the words of some lengths

same_length : (a b : Text) → same_name a b ≡ true → length a ≡ length b
same_length [] [] e = refl
same_length [] (b ∷ bs) e = absurd cc
same_length (a ∷ as') [] e = absurd cc
same_length (a ∷ as') (b ∷ bs) e = let m = same_length as' bs (and_right (to_ascii_lowercase a == to_ascii_lowercase b) (same_name as' bs) e) in omega (arith, m)

table_is : (table : Table) (w : Text) (other : TokenKind) → in_table table w other ≡ look same_name (λ (k : TokenKind). k) table w other
table_is [] w other = refl
table_is (e ∷ es) w other = ap (λ (k : TokenKind). if same_name e.0 w then e.1 else k) (table_is es w other)

found : (p : ℕ → Bool) (w : Text) → p (length w) ≡ true → in_table (having p words) w (name_kind w) ≡ word_kind w
found p w h =
    table_is (having p words) w (name_kind w) ∙ found_having same_name same_length (λ (k : TokenKind). k) p words w (name_kind w) h
    ∙ sym (table_is words w (name_kind w)) ∙ words_found w

pub words_of_two : (w : Text) → length w ≡ 2 → in_table (having (λ n. n == 2) words) w (name_kind w) ≡ word_kind w
words_of_two w e = found (λ n. n == 2) w (search (eq-eqb, e))

pub words_of_three : (w : Text) → length w ≡ 3 → in_table (having (λ n. n == 3) words) w (name_kind w) ≡ word_kind w
words_of_three w e = found (λ n. n == 3) w (search (eq-eqb, e))

pub words_of_four : (w : Text) → length w ≡ 4 → in_table (having (λ n. n == 4) words) w (name_kind w) ≡ word_kind w
words_of_four w e = found (λ n. n == 4) w (search (eq-eqb, e))

pub words_of_five : (w : Text) → length w ≡ 5 → in_table (having (λ n. n == 5) words) w (name_kind w) ≡ word_kind w
words_of_five w e = found (λ n. n == 5) w (search (eq-eqb, e))

pub words_of_six : (w : Text) → length w ≡ 6 → in_table (having (λ n. n == 6) words) w (name_kind w) ≡ word_kind w
words_of_six w e = found (λ n. n == 6) w (search (eq-eqb, e))

pub longer_words : (w : Text) → length w ≢ 2 → length w ≢ 3 → length w ≢ 4 → length w ≢ 5 → length w ≢ 6 → in_table (having is_other words) w (name_kind w) ≡ word_kind w
longer_words w a b c d e = found is_other w (other_length (length w) a b c d e)
