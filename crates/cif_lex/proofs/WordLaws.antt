-- Reserved words are found among those of their length.
use Rattle.std.proofs.Common.{◌≡◌, ◌≢◌, ◌==◌, ℕ, Bool, true, if◌then◌else◌, List, [], ◌∷◌, length, Option, Some, None, refl, sym, ap, ◌∙◌, eq-eqb}
use Rattle.grammar.specs.Pieces.{Text, same}
use Rattle.grammar.proofs.Texts.{same_equal}
use Rattle.grammar.proofs.Tables.{look, having, found_having, is_other, other_length}
use Rattle.cif_lex.specs.declared.token.Word.{Word}
use Rattle.cif_lex.specs.Tokens.{find_text, reserved}
use Rattle.cif_lex.specs.Cutting.{reserved_word}

abbrev Table : Type 0
Table = List (Text × Word)

same_length : (a b : Text) → same a b ≡ true → length a ≡ length b
same_length a b e = ap (λ (u : Text). length u) (same_equal a b e)

abbrev some_word : Word → Option Word
some_word w = Some w

find_is : (table : Table) (t : Text) → find_text table t ≡ look same some_word table t None
find_is [] t = refl
find_is (e ∷ es) t = ap (λ (o : Option Word). if same e.0 t then Some e.1 else o) (find_is es t)

find_having : (p : ℕ → Bool) (table : Table) (t : Text) → p (length t) ≡ true → find_text (having p table) t ≡ find_text table t
find_having p table t h = find_is (having p table) t ∙ found_having same same_length some_word p table t None h ∙ sym (find_is table t)

pub words_of_two : (t : Text) → length t ≡ 2 → find_text (having (λ n. n == 2) reserved) t ≡ reserved_word t
unfolding reserved_word
words_of_two t e = find_having (λ n. n == 2) reserved t (search (eq-eqb, e))

pub words_of_three : (t : Text) → length t ≡ 3 → find_text (having (λ n. n == 3) reserved) t ≡ reserved_word t
unfolding reserved_word
words_of_three t e = find_having (λ n. n == 3) reserved t (search (eq-eqb, e))

pub words_of_four : (t : Text) → length t ≡ 4 → find_text (having (λ n. n == 4) reserved) t ≡ reserved_word t
unfolding reserved_word
words_of_four t e = find_having (λ n. n == 4) reserved t (search (eq-eqb, e))

pub words_of_five : (t : Text) → length t ≡ 5 → find_text (having (λ n. n == 5) reserved) t ≡ reserved_word t
unfolding reserved_word
words_of_five t e = find_having (λ n. n == 5) reserved t (search (eq-eqb, e))

pub words_of_six : (t : Text) → length t ≡ 6 → find_text (having (λ n. n == 6) reserved) t ≡ reserved_word t
unfolding reserved_word
words_of_six t e = find_having (λ n. n == 6) reserved t (search (eq-eqb, e))

pub longer_words : (t : Text) → length t ≢ 2 → length t ≢ 3 → length t ≢ 4 → length t ≢ 5 → length t ≢ 6 → find_text (having is_other reserved) t ≡ reserved_word t
unfolding reserved_word
longer_words t a b c d e = find_having is_other reserved t (other_length (length t) a b c d e)
