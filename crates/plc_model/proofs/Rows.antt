-- Worked examples of the definitions, by computation.
use Rattle.std.proofs.Common.{◌≡◌, refl}
use Rattle.std.specs.Prelude.{codes}
use Rattle.std.specs.Fmt.{digits}
use Rattle.plc_model.specs.declared.letter.Letter.TheVariants as letter
use Rattle.plc_model.specs.Names.{tidied, name_for}

-- ---- names

a_place : name_for letter.P 0 (codes "a") ≡ codes "P0_a"
unfolding digits
a_place = refl

an_underscore_stays : name_for letter.P 1 (codes "a_b") ≡ codes "P1_a_b"
unfolding digits
an_underscore_stays = refl

capitals_stay : name_for letter.P 2 (codes "P") ≡ codes "P2_P"
unfolding digits
capitals_stay = refl

small_letters_stay : name_for letter.P 3 (codes "p") ≡ codes "P3_p"
unfolding digits
small_letters_stay = refl

-- `b_c` in `a`, and `c` in `a_b`: the numbers tell them apart
a_path_with_an_underscore : name_for letter.Q 0 (codes "a.b_c") ≡ codes "Q0_a_b_c"
unfolding digits
a_path_with_an_underscore = refl

another_path_tidied_alike : name_for letter.Q 1 (codes "a_b.c") ≡ codes "Q1_a_b_c"
unfolding digits
another_path_tidied_alike = refl

a_number_of_two_digits : name_for letter.T 10 (codes "rounds") ≡ codes "T10_rounds"
unfolding digits
a_number_of_two_digits = refl

underscores_outside : tidied (codes "__a__b") ≡ codes "a_b"
underscores_outside = refl

nothing_is_left : tidied (codes "") ≡ codes "x"
nothing_is_left = refl

only_underscores : tidied (codes "._.") ≡ codes "x"
only_underscores = refl

-- 45 characters: the first 40 stay
a_long_path : tidied (codes "abcdefghij0123456789abcdefghij0123456789ABCDE") ≡ codes "abcdefghij0123456789abcdefghij0123456789"
a_long_path = refl

-- 45 characters, the 40th of which becomes `_`
an_underscore_at_the_cut : tidied (codes "abcdefghij0123456789abcdefghij012345678.ABCDE") ≡ codes "abcdefghij0123456789abcdefghij012345678"
an_underscore_at_the_cut = refl
