-- The made sources of seed 1 and sizes 1 and 2, and rows of small seeds.
use Rattle.std.proofs.Common.{◌≡◌, pos, [], ◌∷◌, codes, refl, length}
use Rattle.std.specs.Fmt.{digits}
use Rattle.std.specs.Prelude.{map}
use Rattle.cif_maker.specs.Draws.{draw, most_of, made_row, made_rows, made_rows_number}
use Rattle.cif_maker.specs.MadeText.{made_text, blocks_text, plant_pieces, place, row_text}

first_draw : draw 1 0 ≡ 16838
first_draw = refl

nine : most_of 1 0 ≡ 9
nine = refl

text_of_one : made_text 1 1 ≡ codes "uncontrollable u0; controllable c0; input bool s0; plant A0: disc int[0..9] n = 0; location idle: initial; marked; edge u0 when s0 and n < 9 do n := n + 1 goto busy; location busy: edge c0 goto idle; end\n"
unfolding digits
text_of_one = refl

-- the guard begins at byte 128
guard_place : place 0 (plant_pieces 0 9) 21 ≡ 128
unfolding digits
guard_place = refl

-- where each name and number of the line begins
all_places : map (place 0 (plant_pieces 0 9)) (1 ∷ 3 ∷ 5 ∷ 7 ∷ 9 ∷ 11 ∷ 13 ∷ 15 ∷ 17 ∷ 19 ∷ 21 ∷ 23 ∷ 25 ∷ 27 ∷ 29 ∷ 31 ∷ 33 ∷ 35 ∷ 37 ∷ 39 ∷ []) ≡ 15 ∷ 32 ∷ 47 ∷ 57 ∷ 70 ∷ 73 ∷ 76 ∷ 80 ∷ 92 ∷ 120 ∷ 128 ∷ 135 ∷ 139 ∷ 144 ∷ 149 ∷ 153 ∷ 160 ∷ 175 ∷ 186 ∷ 194 ∷ []
unfolding digits
all_places = refl

-- where the second block begins, and the length of the whole
second_block : length (blocks_text 1 2 1) ≡ 204
unfolding digits
second_block = refl

whole_length : length (made_text 1 2) ≡ 438
unfolding digits
whole_length = refl

first_row : made_row 1 2 0 ≡ pos 1 ∷ pos 1 ∷ []
first_row = refl

second_row : made_row 1 2 1 ≡ pos 0 ∷ pos 1 ∷ []
second_row = refl

row_of_four : made_row 7 4 1 ≡ pos 0 ∷ pos 0 ∷ pos 1 ∷ pos 0 ∷ []
row_of_four = refl

false_and_true : row_text 0 2 0 ≡ codes "1,FALSE,TRUE\n"
unfolding digits
false_and_true = refl

number_of_rows : length (made_rows 1 2) ≡ 100
unfolding made_rows_number
number_of_rows = refl
