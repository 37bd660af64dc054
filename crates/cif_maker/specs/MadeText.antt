-- The text of a made source, as pieces whose places its tree refers to, and the text of its rows.
use Rattle.std.specs.Prelude.{ℕ, suc, ◌+◌, nat_eq, List, [], ◌∷◌, ◌++◌, flat_map, length, take, codes, decimal, if◌then◌else◌}
use Rattle.grammar.specs.Pieces.{Text}
use Rattle.cif_maker.specs.Draws.{has_need, made_cell, made_rows_number, most_of, next_of, numbers_below}

abbrev pub concatenated : List Text → Text
concatenated ts = flat_map (λ t. t) ts

-- a letter and a number
abbrev pub numbered : Text → ℕ → Text
numbered letter i = letter ++ decimal i

-- the declarations of plant i, whose variable goes up to `most`
abbrev pub declaration_pieces : (i most : ℕ) → List Text
declaration_pieces i most =
    codes "uncontrollable " ∷ numbered (codes "u") i ∷ codes "; controllable " ∷ numbered (codes "c") i
    ∷ codes "; input bool " ∷ numbered (codes "s") i ∷ codes "; plant " ∷ numbered (codes "A") i
    ∷ codes ": disc int[" ∷ codes "0" ∷ codes ".." ∷ decimal most ∷ codes "] " ∷ codes "n" ∷ codes " = " ∷ codes "0"
    ∷ codes "; location " ∷ []

-- its location `idle`
abbrev pub idle_pieces : (i most : ℕ) → List Text
idle_pieces i most =
    codes "idle" ∷ codes ": initial; marked; edge " ∷ numbered (codes "u") i
    ∷ codes " when " ∷ numbered (codes "s") i ∷ codes " and " ∷ codes "n" ∷ codes " < " ∷ decimal most
    ∷ codes " do " ∷ codes "n" ∷ codes " := " ∷ codes "n" ∷ codes " + " ∷ codes "1" ∷ codes " goto " ∷ codes "busy"
    ∷ codes "; location " ∷ []

-- its location `busy`
abbrev pub busy_pieces : ℕ → List Text
busy_pieces i = codes "busy" ∷ codes ": edge " ∷ numbered (codes "c") i ∷ codes " goto " ∷ codes "idle" ∷ codes "; end\n" ∷ []

-- the line of plant i
abbrev pub plant_pieces : (i most : ℕ) → List Text
plant_pieces i most = declaration_pieces i most ++ (idle_pieces i most ++ busy_pieces i)

-- the line that plant i needs plant j idle
abbrev pub need_pieces : (i j : ℕ) → List Text
need_pieces i j =
    codes "requirement " ∷ numbered (codes "c") i ∷ codes " needs " ∷ numbered (codes "A") j ∷ codes "." ∷ codes "idle" ∷ codes ";\n" ∷ []

-- where a piece begins in a text that begins at `from`
abbrev pub place : (from : ℕ) → List Text → ℕ → ℕ
place from ts k = from + length (concatenated (take k ts))

-- ---- the source

abbrev pub plant_text : (seed i : ℕ) → Text
plant_text seed i = concatenated (plant_pieces i (most_of seed i))

abbrev pub need_text : (seed size i : ℕ) → Text
need_text seed size i = if has_need seed size i then concatenated (need_pieces i (next_of size i)) else []

-- what is written for i
abbrev pub block_text : (seed size i : ℕ) → Text
block_text seed size i = plant_text seed i ++ need_text seed size i

abbrev pub blocks_text : (seed size n : ℕ) → Text
blocks_text seed size n = flat_map (block_text seed size) (numbers_below n)

abbrev pub made_text : (seed size : ℕ) → Text
made_text seed size = blocks_text seed size size

-- ---- the rows

-- the column of input i
abbrev pub input_name : ℕ → Text
input_name i = codes ",I" ++ (decimal i ++ (codes "_s" ++ decimal i))

-- a comma, and TRUE for 1
abbrev pub truth_text : ℕ → Text
truth_text b = if nat_eq b 1 then codes ",TRUE" else codes ",FALSE"

abbrev pub cell_text : (seed size r i : ℕ) → Text
cell_text seed size r i = truth_text (made_cell seed size r i)

abbrev pub row_text : (seed size r : ℕ) → Text
row_text seed size r = decimal (suc r) ++ flat_map (cell_text seed size r) (numbers_below size) ++ codes "\n"

abbrev pub made_rows_text : (seed size : ℕ) → Text
made_rows_text seed size = codes "scan" ++ flat_map input_name (numbers_below size) ++ codes "\n" ++ flat_map (row_text seed size) (numbers_below made_rows_number)
