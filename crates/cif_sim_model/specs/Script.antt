-- What the lines of a script say: `set NAME VALUE` sets an input, `fire NAME` fires an event, and an empty line does nothing.
use Rattle.std.specs.Prelude.{ℕ, ℤ, pos, neg_ℤ, ◌==◌, ◌&&◌, List, [], ◌∷◌, map, find, Option, Some, None, option_map, option_and_then, codes, if◌then◌else◌}
use Rattle.std.specs.List.{enumerate_from, slice_split}
use Rattle.std.specs.Fmt.{signed_decimal}
use Rattle.std.specs.Str.Lines.{strip_carriage_return}
use Rattle.cif_base.specs.Bounds.{in_64_bits}
use Rattle.grammar.specs.Bytes.{digits_from}
use Rattle.grammar.specs.Pieces.{Text, same}
use Rattle.cif_sim_model.specs.Names.{Values, truths, numbers, literals, ValueNames, Names}

-- A line does nothing, sets an input to a value, or fires an event.
pub data Action : Type 0 where
  idle : Action
  sets : (input : ℕ) (value : ℤ) → Action
  fires : (event : ℕ) → Action

-- ---- lines

-- What stands between line feeds, each without one carriage return at its end. Where the text ends with a line feed, or is
-- empty, the last of these is empty, and does nothing as every empty line.
abbrev pub script_lines : Text → List Text
script_lines text = map strip_carriage_return (slice_split (λ b. b == 10) text)

-- the parts of a line: one space stands between two of them
abbrev pub parts_of : Text → List Text
parts_of line = slice_split (λ b. b == 32) line

-- ---- names and values

-- the number of the first that has this path
abbrev pub number_of : {A : Type 0} → (A → Text) → Text → List A → Option (ℕ × A)
number_of path_of t xs = find (λ x. same (path_of x.1) t) (enumerate_from 0 xs)

-- the number that digits, perhaps with `-` before them, stand for
abbrev pub number_in : Text → ℤ
number_in [] = pos 0
number_in (b ∷ t) = if b == 45 then neg_ℤ (pos (digits_from 0 t)) else pos (digits_from 0 (b ∷ t))

-- a canonical decimal of 64 bits: no sign but `-` before a nonzero number, and no leading zero
abbrev pub decimal_read : Text → Option ℤ
decimal_read t = if same t (signed_decimal (number_in t)) && in_64_bits (number_in t) then Some (number_in t) else None

-- `true` or `false`, a canonical decimal, or the name of a literal
abbrev pub value_read : Values → Text → Option ℤ
value_read truths t = if same t (codes "true") then Some (pos 1) else (if same t (codes "false") then Some (pos 0) else None)
value_read numbers t = decimal_read t
value_read (literals ls) t = option_map (λ x. pos x.0) (number_of (λ l. l) t ls)

-- ---- what a line says, or none where it has none of the three forms or its name or value denotes nothing of that sort

abbrev pub set_of : (value : Text) → ℕ × ValueNames → Option Action
set_of value (input, v) = option_map (sets input) (value_read v.values value)

abbrev pub said : Names → List Text → Option Action
said names [] = None
said names (x ∷ []) = if same x [] then Some idle else None
said names (x ∷ name ∷ []) = if same x (codes "fire") then option_map (λ e. fires e.0) (number_of (λ p. p) name names.events) else None
said names (x ∷ name ∷ value ∷ []) =
    if same x (codes "set") then option_and_then (set_of value) (number_of (λ (v : ValueNames). v.path) name names.inputs) else None
said names (x ∷ name ∷ value ∷ y ∷ ys) = None

abbrev pub read_line : Names → Text → Option Action
read_line names line = said names (parts_of line)
