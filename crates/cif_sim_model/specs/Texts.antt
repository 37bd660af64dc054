-- The lines that a simulation writes. A line ends with a line feed, and a location or a value stands behind its path and `=`.
use Rattle.std.specs.Prelude.{ℕ, ℤ, pos, nat_abs, Bool, not, nat_eq, List, [], ◌∷◌, ◌++◌, map, filter, slice_get, unwrap_or, option_map, codes, decimal, if◌then◌else◌}
use Rattle.std.specs.List.{zip}
use Rattle.std.specs.Ordering.{int_eq}
use Rattle.std.specs.Fmt.{signed_decimal}
use Rattle.grammar.specs.Pieces.{Text}
use Rattle.cif_system.specs.System.{State}
use Rattle.cif_sim_model.specs.Names.{Values, truths, numbers, literals, AutomatonNames, ValueNames, Names}

-- ---- values

-- the name of a location, or `*` for one without a name
abbrev pub location_name : Text → Text
location_name [] = codes "*"
location_name (b ∷ bs) = b ∷ bs

abbrev pub location_text : AutomatonNames → ℕ → Text
location_text a place = unwrap_or (option_map location_name (slice_get a.locs place)) []

-- a literal is told by its name, and a number by its decimal
abbrev pub value_text : Values → ℤ → Text
value_text truths z = if int_eq z (pos 1) then codes "true" else codes "false"
value_text numbers z = signed_decimal z
value_text (literals ls) z = unwrap_or (slice_get ls (nat_abs z)) []

abbrev pub told : (path value : Text) → Text
told path value = path ++ codes "=" ++ value

abbrev pub place_told : AutomatonNames × ℕ → Text
place_told (a, k) = told a.path (location_text a k)

abbrev pub value_told : ValueNames × ℤ → Text
value_told (v, z) = told v.path (value_text v.values z)

-- each with a blank before it
abbrev pub listed : List Text → Text
listed [] = []
listed (t ∷ ts) = codes " " ++ t ++ listed ts

-- ---- all of a state, and what is another in the next one

-- the place of each automaton, and then the value of each variable
abbrev pub state_told : Names → State → List Text
state_told names s = map place_told (zip names.automata s.locs) ++ map value_told (zip names.variables s.vals)

-- which of the second values are others than the first ones, each under its name
abbrev pub changed : {N A : Type 0} → (A → A → Bool) → List N → List A → List A → List (N × A)
changed same names olds news = map (λ x. (x.0, x.1.1)) (filter (λ x. not (same x.1.0 x.1.1)) (zip names (zip olds news)))

-- each automaton that is in another place, and then each variable that has another value
abbrev pub change_told : Names → State → State → List Text
change_told names s next =
    map place_told (changed nat_eq names.automata s.locs next.locs) ++ map value_told (changed int_eq names.variables s.vals next.vals)

-- ---- lines

abbrev pub start_line : Names → State → Text
start_line names s = codes "start" ++ listed (state_told names s) ++ codes "\n"

abbrev pub input_told : Names → ℕ → ℤ → Text
input_told names input z = unwrap_or (option_map (λ v. value_told (v, z)) (slice_get names.inputs input)) []

abbrev pub set_line : Names → (input : ℕ) → ℤ → Text
set_line names input z = codes "set " ++ input_told names input z ++ codes "\n"

abbrev pub event_path : Names → ℕ → Text
event_path names e = unwrap_or (slice_get names.events e) []

-- the step k, counted from 1
abbrev pub step_line : Names → (k event : ℕ) → State → State → Text
step_line names k event s next = codes "step " ++ decimal k ++ codes " " ++ event_path names event ++ listed (change_told names s next) ++ codes "\n"

abbrev pub deadlock_line : Text
deadlock_line = codes "deadlock\n"
