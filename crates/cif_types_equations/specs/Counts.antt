-- The numbers of definitions of an algebraic variable, and the first of them that is not 1.
use Rattle.std.specs.Prelude.{ℕ, ◌+◌, Bool, false, nat_eq, List, [], ◌∷◌, length, filter_map, Option, Some, None, if◌then◌else◌, ◌&&◌, ◌||◌}
use Rattle.std.specs.Option.{option_or}
use Rattle.cif_ast.specs.Tree.{Tree}
use Rattle.cif_source.specs.Source.{Text, EquationTree, LocationTree, SourceBody, group_body, automaton_body}
use Rattle.cif_source.specs.Value.{equation_for}
use Rattle.cif_types_equations.specs.declared.tallies.Tally.{Tally}

-- a declared value is one definition
abbrev pub value_count : Option Tree → ℕ
value_count None = 0
value_count (Some e) = 1

abbrev pub unless_one : ℕ → Option ℕ
unless_one k = if nat_eq k 1 then None else Some k

abbrev pub first_some : {A F : Type 0} → (A → Option F) → List A → Option F
first_some f [] = None
first_some f (x ∷ xs) = option_or (f x) (first_some f xs)

-- the number of equations that define x
abbrev pub equation_count : Text → List EquationTree → ℕ
equation_count x qs = length (filter_map (equation_for x) qs)

-- of the component's own definitions and those in a location together
abbrev pub location_other : ℕ → Text → LocationTree → Option ℕ
location_other own x l = unless_one (own + equation_count x l.equations)

abbrev pub first_other : ℕ → Text → List LocationTree → Option ℕ
first_other own x ls = first_some (location_other own x) ls

-- ---- without going through the locations

abbrev pub is_at : Option ℕ → ℕ → Bool
is_at None k = false
is_at (Some n) k = nat_eq n k

-- the component defines it and none of the n locations does, or the component does not and each of them has one
abbrev pub is_single : ℕ → Option ℕ → ℕ → Bool
is_single own placed n = (nat_eq own 1 && is_at placed 0) || (nat_eq own 0 && is_at placed n)

-- the first number that is not 1, of a variable with so many definitions of the component's own
abbrev pub other_count : SourceBody → Tally → ℕ → Text → Option ℕ
other_count (group_body is) t own x = unless_one own
other_count (automaton_body a) t own x = if is_single own t.placed (length a.locs) then None else first_other own x a.locs
