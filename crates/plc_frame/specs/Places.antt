-- The variables with the places of automata.
use Rattle.std.specs.Prelude.{ℕ, pos, true, List, [], slice_get, Some, None}
use Rattle.cif_net_model.specs.Net.{NetAuto, Net}
use Rattle.st_ast.specs.Tree.{Expr, number, named, equal}
use Rattle.grammar.specs.Pieces.{Text}
use Rattle.plc_model.specs.declared.letter.Letter.TheVariants as letter
use Rattle.plc_model.specs.Names.{name_for}

abbrev pub path_in : List NetAuto → ℕ → Text
path_in autos k = elim (slice_get autos k) [ None ↦ [] | Some a ↦ a.path ]

-- the variable with the place of an automaton
abbrev pub place_name : Net → ℕ → Text
place_name n k = name_for letter.L k (path_in n.autos k)

-- that an automaton is in a place
abbrev pub is_in_place : Net → ℕ → ℕ → Expr
is_in_place n k p = equal (named (place_name n k)) true (number (pos p))
