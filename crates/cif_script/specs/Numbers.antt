-- Tables from paths to numbers.
use Rattle.std.specs.Prelude.{◌≡◌, ℕ, List, find, map, Option, option_map}
use Rattle.grammar.specs.Pieces.{Text, same}
use Rattle.cif_sim_model.specs.Names.{Names, ValueNames}
use Rattle.cif_sim_model.specs.Script.{number_of}

-- a path with its number
abbrev pub Numbered : Type 0
Numbered = Text × ℕ

abbrev pub number_at : List Numbered → Text → Option ℕ
number_at es t = option_map (λ e. e.1) (find (λ e. same e.0 t) es)

-- the number of the first of these paths that is this one
abbrev pub first_number : List Text → Text → Option ℕ
first_number paths t = option_map (λ x. x.0) (number_of (λ p. p) t paths)

-- the table has the number of the first of these paths that is the one that is looked up
abbrev pub Finds : List Text → List Numbered → Type 0
Finds paths es = (t : Text) → number_at es t ≡ first_number paths t

abbrev pub input_paths : Names → List Text
input_paths names = map (λ (v : ValueNames). v.path) names.inputs

-- the tables are those of events and inputs
pub record FindsNames (names : Names) (events inputs : List Numbered) : Type 0 where
  pub of_events : Finds names.events events
  pub of_inputs : Finds (input_paths names) inputs
