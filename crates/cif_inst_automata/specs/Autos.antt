-- Helper of the code: the automata of a source, by what names are looked up in.
use Rattle.std.specs.Prelude.{ℕ, ◌+◌, ◌-◌, Bool, List, [], ◌∷◌, ◌++◌, map, length, take}
use Rattle.std.specs.List.{position_or_len}
use Rattle.cif_net_model.specs.Net.{NetAuto}
use Rattle.cif_source.specs.Source.{Text, LocationTree, AutomatonTree, SourceBody, group_body, automaton_body}
use Rattle.cif_inst_model.specs.Flat.{location_name}
use Rattle.cif_inst_paths.specs.Rows.{RowTree}
use Rattle.cif_inst_automata.specs.Edges.{automaton_edges}
use Rattle.cif_inst_automata.specs.Alphabets.{alphabet_for, monitors_for}
use Rattle.cif_inst_names.specs.declared.looking.Looking.{Looking}

abbrev pub is_initial : LocationTree → Bool
is_initial l = l.initial

abbrev pub without_dot : Text → Text
without_dot p = take (length p - 1) p

abbrev pub auto_for : Looking → (component : ℕ) → Text → AutomatonTree → NetAuto
auto_for l k p a = record {
  path = without_dot p;
  locs = map location_name a.locs;
  first = position_or_len is_initial a.locs;
  alphabet = alphabet_for l k a;
  monitors = monitors_for l k a;
  edges = automaton_edges l k a;
}

abbrev pub body_autos : Looking → (component : ℕ) → Text → SourceBody → List NetAuto
body_autos l k p (group_body is) = []
body_autos l k p (automaton_body a) = auto_for l k p a ∷ []

-- the automata among the components from number k on
abbrev pub rows_autos : Looking → ℕ → List RowTree → List NetAuto
rows_autos l k [] = []
rows_autos l k (r ∷ rs) = body_autos l k r.0 r.1 ++ rows_autos l (k + 1) rs
