-- Helper of the code: where the names of bodies stand.
use Rattle.std.specs.Prelude.{ℕ, List, [], ◌∷◌, ◌++◌}
use Rattle.cif_source.specs.Source.{SourceItem, decl_item, component_item, definition_item, instance_item, SourceBody, group_body, automaton_body, Source, no_source, source}

abbrev mutual
  pub places_in : Source → List ℕ
  places_in no_source = []
  places_in (source i is) = places_at i ++ places_in is

  pub places_at : SourceItem → List ℕ
  places_at (decl_item d) = []
  places_at (component_item n b) = n.at ∷ places_under b
  places_at (definition_item n ps b) = n.at ∷ places_under b
  places_at (instance_item i) = []

  pub places_under : SourceBody → List ℕ
  places_under (group_body is) = places_in is
  places_under (automaton_body a) = []

-- those of all bodies, in text order; the specification has none
abbrev pub all_places : Source → List ℕ
all_places t = 0 ∷ places_in t
