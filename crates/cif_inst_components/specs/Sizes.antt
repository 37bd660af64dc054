-- Helper of the code: how many objects a body has, without those of the components in it, stopping past the limit.
use Rattle.std.specs.Prelude.{ℕ, ◌+◌, min, List, [], ◌∷◌, length}
use Rattle.cif_source.specs.Source.{EdgeTree, LocationTree, DeclTree, SourceItem, decl_item, component_item, definition_item, instance_item, SourceBody, group_body, automaton_body, Source, no_source, source}
use Rattle.cif_source.specs.InstanceRules.{decl_objects}
use Rattle.cif_scope.specs.Written.{WrittenBody}

abbrev pub stop : ℕ → ℕ
stop n = min n 100001

abbrev pub decls_size : List DeclTree → ℕ
decls_size [] = 0
decls_size (d ∷ ds) = decl_objects d + decls_size ds

abbrev pub item_size : SourceItem → ℕ
item_size (decl_item d) = decl_objects d
item_size (component_item n b) = 0
item_size (definition_item n ps b) = 0
item_size (instance_item i) = 0

abbrev pub items_size : Source → ℕ
items_size no_source = 0
items_size (source i is) = item_size i + items_size is

abbrev pub edges_size : List EdgeTree → ℕ
edges_size [] = 0
edges_size (e ∷ es) = length e.uses + edges_size es

abbrev pub locations_size : List LocationTree → ℕ
locations_size [] = 0
locations_size (l ∷ ls) = 1 + edges_size l.edges + locations_size ls

abbrev pub body_size : SourceBody → ℕ
body_size (group_body is) = items_size is
body_size (automaton_body a) = decls_size a.decls + locations_size a.locs

abbrev pub written_size : WrittenBody → ℕ
written_size w = stop (body_size w.body)
