-- Tests of all bodies of a source as written, and of what stands in them.
use Rattle.std.specs.Prelude.{Bool}
use Rattle.std.specs.List.{list_all}
use Rattle.cif_source.specs.Source.{EdgeTree, LocationTree, DeclTree, SourceItem, SourceBody, Source}
use Rattle.cif_source.specs.Components.{body_of}
use Rattle.cif_source.specs.Objects.{bodies, items_in, decls_in, locs_in}

abbrev pub every_body : (SourceBody → Bool) → Source → Bool
every_body test t = list_all (λ c. test (body_of c)) (bodies t)

abbrev pub every_item : (SourceItem → Bool) → Source → Bool
every_item test t = every_body (λ b. list_all test (items_in b)) t

abbrev pub every_decl : (DeclTree → Bool) → Source → Bool
every_decl test t = every_body (λ b. list_all test (decls_in b)) t

abbrev pub every_location : (LocationTree → Bool) → Source → Bool
every_location test t = every_body (λ b. list_all test (locs_in b)) t

abbrev pub every_edge : (EdgeTree → Bool) → Source → Bool
every_edge test t = every_location (λ l. list_all test l.edges) t
