use Rattle.std.proofs.Common.{◌≡◌, map, drop}
use Rattle.cif_source.specs.Source.{decl_tree}
use Rattle.cif_types_kinds.specs.Readings.{component_in, received_in}
use Rattle.cif_types_kinds.specs.Values.{first_told, decl_type_told}
use Rattle.cif_types_kinds.proofs.reading.Reading.ask_decl_types.Given as goal

abbrev pub invariant-loop-decl : goal.invariant-loop-decl
invariant-loop-decl l = first_told (decl_type_told (component_in l.self) (received_in l.self)) (map decl_tree (drop l.decl-index l.all)) ≡ first_told (decl_type_told (component_in l.self) (received_in l.self)) (map decl_tree l.all)
