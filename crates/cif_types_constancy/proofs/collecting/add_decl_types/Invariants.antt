use Rattle.std.proofs.Common.{◌≡◌, ◌++◌, map, flat_map, drop}
use Rattle.cif_source.specs.Constants.{decl_types}
use Rattle.cif_types_constancy.specs.Collected.{decl_of, type_of}
use Rattle.cif_types_constancy.proofs.collecting.add_decl_types.Given as goal

abbrev pub invariant-loop-decl : goal.invariant-loop-decl
invariant-loop-decl l = map type_of l.found.items ++ flat_map decl_types (map decl_of (drop l.decl-index l.decls)) ≡ map type_of l.fn.found.items ++ flat_map decl_types (map decl_of l.decls)
