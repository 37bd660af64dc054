use Rattle.std.proofs.Common.{◌≡◌, ◌++◌, map, flat_map, drop}
use Rattle.cif_source.specs.Constants.{decl_constants}
use Rattle.cif_types_constancy.specs.Collected.{decl_of, typed_of}
use Rattle.cif_types_constancy.proofs.collecting.add_values.Given as goal

abbrev pub invariant-loop-decl : goal.invariant-loop-decl
invariant-loop-decl l = map typed_of l.found.items ++ flat_map decl_constants (map decl_of (drop l.decl-index l.decls)) ≡ map typed_of l.fn.found.items ++ flat_map decl_constants (map decl_of l.decls)
