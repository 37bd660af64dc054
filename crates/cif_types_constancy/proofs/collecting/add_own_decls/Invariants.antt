use Rattle.std.proofs.Common.{◌≡◌, ◌++◌, map, drop}
use Rattle.cif_source.specs.Source.{decl_tree}
use Rattle.cif_types_constancy.specs.Collected.{decl_of}
use Rattle.cif_types_constancy.proofs.collecting.add_own_decls.Given as goal

abbrev pub invariant-loop-decl : goal.invariant-loop-decl
invariant-loop-decl l = map decl_of l.found.items ++ map decl_tree (drop l.decl-index l.decls) ≡ map decl_of l.fn.found.items ++ map decl_tree l.decls
