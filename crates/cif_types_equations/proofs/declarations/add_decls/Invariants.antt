use Rattle.std.proofs.Common.{◌≡◌, ◌++◌, map, drop}
use Rattle.cif_source.specs.Source.{decl_tree}
use Rattle.cif_types_equations.specs.Views.{decl_of}
use Rattle.cif_types_equations.proofs.declarations.add_decls.Given as goal

abbrev pub invariant-loop-decl : goal.invariant-loop-decl
invariant-loop-decl l = map decl_of l.found.items ++ map decl_tree (drop l.decl-index l.decls) ≡ map decl_of l.fn.found.items ++ map decl_tree l.decls
