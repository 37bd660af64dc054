use Rattle.std.proofs.Common.{◌≡◌, ◌++◌, map, flat_map, drop}
use Rattle.cif_source.specs.Source.{decl_tree}
use Rattle.cif_source.specs.Uses.{decl_uses}
use Rattle.cif_scope_uses.specs.Views.{use_of}
use Rattle.cif_scope_uses.proofs.automata.add_decls.Given as goal

abbrev pub invariant-loop-decl : goal.invariant-loop-decl
invariant-loop-decl l = map use_of l.found.items ++ flat_map decl_uses (map decl_tree (drop l.decl-index l.all)) ≡ map use_of l.fn.found.items ++ flat_map decl_uses (map decl_tree l.all)
