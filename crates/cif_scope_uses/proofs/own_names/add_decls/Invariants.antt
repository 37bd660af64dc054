use Rattle.std.proofs.Common.{◌≡◌, ◌++◌, map, flat_map, drop}
use Rattle.cif_source.specs.Source.{decl_tree}
use Rattle.cif_source.specs.Uses.{decl_own_names}
use Rattle.cif_scope_uses.specs.Views.{own_name_of}
use Rattle.cif_scope_uses.proofs.own_names.add_decls.Given as goal

abbrev pub invariant-loop-decl : goal.invariant-loop-decl
invariant-loop-decl l = map own_name_of l.found.items ++ flat_map decl_own_names (map decl_tree (drop l.decl-index l.all)) ≡ map own_name_of l.fn.found.items ++ flat_map decl_own_names (map decl_tree l.all)
