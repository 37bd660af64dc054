use Rattle.std.proofs.Common.{◌≡◌, ◌++◌, map, flat_map, drop}
use Rattle.cif_source.specs.Source.{decl_tree}
use Rattle.cif_scope.specs.Drafts.{decl_names}
use Rattle.cif_scope.proofs.drafting.add_decls.Given as goal

abbrev pub invariant-loop-decl : goal.invariant-loop-decl
invariant-loop-decl l = l.names ++ flat_map decl_names (map decl_tree (drop l.decl-index l.decls)) ≡ l.fn.names ++ flat_map decl_names (map decl_tree l.decls)
