use Rattle.std.proofs.Common.{◌≡◌, ◌++◌, map, flat_map, drop}
use Rattle.cif_source.specs.Source.{decl_tree}
use Rattle.cif_inst_predicates.specs.Stated.{decl_stated}
use Rattle.cif_inst_predicates.specs.Views.{stated_tree}
use Rattle.cif_inst_predicates.proofs.stated.add_decls.Given as goal

abbrev pub invariant-loop-decl : goal.invariant-loop-decl
invariant-loop-decl l = map stated_tree l.all.items ++ flat_map (decl_stated l.component) (map decl_tree (drop l.decl-index l.decls)) ≡ map stated_tree l.fn.all.items ++ flat_map (decl_stated l.component) (map decl_tree l.decls)
