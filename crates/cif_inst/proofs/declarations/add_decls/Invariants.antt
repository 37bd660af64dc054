use Rattle.std.proofs.Common.{◌≡◌, ◌++◌, map, drop}
use Rattle.cif_source.specs.Source.{decl_tree}
use Rattle.cif_inst.specs.Declarations.{decls_data}
use Rattle.cif_inst.specs.Views.{datum_tree}
use Rattle.cif_inst.proofs.declarations.add_decls.Given as goal

abbrev pub invariant-loop-decl : goal.invariant-loop-decl
invariant-loop-decl l = map datum_tree l.all.items ++ decls_data l.sort l.component l.prefix (map decl_tree (drop l.decl-index l.decls)) ≡ map datum_tree l.fn.all.items ++ decls_data l.sort l.component l.prefix (map decl_tree l.decls)
