use Rattle.std.proofs.Common.{◌≡◌, map, drop}
use Rattle.cif_source.specs.Source.{decl_tree}
use Rattle.cif_inst.specs.Equations.{values_in, decls_added}
use Rattle.cif_inst.proofs.equations.add_decls.Given as goal

abbrev pub invariant-loop-decl : goal.invariant-loop-decl
invariant-loop-decl l = decls_added (values_in l.own) (map decl_tree (drop l.decl-index l.decls)) ≡ decls_added (values_in l.fn.own) (map decl_tree l.decls)
