use Rattle.std.proofs.Common.{◌≡◌, ◌+◌, ◌≤◌, map, drop}
use Rattle.cif_source.specs.Source.{decl_tree}
use Rattle.cif_inst_components.specs.Sizes.{stop, decls_size}
use Rattle.cif_inst_components.proofs.sizes.with_decls.Given as goal

abbrev pub invariant-loop-decl : goal.invariant-loop-decl
invariant-loop-decl l = (l.count ≤ 100001) × (stop (l.count + decls_size (map decl_tree (drop l.decl-index l.decls))) ≡ stop (l.fn.count + decls_size (map decl_tree l.decls)))
