use Rattle.std.proofs.Common.{◌≡◌, ◌++◌, map, flat_map, drop}
use Rattle.cif_source.specs.Source.{decl_tree}
use Rattle.cif_resolve_cycles.specs.Names.{decl_needs}
use Rattle.cif_resolve_cycles.proofs.needs.add_decls.Given as goal

abbrev pub invariant-loop-decl : goal.invariant-loop-decl
invariant-loop-decl l = l.all ++ flat_map (decl_needs l.scopes l.firsts l.body) (map decl_tree (drop l.decl-index l.decls)) ≡ l.fn.all ++ flat_map (decl_needs l.scopes l.firsts l.body) (map decl_tree l.decls)
