use Rattle.std.proofs.Common.{◌≡◌, ◌++◌, map, flat_map, drop}
use Rattle.cif_types_constancy.specs.Collected.{decl_of}
use Rattle.cif_inst_constants.specs.Nodes.{node_of, decl_nodes}
use Rattle.cif_inst_constants.proofs.nodes.add_decls.Given as goal

abbrev pub invariant-loop-decl : goal.invariant-loop-decl
invariant-loop-decl l = map node_of l.found.items ++ flat_map (decl_nodes l.body) (map decl_of (drop l.decl-index l.decls)) ≡ map node_of l.fn.found.items ++ flat_map (decl_nodes l.body) (map decl_of l.decls)
