use Rattle.std.proofs.Common.{◌≡◌, ◌++◌, map, flat_map, drop}
use Rattle.cif_source.specs.Source.{decl_tree}
use Rattle.cif_inst_constants.specs.Slots.{row_of, decl_slots}
use Rattle.cif_inst_constants.proofs.slots.add_decls.Given as goal

abbrev pub invariant-loop-decl : goal.invariant-loop-decl
invariant-loop-decl l = row_of l.row ++ flat_map decl_slots (map decl_tree (drop l.decl-index l.decls)) ≡ row_of l.fn.row ++ flat_map decl_slots (map decl_tree l.decls)
