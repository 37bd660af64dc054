use Rattle.std.proofs.Common.{◌≡◌, ◌+◌, ◌++◌, map, drop, length}
use Rattle.cif_source.specs.Source.{decl_tree}
use Rattle.cif_types_table.specs.Layouts.{slot_tree, named_tree, decls_types, decls_count, decls_slots}
use Rattle.cif_types_table.proofs.walking.add_decls.Given as goal

abbrev pub invariant-loop-decl : goal.invariant-loop-decl
invariant-loop-decl l = record {
  types : map named_tree l.types.items ++ decls_types l.body (map decl_tree (drop l.decl-index l.decls)) ≡ map named_tree l.fn.types.items ++ decls_types l.body (map decl_tree l.decls);
  count : length l.types.items + decls_count (map decl_tree (drop l.decl-index l.decls)) ≡ length l.fn.types.items + decls_count (map decl_tree l.decls);
  slots : map slot_tree l.slots ++ decls_slots (length l.types.items) (map decl_tree (drop l.decl-index l.decls)) ≡ map slot_tree l.fn.slots ++ decls_slots (length l.fn.types.items) (map decl_tree l.decls);
}
