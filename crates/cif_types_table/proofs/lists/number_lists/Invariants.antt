use Rattle.std.proofs.Common.{◌≡◌, ◌++◌, [], map, drop}
use Rattle.cif_types_table.specs.Lists.{key_of, lists_after, listed_kinds}
use Rattle.cif_types_table.proofs.lists.number_lists.Given as goal

abbrev pub invariant-loop-named : goal.invariant-loop-named
invariant-loop-named l = record {
  keys : l.keys ≡ map key_of l.lists;
  lists : lists_after l.lists (drop l.named-index l.types) ≡ lists_after [] l.types;
  kinds : l.kinds ++ listed_kinds l.lists (drop l.named-index l.types) ≡ listed_kinds [] l.types;
}
