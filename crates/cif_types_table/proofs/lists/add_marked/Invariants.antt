use Rattle.std.proofs.Common.{◌≡◌, ◌++◌, drop}
use Rattle.cif_types_table.specs.Lists.{marked}
use Rattle.cif_types_table.proofs.lists.add_marked.Given as goal

abbrev pub invariant-loop-byte : goal.invariant-loop-byte
invariant-loop-byte l = l.key ++ marked (drop l.byte-index l.bytes) ≡ l.fn.key ++ marked l.bytes
