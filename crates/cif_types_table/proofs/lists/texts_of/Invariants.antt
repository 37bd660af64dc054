use Rattle.std.proofs.Common.{◌≡◌, ◌++◌, drop}
use Rattle.cif_types_table.specs.Lists.{texts_of}
use Rattle.cif_types_table.proofs.lists.texts_of.Given as goal

abbrev pub invariant-loop-literal : goal.invariant-loop-literal
invariant-loop-literal l = l.texts ++ texts_of (drop l.literal-index l.literals) ≡ texts_of l.literals
