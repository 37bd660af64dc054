use Rattle.std.proofs.Common.{◌≡◌, ◌++◌, drop}
use Rattle.cif_types_table.specs.Lists.{texts_of, key_of}
use Rattle.cif_types_table.proofs.lists.key_of.Given as goal

abbrev pub invariant-loop-literal : goal.invariant-loop-literal
invariant-loop-literal l = l.key ++ key_of (texts_of (drop l.literal-index l.literals)) ≡ key_of (texts_of l.literals)
