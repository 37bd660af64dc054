-- Helper of the code: what the types of `src/` stand for.
use Rattle.cif_source.specs.Source.{invariant_tree}
use Rattle.cif_inst_predicates.specs.Stated.{StatedTree}
use Rattle.cif_inst_predicates.specs.declared.stated.Stated.{Stated}

abbrev pub stated_tree : Stated → StatedTree
stated_tree s = (s.component, invariant_tree s.inv.now)
