use Rattle.std.proofs.Common.{map, take, List}
use Rattle.cif_inst_parameters.specs.Given.{given_items}
use Rattle.cif_inst_sizes.specs.Definitions.{DefinitionTree}
use Rattle.cif_inst_sizes.specs.Naming.{AreArguments}
use Rattle.cif_inst_sizes.specs.Needs.{use_name, AreNeeded, AreBelow}
use Rattle.cif_inst_sizes.specs.Weights.{source_by, home}
use Rattle.cif_inst_sizes.proofs.needs.needs_of.Given as goal

abbrev pub invariant-loop-one : goal.invariant-loop-one
invariant-loop-one l =
    ((all : List DefinitionTree) → AreArguments (map given_items l.measurer.looking.now.given.now) l.measurer.weights.now.firsts all
    → AreNeeded (source_by l.measurer) l.measurer.weights.now.count all (home l.measurer) (map use_name (take l.one-index l.names)) l.needs)
    × AreBelow l.total l.needs
