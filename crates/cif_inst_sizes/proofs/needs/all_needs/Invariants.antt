use Rattle.std.proofs.Common.{◌≡◌, map, take, length, List}
use Rattle.cif_inst_parameters.specs.Given.{given_items}
use Rattle.cif_inst_names.specs.Looking.{source_for}
use Rattle.cif_inst_sizes.specs.Definitions.{DefinitionTree, definition_tree}
use Rattle.cif_inst_sizes.specs.Naming.{AreArguments, AreNeeds}
use Rattle.cif_inst_sizes.specs.Needs.{AreAllBelow}
use Rattle.cif_inst_sizes.proofs.needs.all_needs.Given as goal

abbrev pub invariant-loop-definition : goal.invariant-loop-definition
invariant-loop-definition l =
    ((all : List DefinitionTree) → AreArguments (map given_items l.looking.given.now) l.weights.firsts all
    → AreNeeds (source_for l.looking) l.weights.count all (map definition_tree (take l.definition-index l.definitions)) l.all)
    × (length l.all ≡ l.definition-index)
    × AreAllBelow (length l.definitions) l.all
