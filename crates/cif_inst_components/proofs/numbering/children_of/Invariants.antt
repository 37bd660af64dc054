use Rattle.std.proofs.Common.{◌≡◌, ◌++◌, drop}
use Rattle.std.specs.Prelude.{filter_map}
use Rattle.cif_inst_components.specs.Numbers.{stands_of}
use Rattle.cif_inst_components.proofs.numbering.children_of.Given as goal

abbrev pub invariant-loop-component : goal.invariant-loop-component
invariant-loop-component l = l.children ++ filter_map stands_of (drop l.component-index l.all) ≡ filter_map stands_of l.all
