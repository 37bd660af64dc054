use Rattle.std.proofs.Common.{◌≡◌, map, drop}
use Rattle.cif_types_targets.specs.Views.{list_of}
use Rattle.cif_types_targets.specs.Faults.{lists_fault}
use Rattle.cif_types_targets.proofs.checking.first_list_fault.Given as goal

abbrev pub invariant-loop-list : goal.invariant-loop-list
invariant-loop-list l = lists_fault l.scopes l.body (map list_of l.all) ≡ lists_fault l.scopes l.body (map list_of (drop l.list-index l.all))
