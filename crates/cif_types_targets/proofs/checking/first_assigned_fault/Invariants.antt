use Rattle.std.proofs.Common.{◌≡◌, [], map, drop}
use Rattle.cif_types_targets.specs.Views.{assigned_of}
use Rattle.cif_types_targets.specs.Faults.{assigned_fault}
use Rattle.cif_types_targets.proofs.checking.first_assigned_fault.Given as goal

abbrev pub invariant-loop-one : goal.invariant-loop-one
invariant-loop-one l = assigned_fault l.scopes l.body [] (map assigned_of l.all) ≡ assigned_fault l.scopes l.body l.marks (map assigned_of (drop l.one-index l.all))
