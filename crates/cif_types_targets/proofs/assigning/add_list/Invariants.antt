use Rattle.std.proofs.Common.{◌≡◌, ◌++◌, map, drop}
use Rattle.cif_ast.specs.View.{view_updates}
use Rattle.cif_types_targets.specs.Assigned.{assigned_by}
use Rattle.cif_types_targets.specs.Views.{assigned_of}
use Rattle.cif_types_targets.proofs.assigning.add_list.Given as goal

abbrev pub invariant-loop-place : goal.invariant-loop-place
invariant-loop-place l = map assigned_of l.found.items ++ assigned_by l.place (view_updates (drop l.place l.list)) ≡ map assigned_of l.fn.found.items ++ assigned_by 0 (view_updates l.list)
