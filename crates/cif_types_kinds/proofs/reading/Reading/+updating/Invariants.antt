use Rattle.std.proofs.Common.{◌≡◌, drop}
use Rattle.cif_ast.specs.View.{view_updates, view_update_branches}
use Rattle.cif_types_kinds.specs.Readings.{component_in, received_in}
use Rattle.cif_types_kinds.specs.Values.{updates_told, update_branches_told}
use Rattle.cif_types_kinds.proofs.reading.Reading.+updating.Given as goal

abbrev pub invariant-ask_updates-loop-update : goal.invariant-ask_updates-loop-update
invariant-ask_updates-loop-update l = updates_told (component_in l.self) (received_in l.self) (view_updates (drop l.update-index l.all)) ≡ updates_told (component_in l.self) (received_in l.self) (view_updates l.all)

abbrev pub invariant-ask_update_branches-loop-branch : goal.invariant-ask_update_branches-loop-branch
invariant-ask_update_branches-loop-branch l = update_branches_told (component_in l.self) (received_in l.self) (view_update_branches (drop l.branch-index l.all)) ≡ update_branches_told (component_in l.self) (received_in l.self) (view_update_branches l.all)
