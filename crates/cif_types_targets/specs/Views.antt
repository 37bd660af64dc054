-- Helper of the code: what references into the tree stand for.
use Rattle.std.specs.Prelude.{List}
use denote.Ref.{Bor}
use Rattle.cif_ast.specs.Tree.{UpdateTrees}
use Rattle.cif_ast.specs.View.{view_updates}
use Rattle.cif_ast.specs.declared.edges.Update.{Update}
use Rattle.cif_types_targets.specs.declared.assigning.Assigned.{Assigned}
use Rattle.cif_types_targets.specs.Assigned.{AssignedName}

abbrev pub assigned_of : Assigned → AssignedName
assigned_of a = record { update = a.update; name = a.name.now }

abbrev pub list_of : Bor (List Update) → UpdateTrees
list_of r = view_updates r.now
