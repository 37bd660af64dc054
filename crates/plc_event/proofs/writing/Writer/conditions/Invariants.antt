use Rattle.std.proofs.Common.{◌≡◌, ◌+◌, ◌++◌, map, drop}
use Rattle.cif_net_expr.specs.View.{view_update_branches}
use Rattle.st_ast.specs.Tree.{append}
use Rattle.st_ast.specs.View.{view_expr, view_stmts}
use Rattle.plc_expr.specs.Written.{naming_of}
use Rattle.plc_event_model.specs.Writes as w
use Rattle.plc_event.specs.Writers.{condition_texts}
use Rattle.plc_event.proofs.writing.Writer.conditions.Given as goal

abbrev pub invariant-loop-branch : goal.invariant-loop-branch
invariant-loop-branch l = record {
  text : map view_expr l.all ++ condition_texts (naming_of l.self.names.now) l.draft.next (view_update_branches (drop l.branch-index l.branches))
      ≡ condition_texts (naming_of l.self.names.now) l.fn.draft.next (view_update_branches l.branches);
  next : l.draft.next + w.conditions_temps (view_update_branches (drop l.branch-index l.branches)) ≡ l.fn.draft.next + w.conditions_temps (view_update_branches l.branches);
  before : append (view_stmts l.draft.statements) (w.conditions_before (naming_of l.self.names.now) l.draft.next (view_update_branches (drop l.branch-index l.branches)))
      ≡ append (view_stmts l.fn.draft.statements) (w.conditions_before (naming_of l.self.names.now) l.fn.draft.next (view_update_branches l.branches));
}
