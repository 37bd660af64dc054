use Rattle.std.proofs.Common.{◌≡◌, ◌+◌, map, drop, reverse}
use Rattle.cif_net_expr.specs.View.{view_update_branches, view_updates}
use Rattle.cif_net.specs.View.{net_tree}
use Rattle.st_ast.specs.Tree.{append}
use Rattle.st_ast.specs.View.{view_branch, view_expr, view_stmts}
use Rattle.plc_expr.specs.Written.{naming_of}
use Rattle.plc_event_model.specs.Writes as w
use Rattle.plc_expr_walk.proofs.Joining.{branches_then}
use Rattle.plc_event.specs.Writers.{joined, new_names_of}
use Rattle.plc_event.proofs.writing.Writer.+writes.Given as goal

-- the last updates are written
abbrev pub invariant-writes-loop-at : goal.invariant-writes-loop-at
invariant-writes-loop-at l = record {
  next : l.draft.next ≡ l.fn.draft.next + w.updates_temps (view_updates (drop l.at l.updates));
  before : view_stmts l.draft.statements
      ≡ append (view_stmts l.fn.draft.statements) (w.writes (net_tree l.self.net.now) (naming_of l.self.names.now) (new_names_of l.self.new.now) l.fn.draft.next (view_updates (drop l.at l.updates)));
}

-- what is done, and what is written for the branches that are left, are all branches
abbrev pub invariant-bodies-loop-branch : goal.invariant-bodies-loop-branch
invariant-bodies-loop-branch l = record {
  branches : branches_then (map view_branch l.all)
      (joined (net_tree l.self.net.now) (naming_of l.self.names.now) (new_names_of l.self.new.now) l.next (map view_expr (reverse l.conditions)) (view_update_branches (drop l.branch-index l.branches)))
      ≡ joined (net_tree l.self.net.now) (naming_of l.self.names.now) (new_names_of l.self.new.now) l.initial.next (map view_expr (reverse l.initial.conditions)) (view_update_branches l.branches);
  next : l.next + w.bodies_temps (view_update_branches (drop l.branch-index l.branches)) ≡ l.initial.next + w.bodies_temps (view_update_branches l.branches);
}
