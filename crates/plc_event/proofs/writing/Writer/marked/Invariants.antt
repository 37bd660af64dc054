use Rattle.std.proofs.Common.{◌≡◌, map, drop}
use Rattle.cif_net.specs.View.{choice_tree, net_tree}
use Rattle.st_ast.specs.Tree.{append}
use Rattle.st_ast.specs.View.{view_stmts}
use Rattle.plc_expr.specs.Written.{naming_of}
use Rattle.plc_frame.specs.Events.{parts_text}
use Rattle.plc_event_model.specs.Events.{all_written}
use Rattle.plc_event.specs.After.{AreSame}
use Rattle.plc_event.specs.Writers.{new_names_of}
use Rattle.plc_event.proofs.writing.Writer.marked.Given as goal

abbrev pub invariant-loop-choice : goal.invariant-loop-choice
invariant-loop-choice l = record {
  same : AreSame l.scratch.after l.self.names.now;
  statements : append (view_stmts l.all)
      (parts_text l.marks.done (all_written (net_tree l.self.net.now) (naming_of l.self.names.now) (new_names_of l.self.new.now) l.next (map choice_tree (drop l.choice-index l.choices))))
      ≡ append (view_stmts l.initial.all) (parts_text l.marks.done (all_written (net_tree l.self.net.now) (naming_of l.self.names.now) (new_names_of l.self.new.now) l.initial.next (map choice_tree l.choices)));
}
