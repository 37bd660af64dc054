use Rattle.std.proofs.Common.{◌≡◌, map, drop}
use Rattle.st_ast.specs.Tree.{append, stms_of}
use Rattle.st_ast.specs.View.{view_stmts}
use Rattle.plc_expr.specs.Written.{naming_of}
use Rattle.plc_event_model.specs.Acts as a
use Rattle.plc_event.specs.Writers.{new_names_of}
use Rattle.plc_event.proofs.writing.Writer.copies.Given as goal

abbrev pub invariant-loop-var : goal.invariant-loop-var
invariant-loop-var l =
    append (view_stmts l.all) (stms_of (map (a.copy (naming_of l.self.names.now) (new_names_of l.self.new.now)) (drop l.var-index l.vars)))
    ≡ append (view_stmts l.fn.all) (stms_of (map (a.copy (naming_of l.self.names.now) (new_names_of l.self.new.now)) l.vars))
