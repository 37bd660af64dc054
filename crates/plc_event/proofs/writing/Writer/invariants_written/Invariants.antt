use Rattle.std.proofs.Common.{◌≡◌, ◌+◌, ◌++◌, map, drop}
use Rattle.cif_net_model.specs.Listing.{exprs_of}
use Rattle.cif_net.specs.View.{net_tree}
use Rattle.st_ast.specs.Tree.{append}
use Rattle.st_ast.specs.View.{view_expr, view_stmts}
use Rattle.plc_expr.specs.Texts.{list_before, list_temps, texts}
use Rattle.plc_expr.specs.Written.{naming_of}
use Rattle.plc_event_model.specs.Keeps.{invariants_at}
use Rattle.plc_event.proofs.writing.Writer.invariants_written.Given as goal

-- what is written, and what is left, are all
abbrev pub invariant-loop-number : goal.invariant-loop-number
invariant-loop-number l = record {
  text : map view_expr l.all ++ texts (naming_of l.names) l.draft.next (exprs_of (invariants_at (net_tree l.self.net.now) (drop l.number-index l.numbers)))
      ≡ texts (naming_of l.names) l.fn.draft.next (exprs_of (invariants_at (net_tree l.self.net.now) l.numbers));
  next : l.draft.next + list_temps (exprs_of (invariants_at (net_tree l.self.net.now) (drop l.number-index l.numbers)))
      ≡ l.fn.draft.next + list_temps (exprs_of (invariants_at (net_tree l.self.net.now) l.numbers));
  before : append (view_stmts l.draft.statements) (list_before (naming_of l.names) l.draft.next (exprs_of (invariants_at (net_tree l.self.net.now) (drop l.number-index l.numbers))))
      ≡ append (view_stmts l.fn.draft.statements) (list_before (naming_of l.names) l.fn.draft.next (exprs_of (invariants_at (net_tree l.self.net.now) l.numbers)));
}
