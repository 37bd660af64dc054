use Rattle.std.proofs.Common.{◌≡◌, ◌++◌, map, drop}
use Rattle.cif_net.specs.View.{alg_tree, net_tree}
use Rattle.st_ast.specs.Tree.{append}
use Rattle.st_ast.specs.View.{view_stmts}
use Rattle.plc_expr.specs.Written.{naming_of}
use Rattle.plc_event_model.specs.ProgramParts.{defined_types, shown_text}
use Rattle.plc_gen.proofs.showing.shows.Given as goal

-- what is done, and what is left, are all types and all statements
abbrev pub invariant-loop-at : goal.invariant-loop-at
invariant-loop-at l = record {
  types : l.types ++ defined_types (net_tree l.net) (map alg_tree (drop l.at l.algs)) ≡ defined_types (net_tree l.net) (map alg_tree l.algs);
  statements : append (view_stmts l.draft.statements) (shown_text (naming_of l.names) l.at l.draft.next (map alg_tree (drop l.at l.algs))) ≡ shown_text (naming_of l.names) 0 l.first (map alg_tree l.algs);
}
