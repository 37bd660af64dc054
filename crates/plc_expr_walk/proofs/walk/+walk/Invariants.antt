use Rattle.std.proofs.Common.{◌≡◌, ◌+◌, ◌++◌, map, drop}
use Rattle.cif_net_expr.specs.View.{view_branches, view_exprs, view_factors, view_terms}
use Rattle.st_ast.specs.Tree.{append}
use Rattle.st_ast.specs.View.{view_branch, view_expr, view_factor, view_stmts, view_term}
use Rattle.plc_expr.specs.Texts.{branches_before, branches_temps, branches_text, factors_before, factors_temps, factors_text, list_before, list_temps, terms_before, terms_temps, terms_text, texts}
use Rattle.plc_expr.specs.Written.{naming_of}
use Rattle.plc_expr_walk.proofs.Joining.{branches_then, factors_then, terms_then}
use Rattle.plc_expr_walk.proofs.walk.+walk.Given as goal

-- what is done, and what is written for those that are left, are what is written for all
abbrev pub invariant-list_written-loop-part : goal.invariant-list_written-loop-part
invariant-list_written-loop-part l = record {
  text : map view_expr l.all ++ texts (naming_of l.names) l.draft.next (view_exprs (drop l.part-index l.parts)) ≡ texts (naming_of l.names) l.fn.draft.next (view_exprs l.parts);
  next : l.draft.next + list_temps (view_exprs (drop l.part-index l.parts)) ≡ l.fn.draft.next + list_temps (view_exprs l.parts);
  before : append (view_stmts l.draft.statements) (list_before (naming_of l.names) l.draft.next (view_exprs (drop l.part-index l.parts)))
      ≡ append (view_stmts l.fn.draft.statements) (list_before (naming_of l.names) l.fn.draft.next (view_exprs l.parts));
}

abbrev pub invariant-terms_written-loop-part : goal.invariant-terms_written-loop-part
invariant-terms_written-loop-part l = record {
  text : terms_then (map view_term l.all) (terms_text (naming_of l.names) l.draft.next (view_terms (drop l.part-index l.parts))) ≡ terms_text (naming_of l.names) l.fn.draft.next (view_terms l.parts);
  next : l.draft.next + terms_temps (view_terms (drop l.part-index l.parts)) ≡ l.fn.draft.next + terms_temps (view_terms l.parts);
  before : append (view_stmts l.draft.statements) (terms_before (naming_of l.names) l.draft.next (view_terms (drop l.part-index l.parts)))
      ≡ append (view_stmts l.fn.draft.statements) (terms_before (naming_of l.names) l.fn.draft.next (view_terms l.parts));
}

abbrev pub invariant-factors_written-loop-part : goal.invariant-factors_written-loop-part
invariant-factors_written-loop-part l = record {
  text : factors_then (map view_factor l.all) (factors_text (naming_of l.names) l.draft.next (view_factors (drop l.part-index l.parts))) ≡ factors_text (naming_of l.names) l.fn.draft.next (view_factors l.parts);
  next : l.draft.next + factors_temps (view_factors (drop l.part-index l.parts)) ≡ l.fn.draft.next + factors_temps (view_factors l.parts);
  before : append (view_stmts l.draft.statements) (factors_before (naming_of l.names) l.draft.next (view_factors (drop l.part-index l.parts)))
      ≡ append (view_stmts l.fn.draft.statements) (factors_before (naming_of l.names) l.fn.draft.next (view_factors l.parts));
}

abbrev pub invariant-branches_written-loop-branch : goal.invariant-branches_written-loop-branch
invariant-branches_written-loop-branch l = record {
  text : branches_then (map view_branch l.all) (branches_text (naming_of l.names) l.name l.draft.next (view_branches (drop l.branch-index l.branches))) ≡ branches_text (naming_of l.names) l.name l.fn.draft.next (view_branches l.branches);
  next : l.draft.next + branches_temps (view_branches (drop l.branch-index l.branches)) ≡ l.fn.draft.next + branches_temps (view_branches l.branches);
  before : append (view_stmts l.draft.statements) (branches_before (naming_of l.names) l.draft.next (view_branches (drop l.branch-index l.branches)))
      ≡ append (view_stmts l.fn.draft.statements) (branches_before (naming_of l.names) l.fn.draft.next (view_branches l.branches));
}
