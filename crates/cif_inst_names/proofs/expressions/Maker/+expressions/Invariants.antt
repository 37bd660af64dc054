use Rattle.std.proofs.Common.{◌≡◌, ◌++◌, map, drop}
use Rattle.cif_ast.specs.View.{view_exprs, view_terms, view_factors, view_branches}
use Rattle.cif_net_expr.specs.View as net
use Rattle.cif_inst_names.specs.ReadsNames.{name_in}
use Rattle.cif_inst_names.proofs.ListLaws.{made_exprs, made_terms, made_factors, made_branches}
use Rattle.cif_inst_names.proofs.expressions.Maker.+expressions.Given as goal

abbrev pub invariant-exprs-loop-expr : goal.invariant-exprs-loop-expr
invariant-exprs-loop-expr g l = map net.view l.made ++ made_exprs (name_in l.self.looking.now l.self.component) (view_exprs (drop l.expr-index l.all)) ≡ made_exprs (name_in l.self.looking.now l.self.component) (view_exprs l.all)

abbrev pub invariant-terms-loop-one : goal.invariant-terms-loop-one
invariant-terms-loop-one g l = map net.view_term l.made ++ made_terms (name_in l.self.looking.now l.self.component) (view_terms (drop l.one-index l.all)) ≡ made_terms (name_in l.self.looking.now l.self.component) (view_terms l.all)

abbrev pub invariant-factors-loop-one : goal.invariant-factors-loop-one
invariant-factors-loop-one g l = map net.view_factor l.made ++ made_factors (name_in l.self.looking.now l.self.component) (view_factors (drop l.one-index l.all)) ≡ made_factors (name_in l.self.looking.now l.self.component) (view_factors l.all)

abbrev pub invariant-branches-loop-one : goal.invariant-branches-loop-one
invariant-branches-loop-one g l = map net.view_branch l.made ++ made_branches (name_in l.self.looking.now l.self.component) (view_branches (drop l.one-index l.all)) ≡ made_branches (name_in l.self.looking.now l.self.component) (view_branches l.all)
