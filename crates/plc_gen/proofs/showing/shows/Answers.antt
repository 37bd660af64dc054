use Rattle.std.proofs.Common.{◌∙◌, ap, sym}
use Rattle.cif_net_expr.specs.View.{view}
use Rattle.cif_net.specs.View.{net_tree}
use Rattle.st_ast.specs.View.{view_stmts}
use Rattle.plc_expr.specs.Written.{naming_of}
use Rattle.plc_gen.proofs.Shown.{none-left, shown-more, types-more}
use Rattle.plc_gen.proofs.showing.shows.Goals as goal

pub loop-at-preserved : goal.loop-at-preserved
loop-at-preserved c =
    let n = net_tree c.args.net.now in
    let first = ap view c.get.ensures ∙ c.in_ok-value.ensures in
    let second = ap view c.get-in-loop-at.ensures ∙ c.in_ok-value.ensures in
    record {
      types = types-more c.args.algs.now c.loop-at.at c.index-algs-at.result c.loop-at-test.true c.index-algs-at.is (view c.get.result.now) first n c.loop-at.types c.own_types_of.new.types c.in_ok-own_types_of.ensures ∙ c.loop-at.invariant.types;
      statements = shown-more c.args.algs.now c.loop-at.at c.index-algs-at.result c.loop-at-test.true c.index-algs-at.is (view c.get-in-loop-at.result.now) second (naming_of c.args.names.now) c.in_ok-number.number c.loop-at.draft.next
          c.show.new.draft.next c.as_slice-path.result.now (view_stmts c.loop-at.draft.statements) (view_stmts c.show.new.draft.statements) c.in_ok-number.ensures c.as_slice-path.ensures c.in_ok-show.ensures.next c.in_ok-show.ensures.before
          ∙ c.loop-at.invariant.statements;
    }

pub returns-clause-statements : goal.returns-clause-statements
returns-clause-statements c =
    sym (none-left (naming_of c.args.names.now) c.loop-at.at c.loop-at.draft.next c.args.algs.now (view_stmts c.loop-at.draft.statements) c.loop-at-test.false) ∙ c.loop-at.invariant.statements
