use Rattle.std.proofs.Common.{sym, ap, ◌∙◌}
use Rattle.cif_net.specs.View.{net_tree}
use Rattle.st_ast.specs.View.{view_expr}
use Rattle.plc_expr.specs.Written.{naming_of}
use Rattle.plc_event.specs.Making.{all_set}
use Rattle.plc_event.specs.Writers.{new_names_of}
use Rattle.plc_event.proofs.Several.{chain-end, chain-more}
use Rattle.plc_event.proofs.writing.Writer.chain_branches.Goals as goal

pub loop-choice-preserved : goal.loop-choice-preserved
loop-choice-preserved c = record {
  same = c.in_ok-test.ensures.still_same;
  branches =
      chain-more (net_tree c.args.self.now.net.now) (naming_of c.args.self.now.names.now) (new_names_of c.args.self.now.new.now) c.args.choices.now c.loop-choice.choice-index c.choice-item.result c.loop-choice-test.true c.choice-item.is
      c.loop-choice.next c.in_ok-test.field-0.next c.loop-choice.all c.push.new.self c.into_inner-cond.result c.in_ok-test.field-0.act (all_set c.args.marks.now)
      (ap view_expr c.into_inner-cond.ensures ∙ c.in_ok-test.ensures.test) c.in_ok-test.ensures.act c.requires.alone c.in_ok-test.ensures.next c.in_ok-push.ensures.ok
      ∙ c.loop-choice.invariant.branches;
}

pub returns-clause-branches : goal.returns-clause-branches
returns-clause-branches c =
    sym (chain-end (net_tree c.args.self.now.net.now) (naming_of c.args.self.now.names.now) (new_names_of c.args.self.now.new.now) c.args.choices.now c.loop-choice.choice-index c.loop-choice.next c.loop-choice-test.false c.loop-choice.all)
    ∙ c.loop-choice.invariant.branches
