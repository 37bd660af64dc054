use Rattle.std.proofs.Common.{◌≡◌, ◌+◌, ◌-◌, ◌<◌, ◌≤◌, arith, length, sym, ap, ap₂, ◌∙◌, map, reverse}
use Rattle.std.proofs.lemmas.List.{reverse-reverse}
use Rattle.cif_net.specs.View.{net_tree}
use Rattle.cif_net_expr.specs.Tree.{net_choose}
use Rattle.cif_net_expr.specs.View.{view_update, view_update_branches, view_updates}
use Rattle.cif_net_expr.proofs.ViewLemmas.{view_update-If}
use Rattle.st_ast.specs.View.{view_branches, view_expr, view_stmts}
use Rattle.plc_expr.specs.Written.{naming_of}
use Rattle.plc_event_model.specs.Writes.{bodies_temps, updates_temps, writes}
use Rattle.plc_event.specs.Writers.{joined, new_names_of}
use Rattle.plc_event.proofs.Updating.{bodies-end, body-more, body-next, branch-made, choice-written, no-temps, no-updates, update-before, update-next}
use Rattle.plc_event.proofs.writing.Writer.+writes.Goals as goal

-- ---- updates, from the last to the first

pub writes-loop-at-init : goal.writes-loop-at-init
writes-loop-at-init t c = record {
  next = no-temps c.args.updates.now c.args.draft.now.next;
  before = no-updates (net_tree c.args.self.now.net.now) (naming_of c.args.self.now.names.now) (new_names_of c.args.self.now.new.now) c.args.updates.now c.args.draft.now.next (view_stmts c.args.draft.now.statements);
}

pub writes-loop-at-preserved : goal.writes-loop-at-preserved
writes-loop-at-preserved t c =
    let some : 0 < c.loop-at.at = c.loop-at-test.true in
    let most : c.loop-at.at ≤ length c.args.updates.now = c.loop-at.auto.at in
    let within : c.loop-at.at - 1 < length c.args.updates.now = omega arith in
    let after : c.loop-at.at ≡ c.loop-at.at - 1 + 1 = omega arith in
    record {
      next =
          update-next (net_tree c.args.self.now.net.now) (naming_of c.args.self.now.names.now) (new_names_of c.args.self.now.new.now) c.args.updates.now (c.loop-at.at - 1) c.loop-at.at c.index-updates-at.result within c.index-updates-at.is after c.args.draft.now.next
          c.loop-at.draft.next c.write.new.draft.next c.loop-at.invariant.next c.in_ok-write.ensures.next;
      before =
          update-before (net_tree c.args.self.now.net.now) (naming_of c.args.self.now.names.now) (new_names_of c.args.self.now.new.now) c.args.updates.now (c.loop-at.at - 1) c.loop-at.at c.index-updates-at.result within c.index-updates-at.is after c.args.draft.now.next
          c.loop-at.draft.next (view_stmts c.args.draft.now.statements) (view_stmts c.loop-at.draft.statements) (view_stmts c.write.new.draft.statements) c.loop-at.invariant.next c.loop-at.invariant.before c.in_ok-write.ensures.before;
    }

-- ---- a choice

pub write-returns-in_ok-rest-in-If-clause-before : goal.write-returns-in_ok-rest-in-If-clause-before
write-returns-in_ok-rest-in-If-clause-before t c =
    choice-written c.choose.result (net_tree c.args.self.now.net.now) (naming_of c.args.self.now.names.now) (new_names_of c.args.self.now.new.now) c.args.draft.now.next (view_update c.args.update.now)
    (view_update_branches c.as_slice.result.now) (view_updates c.as_slice-in-If-2.result.now)
    (ap view_update c.in-If.is ∙ view_update-If c.in-If.branches c.in-If.other ∙ ap₂ (λ bs us. net_choose (view_update_branches bs) (view_updates us)) (sym c.as_slice.ensures) (sym c.as_slice-in-If-2.ensures))
    (view_stmts c.args.draft.now.statements) (view_stmts c.conditions.new.draft.statements) (view_stmts c.choose.new.draft.statements) c.conditions.new.draft.next c.in_ok-made-in-If.made.next
    (map view_expr c.in_ok-conditions-in-If.conditions) (view_branches c.in_ok-made-in-If.made.branches) (view_stmts c.in_ok-rest-in-If.rest.statements)
    c.in_ok-conditions-in-If.ensures.text c.in_ok-conditions-in-If.ensures.next c.in_ok-conditions-in-If.ensures.before
    (c.in_ok-made-in-If.ensures.branches
    ∙ ap (λ bs. joined (net_tree c.args.self.now.net.now) (naming_of c.args.self.now.names.now) (new_names_of c.args.self.now.new.now) c.conditions.new.draft.next (map view_expr c.in_ok-conditions-in-If.conditions) (view_update_branches bs))
    (c.as_slice-in-If.ensures ∙ sym c.as_slice.ensures))
    (c.in_ok-made-in-If.ensures.next ∙ ap (λ bs. c.conditions.new.draft.next + bodies_temps (view_update_branches bs)) (c.as_slice-in-If.ensures ∙ sym c.as_slice.ensures))
    c.in_ok-rest-in-If.ensures.before
    c.choose.ensures.before

-- ---- branches

pub bodies-loop-branch-preserved : goal.bodies-loop-branch-preserved
bodies-loop-branch-preserved t c = record {
  branches =
      body-more (net_tree c.args.self.now.net.now) (naming_of c.args.self.now.names.now) (new_names_of c.args.self.now.new.now) c.args.branches.now c.loop-branch.branch-index c.branch-item.result c.loop-branch-test.true c.branch-item.is
      c.loop-branch.next c.in_ok-body.field-0.next (c.in_ok-body.ensures.next ∙ ap (λ us. c.loop-branch.next + updates_temps (view_updates us)) c.as_slice.ensures)
      c.loop-branch.all c.push.new.self _ c.in_ok-push.ensures.ok c.loop-branch.conditions c.pop.new.self c.in-Some.cond c.in-Some.ensures
      (branch-made _ ∙ ap (λ ss. (view_expr c.in-Some.cond, ss)) (c.in_ok-body.ensures.before
      ∙ ap (λ us. writes (net_tree c.args.self.now.net.now) (naming_of c.args.self.now.names.now) (new_names_of c.args.self.now.new.now) c.loop-branch.next (view_updates us)) c.as_slice.ensures))
      ∙ c.loop-branch.invariant.branches;
  next =
      body-next (net_tree c.args.self.now.net.now) (naming_of c.args.self.now.names.now) (new_names_of c.args.self.now.new.now) c.args.branches.now c.loop-branch.branch-index c.branch-item.result c.loop-branch-test.true c.branch-item.is
      c.loop-branch.next c.in_ok-body.field-0.next (c.in_ok-body.ensures.next ∙ ap (λ us. c.loop-branch.next + updates_temps (view_updates us)) c.as_slice.ensures)
      ∙ c.loop-branch.invariant.next;
}

pub bodies-returns-clause-branches : goal.bodies-returns-clause-branches
bodies-returns-clause-branches t c =
    sym (bodies-end (net_tree c.args.self.now.net.now) (naming_of c.args.self.now.names.now) (new_names_of c.args.self.now.new.now) c.args.branches.now c.loop-branch.branch-index c.loop-branch.next c.loop-branch.all
    (map view_expr (reverse c.loop-branch.conditions)) c.loop-branch-test.false)
    ∙ c.loop-branch.invariant.branches
    ∙ ap (λ cs. joined (net_tree c.args.self.now.net.now) (naming_of c.args.self.now.names.now) (new_names_of c.args.self.now.new.now) c.args.next (map view_expr cs) (view_update_branches c.args.branches.now))
    (ap reverse c.reverse.ensures ∙ reverse-reverse c.args.conditions)
