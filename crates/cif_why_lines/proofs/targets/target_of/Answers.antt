use Rattle.std.proofs.Common.{◌≡◌, ◌-◌, suc, ap, ◌∙◌, arith}
use Rattle.std.specs.Prelude.{slice_get}
use Rattle.cif_net.specs.Parts.{edge_tree}
use Rattle.cif_net_expr.specs.View.{view, view_updates}
use Rattle.cif_why_lines.specs.Targets.{assigned_targets, targets_of}
use Rattle.cif_why_lines.proofs.TargetLaws.{nothing_sent, sent_before, sent_first}
use Rattle.cif_why_lines.proofs.targets.target_of.Goals as goal

pub returns-then-is_none : goal.returns-then-is_none
returns-then-is_none c =
    let x = c.args.edge.now in
    c.assigned_at.ensures
    ∙ (λ i. slice_get (assigned_targets (view_updates (c.as_slice.ensures i))) c.args.number)
    ∙ nothing_sent view x.event (assigned_targets (view_updates x.updates)) x.sent c.args.number c.if-is_none.ensures

pub returns-then-number-eq0 : goal.returns-then-number-eq0
returns-then-number-eq0 c =
    let x = c.args.edge.now in
    sent_first view x.event (assigned_targets (view_updates x.updates)) x.sent c.if-is_none.ensures
    ∙ ap (slice_get (targets_of (edge_tree x))) (omega arith)

pub returns : goal.returns
returns c =
    let x = c.args.edge.now in
    let before : suc (c.args.number - 1) ≡ c.args.number = omega arith in
    c.assigned_at-2.ensures
    ∙ (λ i. slice_get (assigned_targets (view_updates (c.as_slice-2.ensures i))) (c.args.number - 1))
    ∙ sent_before view x.event (assigned_targets (view_updates x.updates)) x.sent (c.args.number - 1) c.if-is_none.ensures
    ∙ ap (slice_get (targets_of (edge_tree x))) before
