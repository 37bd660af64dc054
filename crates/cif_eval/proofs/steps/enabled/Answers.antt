use Rattle.std.proofs.Common.{◌≤◌, ◌∙◌, ap, sym, subst, arith}
use Rattle.cif_net_expr.specs.View.{view_updates}
use Rattle.cif_eval.specs.Held.{Held}
use Rattle.cif_eval.specs.Updates.{most_pairs}
use Rattle.cif_eval.proofs.Made.{all-tested, invariants-ok, next-state, pairs-fail, sent-fails, sent-ok, test-fails, test-ok, updates-ok}
use Rattle.cif_eval.proofs.steps.enabled.Goals as goal

pub holds-requires : goal.holds-requires
holds-requires c = test-ok c.args.guarded.now c.args.choice c.chosen-chosen.result.now c.chosen-chosen.ensures c.args.state.now c.requires.state

pub returns-then-not-holds-clause-step : goal.returns-then-not-holds-clause-step
returns-then-not-holds-clause-step c = test-fails c.args.guarded.now c.args.choice c.chosen-chosen.result.now c.chosen-chosen.ensures c.args.state.now c.requires.state c.holds.result c.holds.ensures (grind (arith, c.if-not-holds.true))

pub sent_value-sent-requires : goal.sent_value-sent-requires
sent_value-sent-requires c = sent-ok c.args.guarded.now c.args.choice c.chosen-chosen.result.now c.chosen-chosen.ensures c.args.state.now c.requires.state

pub returns-then-not-sent_fits-clause-step : goal.returns-then-not-sent_fits-clause-step
returns-then-not-sent_fits-clause-step c =
    sent-fails c.args.guarded.now c.args.choice c.chosen-chosen.result.now c.chosen-chosen.ensures c.args.state.now c.requires.state c.holds.result c.holds.ensures (grind (arith, c.if-not-holds.false)) c.sent_value-sent.result c.sent_value-sent.ensures c.sent_fits.result c.sent_fits.ensures
    (grind (arith, c.if-not-sent_fits.true))

pub assign-requires-clause-safe : goal.assign-requires-clause-safe
assign-requires-clause-safe c =
    updates-ok c.args.guarded.now c.args.choice c.chosen-chosen.result.now c.chosen-chosen.ensures c.args.state.now c.requires.state c.holds.result c.holds.ensures (grind (arith, c.if-not-holds.false)) c.sent_value-sent.result c.sent_value-sent.ensures c.sent_fits.result c.sent_fits.ensures
    (grind (arith, c.if-not-sent_fits.false))

pub returns-then-not-values_fit-clause-step : goal.returns-then-not-values_fit-clause-step
returns-then-not-values_fit-clause-step c =
    pairs-fail c.args.guarded.now c.args.choice c.chosen-chosen.result.now c.chosen-chosen.ensures c.args.state.now c.requires.state c.holds.result c.holds.ensures (grind (arith, c.if-not-holds.false)) c.sent_value-sent.result c.sent_value-sent.ensures c.sent_fits.result c.sent_fits.ensures
    (grind (arith, c.if-not-sent_fits.false)) c.assign.new.pairs.pairs c.assign.ensures.pairs c.values_fit.result c.values_fit.ensures
    (grind (arith, c.if-not-values_fit.true))

pub keeps_invariants-requires : goal.keeps_invariants-requires
keeps_invariants-requires c =
    invariants-ok c.args.guarded.now c.args.choice c.chosen-chosen.result.now c.chosen-chosen.ensures c.args.state.now c.requires.state c.holds.result c.holds.ensures (grind (arith, c.if-not-holds.false)) c.sent_value-sent.result c.sent_value-sent.ensures c.sent_fits.result c.sent_fits.ensures
    (grind (arith, c.if-not-sent_fits.false)) c.assign.new.pairs.pairs c.assign.ensures.pairs c.values_fit.result c.values_fit.ensures (grind (arith, c.if-not-values_fit.false)) c.args.scratch.now.next c.requires.scratch.next

pub returns-clause-step : goal.returns-clause-step
returns-clause-step c =
    all-tested c.args.guarded.now c.args.choice c.chosen-chosen.result.now c.chosen-chosen.ensures c.args.state.now c.requires.state c.holds.result c.holds.ensures (grind (arith, c.if-not-holds.false)) c.sent_value-sent.result c.sent_value-sent.ensures c.sent_fits.result c.sent_fits.ensures
    (grind (arith, c.if-not-sent_fits.false)) c.assign.new.pairs.pairs c.assign.ensures.pairs c.values_fit.result c.values_fit.ensures (grind (arith, c.if-not-values_fit.false)) c.args.scratch.now.next c.requires.scratch.next
    c.keeps_invariants.result c.keeps_invariants.ensures.hold

pub returns-clause-scratch : goal.returns-clause-scratch
returns-clause-scratch c = record {
  next =
      next-state c.args.guarded.now c.args.choice c.chosen-chosen.result.now c.chosen-chosen.ensures c.args.state.now c.requires.state c.holds.result c.holds.ensures (grind (arith, c.if-not-holds.false)) c.sent_value-sent.result c.sent_value-sent.ensures c.sent_fits.result c.sent_fits.ensures
      (grind (arith, c.if-not-sent_fits.false)) c.assign.new.pairs.pairs c.assign.ensures.pairs c.values_fit.result c.values_fit.ensures (grind (arith, c.if-not-values_fit.false)) c.args.scratch.now.next c.requires.scratch.next
      c.keeps_invariants.new.scratch.next c.keeps_invariants.ensures.next;
  room = λ k choice at.
      subst (λ r. most_pairs (view_updates choice.writes) ≤ r) (sym (ap (λ (h : Held). h.room) c.keeps_invariants.ensures.pairs ∙ c.assign.ensures.room)) (c.requires.scratch.room k choice at);
}
