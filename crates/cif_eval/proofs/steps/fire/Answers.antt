use Rattle.cif_net.specs.View.{state_tree}
use Rattle.cif_eval.proofs.Made.{after-made, made-updates-ok, sent-ok, state-made}
use Rattle.cif_eval.proofs.steps.fire.Goals as goal

pub sent_value-sent-requires : goal.sent_value-sent-requires
sent_value-sent-requires c = sent-ok c.args.guarded.now c.args.choice c.chosen-chosen.result.now c.chosen-chosen.ensures c.args.state.now c.requires.state

pub assign-requires-clause-safe : goal.assign-requires-clause-safe
assign-requires-clause-safe c = made-updates-ok c.args.guarded.now c.args.choice c.chosen-chosen.result.now c.chosen-chosen.ensures c.args.state.now c.requires.state c.requires.step c.sent_value-sent.result c.sent_value-sent.ensures

pub returns-clause-after : goal.returns-clause-after
returns-clause-after c =
    after-made c.args.guarded.now c.args.choice c.chosen-chosen.result.now c.chosen-chosen.ensures c.args.state.now c.requires.state c.requires.step c.sent_value-sent.result c.sent_value-sent.ensures
    c.assign.new.pairs.pairs c.assign.ensures.pairs (state_tree c.write.new.state) c.write.ensures

pub returns-clause-state : goal.returns-clause-state
returns-clause-state c =
    state-made c.args.guarded.now c.args.choice c.chosen-chosen.result.now c.chosen-chosen.ensures c.args.state.now c.requires.state c.requires.step (state_tree c.write.new.state)
    (after-made c.args.guarded.now c.args.choice c.chosen-chosen.result.now c.chosen-chosen.ensures c.args.state.now c.requires.state c.requires.step c.sent_value-sent.result c.sent_value-sent.ensures
    c.assign.new.pairs.pairs c.assign.ensures.pairs (state_tree c.write.new.state) c.write.ensures)
