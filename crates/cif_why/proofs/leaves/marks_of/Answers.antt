use Rattle.std.proofs.Common.{◌≡◌, ◌∙◌, Some, arith, subst, sym, true}
use Rattle.std.specs.Prelude.{slice_get}
use Rattle.cif_net.specs.View.{choice_tree, state_tree}
use Rattle.cif_why.specs.Agreeing.{is_agreeing}
use Rattle.cif_why.proofs.ListLaws.{item-at}
use Rattle.cif_why.proofs.MarkingLaws.{moves-ok, sent-ok}
use Rattle.cif_why.proofs.leaves.marks_of.Goals as goal

pub mark_choice-requires-clause-sent : goal.mark_choice-requires-clause-sent
mark_choice-requires-clause-sent c =
    let at : slice_get c.args.guarded.now.choices c.loop-choice.choice-index ≡ Some c.choice-item.result =
    subst (λ xs. slice_get xs c.loop-choice.choice-index ≡ Some c.choice-item.result) c.as_slice-choices.ensures (item-at c.as_slice-choices.result.now c.loop-choice.choice-index c.choice-item.result (omega arith) c.choice-item.is) in
    sent-ok c.args.guarded.now (state_tree c.args.state.now) c.args.event c.requires.state c.loop-choice.choice-index c.choice-item.result at

pub mark_choice-requires-clause-moves : goal.mark_choice-requires-clause-moves
mark_choice-requires-clause-moves c =
    let at : slice_get c.args.guarded.now.choices c.loop-choice.choice-index ≡ Some c.choice-item.result =
    subst (λ xs. slice_get xs c.loop-choice.choice-index ≡ Some c.choice-item.result) c.as_slice-choices.ensures (item-at c.as_slice-choices.result.now c.loop-choice.choice-index c.choice-item.result (omega arith) c.choice-item.is) in
    moves-ok c.args.guarded.now (state_tree c.args.state.now) c.args.event c.requires.state c.loop-choice.choice-index c.choice-item.result at
    (subst (λ os. is_agreeing os c.args.event (choice_tree c.choice-item.result) ≡ true) c.requires.openings (sym c.is_agreeing.ensures ∙ c.if-is_agreeing.true))
