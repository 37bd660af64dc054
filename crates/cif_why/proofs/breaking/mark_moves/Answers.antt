use Rattle.std.proofs.Common.{◌≡◌, ◌∙◌, ap, arith, map, sym, true}
use Rattle.cif_net_model.proofs.ValueLaws.{ap-two}
use Rattle.cif_net.specs.View.{auto_tree, invariant_tree, move_tree, net_tree, state_tree, var_tree}
use Rattle.cif_eval.specs.Writes.{written}
use Rattle.cif_why.specs.Breaking.{all_stored, moves_assigned}
use Rattle.cif_why.specs.Numbering.{numbered_tree}
use Rattle.cif_why.specs.Restoring.{movers, pair_in, restored_state, variable_in}
use Rattle.cif_why.proofs.MoveLaws.{all-marked, restored-again, safe-after}
use Rattle.cif_why.proofs.breaking.mark_moves.Goals as goal

pub falsify-requires : goal.falsify-requires
falsify-requires c =
    let holds : c.all_stored.result ≡ true = grind (arith, c.if-not-all_stored.false) in
    safe-after (net_tree c.args.net.now) (state_tree c.args.state.now) c.args.sending.received (map move_tree c.args.moves.now) c.as_slice-3.result.now
    (ap (map numbered_tree) c.as_slice-3.ensures ∙ c.in_ok-assigned.ensures ∙ ap (λ xs. moves_assigned (map auto_tree xs) (state_tree c.args.state.now) c.args.sending.received (map move_tree c.args.moves.now)) c.as_slice-autos.ensures)
    c.requires.preds c.all_stored.result (c.all_stored.ensures ∙ ap-two (λ vs xs. all_stored (map var_tree vs) (map numbered_tree xs)) c.as_slice.ensures (c.as_slice-2.ensures ∙ sym c.as_slice-3.ensures)) holds
    (state_tree c.args.next.now) (state_tree c.write.new.next) c.requires.next
    (c.write.ensures ∙ ap (λ xs. written (map auto_tree xs) (map move_tree c.args.moves.now) (map pair_in c.as_slice-3.result.now) (state_tree c.args.next.now)) c.as_slice-autos.ensures)
    (map invariant_tree c.as_slice-4.result.now) (ap (map invariant_tree) c.as_slice-4.ensures)

pub returns-clause-marks : goal.returns-clause-marks
returns-clause-marks c =
    let holds : c.all_stored.result ≡ true = grind (arith, c.if-not-all_stored.false) in
    all-marked (net_tree c.args.net.now) (state_tree c.args.state.now) c.args.sending.received (map move_tree c.args.moves.now) c.as_slice-3.result.now
    (ap (map numbered_tree) c.as_slice-3.ensures ∙ c.in_ok-assigned.ensures ∙ ap (λ xs. moves_assigned (map auto_tree xs) (state_tree c.args.state.now) c.args.sending.received (map move_tree c.args.moves.now)) c.as_slice-autos.ensures)
    c.all_stored.result (c.all_stored.ensures ∙ ap-two (λ vs xs. all_stored (map var_tree vs) (map numbered_tree xs)) c.as_slice.ensures (c.as_slice-2.ensures ∙ sym c.as_slice-3.ensures)) holds
    (state_tree c.args.next.now) (state_tree c.write.new.next) c.requires.next
    (c.write.ensures ∙ ap (λ xs. written (map auto_tree xs) (map move_tree c.args.moves.now) (map pair_in c.as_slice-3.result.now) (state_tree c.args.next.now)) c.as_slice-autos.ensures)
    (map invariant_tree c.as_slice-4.result.now) (ap (map invariant_tree) c.as_slice-4.ensures) c.args.marks.now c.falsify.new.marks c.falsify.ensures

pub returns-clause-next : goal.returns-clause-next
returns-clause-next c =
    restored-again (map auto_tree c.args.net.now.autos) (map move_tree c.args.moves.now) c.as_slice-3.result.now (state_tree c.args.state.now) (state_tree c.args.next.now) (state_tree c.write.new.next) (state_tree c.restore.new.next) c.requires.next
    (c.write.ensures ∙ ap (λ xs. written (map auto_tree xs) (map move_tree c.args.moves.now) (map pair_in c.as_slice-3.result.now) (state_tree c.args.next.now)) c.as_slice-autos.ensures)
    (c.restore.ensures ∙ ap (λ xs. restored_state (movers (map move_tree c.args.moves.now)) (map variable_in xs) (state_tree c.args.state.now) (state_tree c.write.new.next)) (c.as_slice-5.ensures ∙ sym c.as_slice-3.ensures))
