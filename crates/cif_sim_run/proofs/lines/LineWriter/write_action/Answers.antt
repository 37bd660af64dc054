-- A part of the line is a part of what the action writes.
use Rattle.std.proofs.Common.{◌≡◌, refl, subst, ◌∙◌}
use Rattle.cif_net.specs.View.{state_tree}
use Rattle.cif_sim_model.specs.Simulation.{moment_text}
use Rattle.cif_sim_run.specs.Halts.{GrewByPart}
use Rattle.cif_sim_run.specs.Left.{names_in}
use Rattle.cif_sim_run.specs.Made.{action_made}
use Rattle.cif_sim_run.proofs.Growing.{part-nothing}
use Rattle.cif_sim_run.proofs.Halting.{err-kept, on-err}
use Rattle.cif_sim_run.proofs.Handed.{handed-ok}
use Rattle.cif_sim_run.proofs.lines.LineWriter.write_action.Goals as goal

pub returns-in_err-map_err-clause-part : goal.returns-in_err-map_err-clause-part
returns-in_err-map_err-clause-part g c =
    let text = moment_text (names_in c.args.self.now.touches) c.args.self.now.steps (record { action = action_made c.args.made; before = state_tree c.args.self.now.before; after = state_tree c.args.after.now }) in
    let told = g.O.Sink.written c.args.out.now in
    err-kept c.from_residual.result (GrewByPart text told told) (part-nothing text told told refl)

pub returns-clause-part : goal.returns-clause-part
returns-clause-part g c =
    let text = moment_text (names_in c.args.self.now.touches) c.args.self.now.steps (record { action = action_made c.args.made; before = state_tree c.args.self.now.before; after = state_tree c.args.after.now }) in
    let told = g.O.Sink.written c.args.out.now in
    let new = g.O.Sink.written c.put_all.new.sink in
    let line : c.put_action.new.self.line.items ≡ text =
    handed-ok c.put_action.result c.map_err.result c.in_ok-map_err.field-0 _ (c.put_action.new.self.line.items ≡ text) c.in_ok-map_err.was c.map_err.ensures.cases c.put_action.ensures.line in
    on-err c.put_all.result (λ _. GrewByPart c.as_slice.result.now told new) (λ _. GrewByPart text told new)
    (λ _ h. subst (λ t. GrewByPart t told new) (c.as_slice.ensures.value ∙ line) h) c.put_all.ensures.prefix
