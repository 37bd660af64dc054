use Rattle.std.proofs.Common.{sym, ap, ◌∙◌}
use Rattle.std.specs.Prelude.{option_map}
use Rattle.cif_sim_model.specs.Script.{fires, number_of}
use Rattle.cif_script.specs.Views.{action_of}
use Rattle.cif_script.proofs.Naming.{fired}
use Rattle.cif_script.proofs.paths.Paths.fire.Goals as goal

pub returns-in_err-event : goal.returns-in_err-event
returns-in_err-event c =
    ap (option_map action_of) c.from_residual.ensures ∙ ap (option_map fires) (sym c.in_err-event.was ∙ c.event.ensures)
    ∙ sym (fired (number_of (λ p. p) c.args.name.now c.args.self.now.events))

pub returns : goal.returns
returns c =
    ap (option_map fires) (sym c.in_ok-event.was ∙ c.event.ensures) ∙ sym (fired (number_of (λ p. p) c.args.name.now c.args.self.now.events))
