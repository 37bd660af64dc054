-- A line names what there is, and meets the cause that prevents its action.
use Rattle.std.proofs.Common.{Some, sym, ap, subst, ◌∙◌}
use Rattle.cif_script.specs.Views.{action_of}
use Rattle.cif_eval.specs.Choices.{system_of}
use Rattle.cif_sim_model.specs.Runs.{next_by}
use Rattle.cif_sim_run.specs.Halts.{cause}
use Rattle.cif_sim_run.specs.Left.{IsNamed}
use Rattle.cif_sim_run.proofs.LineLaws.{prevents-meets}
use Rattle.cif_sim_run.proofs.Naming.{line-named}
use Rattle.cif_sim_run.proofs.acting.follow_line.Goals as goal

pub act-requires : goal.act-requires
act-requires c = subst (λ names. IsNamed names (action_of c.in-Some.action)) c.requires (line-named c.args.paths.now c.args.line.now (action_of c.in-Some.action) (sym c.in-Some.ensures))

pub returns-in-Err-clause-met : goal.returns-in-Err-clause-met
returns-in-Err-clause-met c =
    prevents-meets c.args.paths.now (system_of c.args.sim.now.guarded) c.args.sim.now.state c.args.line.now (action_of c.in-Some.action) (cause c.in-Err.why)
    (sym c.in-Some.ensures) c.in-Err.ensures.prevented

pub returns-in-Ok-clause-followed : goal.returns-in-Ok-clause-followed
returns-in-Ok-clause-followed c = (
  sym c.in-Some.ensures ∙ ap Some (sym c.in-Ok.ensures.is),
  ap (next_by (system_of c.args.sim.now.guarded) c.args.sim.now.state) c.in-Ok.ensures.is ∙ c.in-Ok.ensures.made,
)
