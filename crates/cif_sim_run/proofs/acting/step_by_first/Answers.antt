-- The first event that has a step is one of the system, and has it.
use Rattle.std.proofs.Common.{◌<◌, length, sym, ap, subst, ◌∙◌}
use Rattle.cif_system.specs.Choices.{first_step}
use Rattle.cif_system.specs.Scan as scan
use Rattle.cif_system.proofs.Lists.{some-same, none-some}
use Rattle.cif_eval.specs.Choices.{system_of}
use Rattle.cif_sim.specs.Simulated.{Simulated}
use Rattle.cif_sim.specs.Tried.{Fires}
use Rattle.cif_sim_run.proofs.Changing.{fired-by}
use Rattle.cif_sim_run.proofs.FirstLaws.{first-fires}
use Rattle.cif_sim_run.proofs.acting.step_by_first.Goals as goal

pub fire-requires : goal.fire-requires
fire-requires c =
    let event = c.in_ok-event.event in
    let found = first-fires (system_of c.args.sim.now.guarded) c.args.sim.now.state event (sym c.in_ok-event.ensures.first) in
    subst (λ s. event < length (system_of s.guarded).events) (sym c.in_ok-event.ensures.kept) found.below

pub unreachable-requires : goal.unreachable-requires
unreachable-requires c =
    let event = c.in_ok-event.event in
    let found = first-fires (system_of c.args.sim.now.guarded) c.args.sim.now.state event (sym c.in_ok-event.ensures.first) in
    none-some _ (sym c.in-Err.ensures.none ∙ ap (λ s. first_step (system_of s.guarded) s.state event) c.in_ok-event.ensures.kept ∙ found.leads)

pub returns-clause-made : goal.returns-clause-made
returns-clause-made c =
    let event = c.in_ok-event.event in
    let found = first-fires (system_of c.args.sim.now.guarded) c.args.sim.now.state event (sym c.in_ok-event.ensures.first) in
    some-same c.fire.new.self.state (scan.fire (system_of c.args.sim.now.guarded) c.args.sim.now.state event)
    (sym c.in-Ok.ensures.fired ∙ ap (λ s. first_step (system_of s.guarded) s.state event) c.in_ok-event.ensures.kept ∙ found.leads)

pub returns-clause-within : goal.returns-clause-within
returns-clause-within c =
    fired-by c.args.sim.now.guarded c.args.sim.now.state c.fire.new.self.state c.in_ok-event.event c.in-Ok.choice
    (subst (λ (x : Simulated). Fires x.guarded x.state c.in_ok-event.event c.in-Ok.choice c.fire.new.self.state) c.in_ok-event.ensures.kept c.in-Ok.ensures.choice)
