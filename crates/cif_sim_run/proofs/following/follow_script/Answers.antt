-- The lines lead from the initial state.
use Rattle.std.proofs.Common.{sym, ap, ◌∙◌}
use Rattle.cif_eval.specs.Choices.{system_of}
use Rattle.cif_sim_model.specs.Simulation.{StopsAt}
use Rattle.cif_sim_run.specs.Left.{names_in}
use Rattle.cif_sim_run.proofs.Halting.{halts-silently, if-err}
use Rattle.cif_sim_run.proofs.Running.{whole-runs, whole-state, whole-stops}
use Rattle.cif_sim_run.proofs.following.follow_script.Goals as goal

pub follow_lines-requires-clause-names : goal.follow_lines-requires-clause-names
follow_lines-requires-clause-names c = c.in_ok-paths.ensures ∙ ap names_in (sym c.in_ok-sim.ensures.net)

pub returns-in_err-follow_lines-clause-halted : goal.returns-in_err-follow_lines-clause-halted
returns-in_err-follow_lines-clause-halted c =
    let g = c.args.guarded.now in
    let e = c.in_err-follow_lines.field-0.0 in
    if-err c.from_residual-in_err-follow_lines.result e _ c.from_residual-in_err-follow_lines.ensures.1
    (halts-silently (StopsAt (names_in g) (system_of g) c.args.script.now) _ e
    (whole-stops (names_in g) c.in_ok-paths.paths (system_of g) (system_of c.in_ok-sim.sim.guarded) c.in_ok-sim.sim.state c.args.script.now
    c.in_ok-paths.ensures (ap system_of c.in_ok-sim.ensures.net) c.in_ok-sim.ensures.start) c.in_err-follow_lines.ensures.halted)

pub returns-clause-ran : goal.returns-clause-ran
returns-clause-ran c =
    let g = c.args.guarded.now in
    let names = c.in_ok-paths.ensures in
    let net = ap system_of c.in_ok-sim.ensures.net in
    let start = c.in_ok-sim.ensures.start in
    let sim = c.in_ok-sim.sim in (
      whole-runs (names_in g) c.in_ok-paths.paths (system_of g) (system_of sim.guarded) sim.state c.args.script.now names net start c.in_ok-follow_lines.ensures.ran.0,
      c.in_ok-follow_lines.ensures.ran.1 ∙ whole-state (names_in g) c.in_ok-paths.paths (system_of g) (system_of sim.guarded) sim.state c.args.script.now names net start,
    )

pub returns-clause-net : goal.returns-clause-net
returns-clause-net c = c.in_ok-follow_lines.ensures.net ∙ c.in_ok-sim.ensures.net
