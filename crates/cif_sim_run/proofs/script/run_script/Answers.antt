-- The lines stand behind the start line.
use Rattle.std.proofs.Common.{◌≡◌, Err, sym, ap, subst, ◌∙◌}
use Rattle.cif_eval.specs.Choices.{system_of}
use Rattle.cif_io.specs.Written.{grown}
use Rattle.cif_net.specs.View.{state_tree}
use Rattle.cif_system.specs.System.{initial}
use Rattle.cif_sim_model.specs.Script.{script_lines}
use Rattle.cif_sim_model.specs.Simulation.{FirstStop, StopsAt, moments_text, script_moments, script_text}
use Rattle.cif_sim_model.specs.Texts.{start_line}
use Rattle.cif_sim_run.specs.Halts.{GrewByPart, HaltsIn, halt_of, writing}
use Rattle.cif_sim_run.specs.Left.{IsSized, names_in}
use Rattle.cif_sim_run.proofs.Growing.{part-of-first, whole-behind}
use Rattle.cif_sim_run.proofs.Halting.{halts-behind, halts-of, if-err, on-err, on-ok, wants-memory}
use Rattle.cif_sim_run.proofs.Running.{whole-runs, whole-stops, whole-text}
use Rattle.cif_sim_run.proofs.Sizes.{initial-sized}
use Rattle.cif_sim_run.proofs.script.run_script.Goals as goal

pub returns-in_err-paths-clause-halted : goal.returns-in_err-paths-clause-halted
returns-in_err-paths-clause-halted g c =
    let net = c.args.guarded.now in
    wants-memory c.from_residual.result (StopsAt (names_in net) (system_of net) c.args.script.now) (script_text (names_in net) (system_of net) c.args.script.now)
    (g.O.Sink.written c.args.out.now) (g.O.Sink.faults c.args.out.now) c.from_residual.ensures.1

pub returns-in_err-sim-clause-halted : goal.returns-in_err-sim-clause-halted
returns-in_err-sim-clause-halted g c =
    let net = c.args.guarded.now in
    wants-memory c.from_residual-in_err-sim.result (StopsAt (names_in net) (system_of net) c.args.script.now) (script_text (names_in net) (system_of net) c.args.script.now)
    (g.O.Sink.written c.args.out.now) (g.O.Sink.faults c.args.out.now) c.from_residual-in_err-sim.ensures.1

pub returns-in_err-lines-clause-halted : goal.returns-in_err-lines-clause-halted
returns-in_err-lines-clause-halted g c =
    let net = c.args.guarded.now in
    wants-memory c.from_residual-in_err-lines.result (StopsAt (names_in net) (system_of net) c.args.script.now) (script_text (names_in net) (system_of net) c.args.script.now)
    (g.O.Sink.written c.args.out.now) (g.O.Sink.faults c.args.out.now) c.from_residual-in_err-lines.ensures.1

pub returns-in_err-write_start-clause-halted : goal.returns-in_err-write_start-clause-halted
returns-in_err-write_start-clause-halted g c =
    let net = c.args.guarded.now in
    let names = names_in net in
    let m = system_of net in
    let old = g.O.Sink.written c.args.out.now in
    let new = g.O.Sink.written c.write_start.new.out in
    let made = c.in_ok-lines.ensures in
    let first : start_line (names_in c.in_ok-lines.lines.touches) (state_tree c.in_ok-lines.lines.before) ≡ start_line names (initial m) = (λ i. start_line (names_in (made.net i)) (made.start i)) in
    let part = subst (λ t. GrewByPart t old new) first c.in_err-write_start.ensures.part in
    if-err c.from_residual-in_err-write_start.result (halt_of c.in_err-write_start.field-0.0)
    (HaltsIn (StopsAt names m c.args.script.now) (script_text names m c.args.script.now) (writing old new (g.O.Sink.faults c.args.out.now) (g.O.Sink.faults c.write_start.new.out))) c.from_residual-in_err-write_start.ensures.1
    (halts-of (StopsAt names m c.args.script.now) (script_text names m c.args.script.now) old new (g.O.Sink.faults c.args.out.now) (g.O.Sink.faults c.write_start.new.out) c.in_err-write_start.field-0.0
    (λ h. c.write_start.ensures.failed (c.in_err-write_start.was ∙ ap Err h))
    (part-of-first (start_line names (initial m)) (moments_text names 0 (script_moments names m c.args.script.now)) old new part))

pub write_lines-requires-clause-names : goal.write_lines-requires-clause-names
write_lines-requires-clause-names g c = c.in_ok-paths.ensures ∙ ap names_in (sym c.in_ok-sim.ensures.net)

pub write_lines-requires-clause-net : goal.write_lines-requires-clause-net
write_lines-requires-clause-net g c = ap (λ w. w.touches) c.write_start.ensures.kept ∙ c.in_ok-lines.ensures.net ∙ sym c.in_ok-sim.ensures.net

pub write_lines-requires-clause-start : goal.write_lines-requires-clause-start
write_lines-requires-clause-start g c = ap (λ w. w.steps) c.write_start.ensures.kept ∙ c.in_ok-lines.ensures.steps

pub write_lines-requires-clause-shown : goal.write_lines-requires-clause-shown
write_lines-requires-clause-shown g c =
    let same : state_tree c.write_start.new.self.before ≡ c.in_ok-sim.sim.state = ap (λ w. state_tree w.before) c.write_start.ensures.kept ∙ c.in_ok-lines.ensures.start ∙ sym c.in_ok-sim.ensures.start in
    (ap (λ s. s.locs) same, ap (λ s. s.vals) same)

pub write_lines-requires-clause-sized : goal.write_lines-requires-clause-sized
write_lines-requires-clause-sized g c =
    subst (λ s. IsSized (system_of c.in_ok-sim.sim.guarded) s) (sym c.in_ok-sim.ensures.start)
    (subst (λ x. IsSized (system_of x) (initial (system_of c.args.guarded.now))) (sym c.in_ok-sim.ensures.net) (initial-sized (system_of c.args.guarded.now)))

pub returns-clause-ran : goal.returns-clause-ran
returns-clause-ran g c =
    let net = c.args.guarded.now in
    let names = names_in net in
    let m = system_of net in
    let script = c.args.script.now in
    let old = g.O.Sink.written c.args.out.now in
    let now = g.O.Sink.written c.write_start.new.out in
    let new = g.O.Sink.written c.write_lines.new.out in
    let made = c.in_ok-lines.ensures in
    let first : start_line (names_in c.in_ok-lines.lines.touches) (state_tree c.in_ok-lines.lines.before) ≡ start_line names (initial m) = (λ i. start_line (names_in (made.net i)) (made.start i)) in
    let sim = c.in_ok-sim.sim in
    let rest = whole-text names c.in_ok-paths.paths m (system_of sim.guarded) sim.state script c.in_ok-paths.ensures (ap system_of c.in_ok-sim.ensures.net) c.in_ok-sim.ensures.start in
    on-ok c.write_lines.result _ _
    (λ h. (
      whole-runs names c.in_ok-paths.paths m (system_of sim.guarded) sim.state script c.in_ok-paths.ensures (ap system_of c.in_ok-sim.ensures.net) c.in_ok-sim.ensures.start h.0,
      whole-behind (start_line names (initial m)) (moments_text names 0 (script_moments names m script)) old now new (c.in_ok-write_start.ensures.all ∙ ap (grown old) first) (h.1 ∙ ap (grown now) rest),
    )) c.write_lines.ensures.ran

pub returns-clause-halted : goal.returns-clause-halted
returns-clause-halted g c =
    let net = c.args.guarded.now in
    let names = names_in net in
    let m = system_of net in
    let script = c.args.script.now in
    let old = g.O.Sink.written c.args.out.now in
    let now = g.O.Sink.written c.write_start.new.out in
    let new = g.O.Sink.written c.write_lines.new.out in
    let made = c.in_ok-lines.ensures in
    let first : start_line (names_in c.in_ok-lines.lines.touches) (state_tree c.in_ok-lines.lines.before) ≡ start_line names (initial m) = (λ i. start_line (names_in (made.net i)) (made.start i)) in
    let sim = c.in_ok-sim.sim in
    let rest = whole-text names c.in_ok-paths.paths m (system_of sim.guarded) sim.state script c.in_ok-paths.ensures (ap system_of c.in_ok-sim.ensures.net) c.in_ok-sim.ensures.start in
    let f = g.O.Sink.faults c.args.out.now in
    let f1 = g.O.Sink.faults c.write_start.new.out in
    let f2 = g.O.Sink.faults c.write_lines.new.out in
    on-err c.write_lines.result _ _
    (λ e h. halts-behind (StopsAt names m script) (FirstStop c.in_ok-paths.paths (system_of sim.guarded) sim.state (script_lines script))
    (start_line names (initial m)) (moments_text names 0 (script_moments names m script)) old now new f f1 f2 e
    (whole-stops names c.in_ok-paths.paths m (system_of sim.guarded) sim.state script c.in_ok-paths.ensures (ap system_of c.in_ok-sim.ensures.net) c.in_ok-sim.ensures.start)
    (c.in_ok-write_start.ensures.all ∙ ap (grown old) first) c.write_start.ensures.faults_stay_or_rise
    (subst (λ t. HaltsIn (FirstStop c.in_ok-paths.paths (system_of sim.guarded) sim.state (script_lines script)) t (writing now new f1 f2) e) rest h)) c.write_lines.ensures.halted
