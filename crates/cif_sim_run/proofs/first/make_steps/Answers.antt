-- Each step leads from what is left to what is left behind it, and writes what stands between them.
use Rattle.std.proofs.Common.{◌≡◌, ◌<◌, Some, None, refl, sym, ap, subst, ◌∙◌, arith}
use Rattle.cif_eval.specs.Choices.{system_of}
use Rattle.cif_io.specs.Written.{grown}
use Rattle.cif_net.specs.View.{state_tree}
use Rattle.cif_system.specs.Scan as scan
use Rattle.cif_sim_model.specs.Runs.{first_event}
use Rattle.cif_sim_model.specs.Script.{fires}
use Rattle.cif_sim_model.specs.Simulation.{moment_text}
use Rattle.cif_sim_run.specs.Halts.{GrewByPart}
use Rattle.cif_sim_run.specs.Left.{FirstRunning, Shows, names_in}
use Rattle.cif_sim_run.proofs.FirstRunning.{all-made, at-first-step, dead, next-step, part-of-dead, part-of-step, step-sizes}
use Rattle.cif_sim_run.proofs.Halting.{err-kept, on-err, on-ok, rose-later}
use Rattle.cif_sim_run.specs.declared.made.Made.TheVariants.{Fire}
use Rattle.cif_sim_run.proofs.Changing.{within-shown}
use Rattle.cif_sim_run.proofs.first.make_steps.Goals as goal

pub loop-sim-init : goal.loop-sim-init
loop-sim-init g c =
    let m = system_of c.args.sim.now.guarded in (
      refl,
      c.requires.net,
      at-first-step (names_in c.args.sim.now.guarded) m c.args.sim.now.state c.args.steps (g.O.Sink.written c.args.out.now) c.args.lines.now.steps (state_tree c.args.lines.now.before)
          c.requires.start c.requires.shown c.requires.sized,
      omega arith,
    )

pub write_action-requires-clause-places : goal.write_action-requires-clause-places
write_action-requires-clause-places g c =
    let names = names_in c.args.sim.now.guarded in
    let m = system_of c.args.sim.now.guarded in
    let s = c.loop-sim.sim.state in
    let event = c.in-Some.fired.event in
    let found = subst (λ x. first_event (system_of x) s ≡ Some event) c.loop-sim.invariant.0 (sym c.in-Some.ensures.first) in
    let is : state_tree c.state.result.now ≡ scan.fire m s event = c.state.ensures.is ∙ c.in-Some.ensures.made ∙ ap (λ x. scan.fire (system_of x) s event) c.loop-sim.invariant.0 in
    let more : c.loop-sim.lines.steps < c.args.steps = (let test = c.loop-sim-test.true in let asked = c.steps.ensures in omega (arith, test, asked)) in
    (step-sizes names m c.args.sim.now.state c.args.steps (g.O.Sink.written c.args.out.now) (g.O.Sink.written c.loop-sim.out) s c.loop-sim.lines.steps (state_tree c.loop-sim.lines.before)
    c.loop-sim.invariant.2 more event (state_tree c.state.result.now) found is).0

pub write_action-requires-clause-values : goal.write_action-requires-clause-values
write_action-requires-clause-values g c =
    let names = names_in c.args.sim.now.guarded in
    let m = system_of c.args.sim.now.guarded in
    let s = c.loop-sim.sim.state in
    let event = c.in-Some.fired.event in
    let found = subst (λ x. first_event (system_of x) s ≡ Some event) c.loop-sim.invariant.0 (sym c.in-Some.ensures.first) in
    let is : state_tree c.state.result.now ≡ scan.fire m s event = c.state.ensures.is ∙ c.in-Some.ensures.made ∙ ap (λ x. scan.fire (system_of x) s event) c.loop-sim.invariant.0 in
    let more : c.loop-sim.lines.steps < c.args.steps = (let test = c.loop-sim-test.true in let asked = c.steps.ensures in omega (arith, test, asked)) in
    (step-sizes names m c.args.sim.now.state c.args.steps (g.O.Sink.written c.args.out.now) (g.O.Sink.written c.loop-sim.out) s c.loop-sim.lines.steps (state_tree c.loop-sim.lines.before)
    c.loop-sim.invariant.2 more event (state_tree c.state.result.now) found is).1

pub write_action-requires-clause-within : goal.write_action-requires-clause-within
write_action-requires-clause-within g c =
    within-shown c.loop-sim.sim.guarded c.loop-sim.lines.touches c.loop-sim.sim.state c.step_by_first.new.sim.state (state_tree c.loop-sim.lines.before) (state_tree c.state.result.now) (Fire c.in-Some.fired) (c.loop-sim.invariant.0 ∙ sym c.loop-sim.invariant.1) c.loop-sim.invariant.2.shown c.state.ensures.is c.in-Some.ensures.within

pub write_action-requires-clause-counted : goal.write_action-requires-clause-counted
write_action-requires-clause-counted g c =
    let few = c.requires.few in
    let test = c.loop-sim-test.true in
    let asked = c.steps.ensures in
    omega (arith, few, test, asked)

pub loop-sim-preserved : goal.loop-sim-preserved
loop-sim-preserved g c =
    let names = names_in c.args.sim.now.guarded in
    let m = system_of c.args.sim.now.guarded in
    let old = g.O.Sink.written c.args.out.now in
    let now = g.O.Sink.written c.loop-sim.out in
    let new = g.O.Sink.written c.write_action.new.out in
    let s = c.loop-sim.sim.state in
    let k = c.loop-sim.lines.steps in
    let before = state_tree c.loop-sim.lines.before in
    let after = state_tree c.write_action.new.self.before in
    let event = c.in-Some.fired.event in
    let wrote = c.in_ok-write_action-in-Some.ensures in
    let found = subst (λ x. first_event (system_of x) s ≡ Some event) c.loop-sim.invariant.0 (sym c.in-Some.ensures.first) in
    let made : c.step_by_first.new.sim.state ≡ scan.fire m s event = c.in-Some.ensures.made ∙ ap (λ x. scan.fire (system_of x) s event) c.loop-sim.invariant.0 in
    let is : state_tree c.state.result.now ≡ scan.fire m s event = c.state.ensures.is ∙ made in
    let more : k < c.args.steps = (let test = c.loop-sim-test.true in let asked = c.steps.ensures in omega (arith, test, asked)) in
    let named : names_in c.loop-sim.lines.touches ≡ names = ap names_in c.loop-sim.invariant.1 in (
      c.in-Some.ensures.net ∙ c.loop-sim.invariant.0,
      wrote.net ∙ c.loop-sim.invariant.1,
      subst (λ x. FirstRunning names m c.args.sim.now.state c.args.steps old new x c.write_action.new.self.steps after) (sym made)
          (next-step names m c.args.sim.now.state c.args.steps old now s k before c.loop-sim.invariant.2 more event after c.write_action.new.self.steps new found
          (subst (λ x. Shows after x) is wrote.shown) wrote.steps
          (wrote.all ∙ (λ i. grown now (moment_text (named i) k (record { action = fires event; before = before; after = is i }))))),
      (let old_faults = c.loop-sim.invariant.3 in let new_faults = wrote.faults_stay_or_rise in omega (arith, old_faults, new_faults)),
    )

pub loop-sim-smaller : goal.loop-sim-smaller
loop-sim-smaller g c =
    let test = c.loop-sim-test.true in
    let asked = c.steps.ensures in
    let steps = c.in_ok-write_action-in-Some.ensures.steps in
    omega (arith, test, asked, steps)

pub returns-in_err-write_action-in-Some-clause-part : goal.returns-in_err-write_action-in-Some-clause-part
returns-in_err-write_action-in-Some-clause-part g c =
    let names = names_in c.args.sim.now.guarded in
    let m = system_of c.args.sim.now.guarded in
    let old = g.O.Sink.written c.args.out.now in
    let now = g.O.Sink.written c.loop-sim.out in
    let new = g.O.Sink.written c.write_action.new.out in
    let s = c.loop-sim.sim.state in
    let k = c.loop-sim.lines.steps in
    let before = state_tree c.loop-sim.lines.before in
    let event = c.in-Some.fired.event in
    let found = subst (λ x. first_event (system_of x) s ≡ Some event) c.loop-sim.invariant.0 (sym c.in-Some.ensures.first) in
    let is : state_tree c.state.result.now ≡ scan.fire m s event = c.state.ensures.is ∙ c.in-Some.ensures.made ∙ ap (λ x. scan.fire (system_of x) s event) c.loop-sim.invariant.0 in
    let more : k < c.args.steps = (let test = c.loop-sim-test.true in let asked = c.steps.ensures in omega (arith, test, asked)) in
    let named : names_in c.loop-sim.lines.touches ≡ names = ap names_in c.loop-sim.invariant.1 in
    let part = subst (λ n. GrewByPart (moment_text n k (record { action = fires event; before = before; after = scan.fire m s event })) now new) named
    (subst (λ x. GrewByPart (moment_text (names_in c.loop-sim.lines.touches) k (record { action = fires event; before = before; after = x })) now new) is c.in_err-write_action-in-Some.ensures.part) in
    err-kept c.from_residual.result _
    (part-of-step names m c.args.sim.now.state c.args.steps old now s k before c.loop-sim.invariant.2 more event new found part)

pub returns-in_err-write_action-in-Some-clause-faults_stay_or_rise : goal.returns-in_err-write_action-in-Some-clause-faults_stay_or_rise
returns-in_err-write_action-in-Some-clause-faults_stay_or_rise g c =
    let old_faults = c.loop-sim.invariant.3 in
    let new_faults = c.write_action.ensures.faults_stay_or_rise in
    omega (arith, old_faults, new_faults)

pub returns-in-None-clause-ran : goal.returns-in-None-clause-ran
returns-in-None-clause-ran g c =
    let names = names_in c.args.sim.now.guarded in
    let m = system_of c.args.sim.now.guarded in
    let s = c.loop-sim.sim.state in
    let none = subst (λ x. first_event (system_of x) s ≡ None) c.loop-sim.invariant.0 (sym c.in-None.ensures.first) in
    let more : c.loop-sim.lines.steps < c.args.steps = (let test = c.loop-sim-test.true in let asked = c.steps.ensures in omega (arith, test, asked)) in
    on-ok c.put_all.result _ _
    (λ h. dead names m c.args.sim.now.state c.args.steps (g.O.Sink.written c.args.out.now) (g.O.Sink.written c.loop-sim.out) s c.loop-sim.lines.steps (state_tree c.loop-sim.lines.before)
    c.loop-sim.invariant.2 more (g.O.Sink.written c.put_all.new.sink) none h) c.put_all.ensures.all

pub returns-in-None-clause-part : goal.returns-in-None-clause-part
returns-in-None-clause-part g c =
    let names = names_in c.args.sim.now.guarded in
    let m = system_of c.args.sim.now.guarded in
    let s = c.loop-sim.sim.state in
    let none = subst (λ x. first_event (system_of x) s ≡ None) c.loop-sim.invariant.0 (sym c.in-None.ensures.first) in
    let more : c.loop-sim.lines.steps < c.args.steps = (let test = c.loop-sim-test.true in let asked = c.steps.ensures in omega (arith, test, asked)) in
    on-err c.put_all.result _ _
    (λ e h. part-of-dead names m c.args.sim.now.state c.args.steps (g.O.Sink.written c.args.out.now) (g.O.Sink.written c.loop-sim.out) s c.loop-sim.lines.steps (state_tree c.loop-sim.lines.before)
    c.loop-sim.invariant.2 more (g.O.Sink.written c.put_all.new.sink) none h) c.put_all.ensures.prefix

pub returns-in-None-clause-failed : goal.returns-in-None-clause-failed
returns-in-None-clause-failed g c = λ h. rose-later _ _ _ c.loop-sim.invariant.3 (c.put_all.ensures.failed h)

pub returns-clause-ran : goal.returns-clause-ran
returns-clause-ran g c =
    let names = names_in c.args.sim.now.guarded in
    let end = c.loop-sim-test.false in
    let asked = c.steps.ensures in
    all-made names (system_of c.args.sim.now.guarded) c.args.sim.now.state c.args.steps (g.O.Sink.written c.args.out.now) (g.O.Sink.written c.loop-sim.out) c.loop-sim.sim.state c.loop-sim.lines.steps
    (state_tree c.loop-sim.lines.before) c.loop-sim.invariant.2 (omega (arith, end, asked))
