-- Each line leads from what is left to what is left behind it, and writes what stands between them.
use Rattle.std.proofs.Common.{◌≡◌, Err, Some, refl, sym, ap, subst, ◌∙◌, arith}
use Rattle.cif_eval.specs.Choices.{system_of}
use Rattle.cif_io.specs.Written.{grown}
use Rattle.cif_net.specs.View.{state_tree}
use Rattle.cif_sim_model.specs.Runs.{next_by}
use Rattle.cif_sim_model.specs.Script.{script_lines}
use Rattle.cif_sim_model.specs.Simulation.{FirstStop, Meets, moment_text}
use Rattle.cif_sim_run.specs.Halts.{GrewByPart, HaltsIn, cause, halt_of, writing}
use Rattle.cif_sim_run.specs.Left.{IsUpToDate, Running, names_in, text_left}
use Rattle.cif_sim_run.specs.Made.{action_made}
use Rattle.cif_sim_run.proofs.Halting.{halts-of, if-err, rose-later}
use Rattle.cif_sim_run.proofs.Running.{all-run, at-first, few-lines, next-line, part-of-line, sizes, stopped}
use Rattle.cif_sim_run.proofs.Changing.{within-shown}
use Rattle.cif_sim_run.proofs.script.write_lines.Goals as goal

pub loop-line-init : goal.loop-line-init
loop-line-init g c =
    let m = system_of c.args.sim.now.guarded in
    let all = script_lines c.args.script.now in (
      tt,
      tt,
      refl,
      c.requires.net,
      at-first c.args.paths.now m c.args.sim.now.state all (g.O.Sink.written c.args.out.now) c.args.lines.now.steps (state_tree c.args.lines.now.before)
          c.into_iter-line-iterator.result c.requires.start (c.into_iter-line-iterator.ensures.into_iter_gives ∙ c.script_lines-line-items.ensures) c.requires.shown c.requires.sized,
      omega arith,
    )

pub overflow_add-number : goal.overflow_add-number
overflow_add-number g c =
    let counted = c.loop-line.invariant.4.followed.counted in
    let few = few-lines c.args.script.now in
    let short = c.requires.short in
    omega (arith, counted, few, short)

pub follow_line-requires : goal.follow_line-requires
follow_line-requires g c = c.requires.names ∙ ap names_in (sym c.loop-line.invariant.2)

pub returns-in-Err-clause-halted : goal.returns-in-Err-clause-halted
returns-in-Err-clause-halted g c =
    let names = c.args.paths.now in
    let m = system_of c.args.sim.now.guarded in
    let start = c.args.sim.now.state in
    let all = script_lines c.args.script.now in
    let old = g.O.Sink.written c.args.out.now in
    let now = g.O.Sink.written c.loop-line.out in
    let s = c.loop-line.sim.state in
    let k = c.loop-line.lines.steps in
    let before = state_tree c.loop-line.lines.before in
    let line = c.in-Some.line.now in
    let so_far = subst (λ ls. Running names m start all c.loop-line.number old now s k before ls) c.in-Some.ensures.steps c.loop-line.invariant.4 in
    let met = subst (λ x. Meets names (system_of x) s line (cause c.in-Err.why)) c.loop-line.invariant.2 c.in-Err.ensures.met in
    stopped names m start all old c.loop-line.number now s k before line c.next.new.self so_far (cause c.in-Err.why) met

pub returns-in-Err-clause-faults_stay_or_rise : goal.returns-in-Err-clause-faults_stay_or_rise
returns-in-Err-clause-faults_stay_or_rise g c = c.loop-line.invariant.5

pub write_action-requires-clause-places : goal.write_action-requires-clause-places
write_action-requires-clause-places g c =
    let names = c.args.paths.now in
    let m = system_of c.args.sim.now.guarded in
    let start = c.args.sim.now.state in
    let all = script_lines c.args.script.now in
    let old = g.O.Sink.written c.args.out.now in
    let now = g.O.Sink.written c.loop-line.out in
    let s = c.loop-line.sim.state in
    let k = c.loop-line.lines.steps in
    let before = state_tree c.loop-line.lines.before in
    let so_far = subst (λ ls. Running names m start all c.loop-line.number old now s k before ls) c.in-Some.ensures.steps c.loop-line.invariant.4 in
    let next = c.follow_line.new.sim.state in
    let a = action_made c.in-Ok.made in
    let leads = subst (λ x. next_by (system_of x) s a ≡ Some next) c.loop-line.invariant.2 c.in-Ok.ensures.followed.1 in
    (sizes names m start all old c.loop-line.number now s k before c.in-Some.line.now c.next.new.self so_far a next (state_tree c.state.result.now) leads c.state.ensures.is).0

pub write_action-requires-clause-values : goal.write_action-requires-clause-values
write_action-requires-clause-values g c =
    let names = c.args.paths.now in
    let m = system_of c.args.sim.now.guarded in
    let start = c.args.sim.now.state in
    let all = script_lines c.args.script.now in
    let old = g.O.Sink.written c.args.out.now in
    let now = g.O.Sink.written c.loop-line.out in
    let s = c.loop-line.sim.state in
    let k = c.loop-line.lines.steps in
    let before = state_tree c.loop-line.lines.before in
    let so_far = subst (λ ls. Running names m start all c.loop-line.number old now s k before ls) c.in-Some.ensures.steps c.loop-line.invariant.4 in
    let next = c.follow_line.new.sim.state in
    let a = action_made c.in-Ok.made in
    let leads = subst (λ x. next_by (system_of x) s a ≡ Some next) c.loop-line.invariant.2 c.in-Ok.ensures.followed.1 in
    (sizes names m start all old c.loop-line.number now s k before c.in-Some.line.now c.next.new.self so_far a next (state_tree c.state.result.now) leads c.state.ensures.is).1

pub write_action-requires-clause-within : goal.write_action-requires-clause-within
write_action-requires-clause-within g c =
    within-shown c.loop-line.sim.guarded c.loop-line.lines.touches c.loop-line.sim.state c.follow_line.new.sim.state (state_tree c.loop-line.lines.before) (state_tree c.state.result.now) c.in-Ok.made (c.loop-line.invariant.2 ∙ sym c.loop-line.invariant.3) c.loop-line.invariant.4.shown c.state.ensures.is c.in-Ok.ensures.within

pub write_action-requires-clause-counted : goal.write_action-requires-clause-counted
write_action-requires-clause-counted g c =
    let made = c.loop-line.invariant.4.steps in
    let counted = c.loop-line.invariant.4.followed.counted in
    let few = few-lines c.args.script.now in
    let short = c.requires.short in
    omega (arith, made, counted, few, short)

pub loop-line-preserved : goal.loop-line-preserved
loop-line-preserved g c =
    let names = c.args.paths.now in
    let m = system_of c.args.sim.now.guarded in
    let start = c.args.sim.now.state in
    let all = script_lines c.args.script.now in
    let old = g.O.Sink.written c.args.out.now in
    let now = g.O.Sink.written c.loop-line.out in
    let s = c.loop-line.sim.state in
    let k = c.loop-line.lines.steps in
    let before = state_tree c.loop-line.lines.before in
    let so_far = subst (λ ls. Running names m start all c.loop-line.number old now s k before ls) c.in-Some.ensures.steps c.loop-line.invariant.4 in
    let next = c.follow_line.new.sim.state in
    let a = action_made c.in-Ok.made in
    let leads = subst (λ x. next_by (system_of x) s a ≡ Some next) c.loop-line.invariant.2 c.in-Ok.ensures.followed.1 in
    let named : names_in c.loop-line.lines.touches ≡ names = ap names_in c.loop-line.invariant.3 ∙ sym c.requires.names in
    let after = state_tree c.write_action.new.self.before in
    let wrote = c.in_ok-write_action.ensures in (
      tt,
      tt,
      c.in-Ok.ensures.net ∙ c.loop-line.invariant.2,
      wrote.net ∙ c.loop-line.invariant.3,
      next-line names m start all old c.loop-line.number now s k before c.in-Some.line.now c.next.new.self so_far a next after
          c.write_action.new.self.steps (g.O.Sink.written c.write_action.new.out) c.in-Ok.ensures.followed.0 leads
          (subst (λ x. IsUpToDate a before after x) c.state.ensures.is wrote.shown) wrote.steps
          (wrote.all ∙ (λ i. grown now (moment_text (named i) k (record { action = a; before = before; after = c.state.ensures.is i })))),
      (let old_faults = c.loop-line.invariant.5 in let new_faults = wrote.faults_stay_or_rise in omega (arith, old_faults, new_faults)),
    )

pub returns-in_err-write_action-clause-halted : goal.returns-in_err-write_action-clause-halted
returns-in_err-write_action-clause-halted g c =
    let names = c.args.paths.now in
    let m = system_of c.args.sim.now.guarded in
    let start = c.args.sim.now.state in
    let all = script_lines c.args.script.now in
    let old = g.O.Sink.written c.args.out.now in
    let now = g.O.Sink.written c.loop-line.out in
    let s = c.loop-line.sim.state in
    let k = c.loop-line.lines.steps in
    let before = state_tree c.loop-line.lines.before in
    let so_far = subst (λ ls. Running names m start all c.loop-line.number old now s k before ls) c.in-Some.ensures.steps c.loop-line.invariant.4 in
    let next = c.follow_line.new.sim.state in
    let a = action_made c.in-Ok.made in
    let leads = subst (λ x. next_by (system_of x) s a ≡ Some next) c.loop-line.invariant.2 c.in-Ok.ensures.followed.1 in
    let named : names_in c.loop-line.lines.touches ≡ names = ap names_in c.loop-line.invariant.3 ∙ sym c.requires.names in
    let new = g.O.Sink.written c.write_action.new.out in
    let e = c.in_err-write_action.field-0.0 in
    let part = subst (λ n. GrewByPart (moment_text n k (record { action = a; before = before; after = next })) now new) named
    (subst (λ x. GrewByPart (moment_text (names_in c.loop-line.lines.touches) k (record { action = a; before = before; after = x })) now new) c.state.ensures.is c.in_err-write_action.ensures.part) in
    if-err c.from_residual.result (halt_of e) (HaltsIn (FirstStop names m start all) (text_left names m start 0 all) (writing old new (g.O.Sink.faults c.args.out.now) (g.O.Sink.faults c.write_action.new.out))) c.from_residual.ensures.1
    (halts-of (FirstStop names m start all) (text_left names m start 0 all) old new (g.O.Sink.faults c.args.out.now) (g.O.Sink.faults c.write_action.new.out) e
    (λ h. rose-later (g.O.Sink.faults c.args.out.now) (g.O.Sink.faults c.loop-line.out) (g.O.Sink.faults c.write_action.new.out) c.loop-line.invariant.5 (c.write_action.ensures.failed (c.in_err-write_action.was ∙ ap Err h)))
    (part-of-line names m start all old c.loop-line.number now s k before c.in-Some.line.now c.next.new.self so_far a next new c.in-Ok.ensures.followed.0 leads part))

pub returns-in_err-write_action-clause-faults_stay_or_rise : goal.returns-in_err-write_action-clause-faults_stay_or_rise
returns-in_err-write_action-clause-faults_stay_or_rise g c =
    let old_faults = c.loop-line.invariant.5 in
    let new_faults = c.write_action.ensures.faults_stay_or_rise in
    omega (arith, old_faults, new_faults)

pub returns-clause-ran : goal.returns-clause-ran
returns-clause-ran g c =
    let names = c.args.paths.now in
    let m = system_of c.args.sim.now.guarded in
    let start = c.args.sim.now.state in
    let all = script_lines c.args.script.now in
    let old = g.O.Sink.written c.args.out.now in
    let now = g.O.Sink.written c.loop-line.out in
    let s = c.loop-line.sim.state in
    let k = c.loop-line.lines.steps in
    let before = state_tree c.loop-line.lines.before in
    all-run names m start all old c.loop-line.number now s k before
    (subst (λ ls. Running names m start all c.loop-line.number old now s k before ls) c.in-None.ensures.steps.0 c.loop-line.invariant.4)

pub returns-clause-faults_stay_or_rise : goal.returns-clause-faults_stay_or_rise
returns-clause-faults_stay_or_rise g c = c.loop-line.invariant.5
