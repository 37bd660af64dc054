-- Each line leads from what is left to what is left behind it.
use Rattle.std.proofs.Common.{◌≡◌, Some, [], ◌++◌, refl, sym, ap, subst, ◌∙◌, arith}
use Rattle.cif_eval.specs.Choices.{system_of}
use Rattle.cif_sim_model.specs.Runs.{next_by}
use Rattle.cif_sim_model.specs.Script.{script_lines}
use Rattle.cif_sim_model.specs.Simulation.{Meets, moment_text, steps_after}
use Rattle.cif_sim_run.specs.Halts.{cause}
use Rattle.cif_sim_run.specs.Left.{Followed, names_in}
use Rattle.cif_sim_run.specs.Made.{action_made}
use Rattle.cif_sim_run.proofs.LineLaws.{at-end, at-start, at-stop, one-more}
use Rattle.cif_sim_run.proofs.Running.{few-lines}
use Rattle.cif_sim_run.proofs.following.follow_lines.Goals as goal

pub loop-line-init : goal.loop-line-init
loop-line-init c =
    let m = system_of c.args.sim.now.guarded in
    let s = c.args.sim.now.state in
    let all = script_lines c.args.script.now in (
      tt,
      tt,
      refl,
      (
        [],
        0,
        subst (λ ls. Followed c.args.paths.now m s 0 all 0 [] s 0 ls) (sym (c.into_iter-line-iterator.ensures.into_iter_gives ∙ c.script_lines-line-items.ensures))
            (at-start c.args.paths.now m s 0 all),
      ),
    )

pub overflow_add-number : goal.overflow_add-number
overflow_add-number c =
    let counted = c.loop-line.invariant.3.2.counted in
    let few = few-lines c.args.script.now in
    let short = c.requires.short in
    omega (arith, counted, few, short)

pub follow_line-requires : goal.follow_line-requires
follow_line-requires c = c.requires.names ∙ ap names_in (sym c.loop-line.invariant.2)

pub returns-in-Err-clause-net : goal.returns-in-Err-clause-net
returns-in-Err-clause-net c = c.in-Err.ensures.net ∙ c.loop-line.invariant.2

pub returns-in-Err-clause-halted : goal.returns-in-Err-clause-halted
returns-in-Err-clause-halted c =
    let names = c.args.paths.now in
    let m = system_of c.args.sim.now.guarded in
    let all = script_lines c.args.script.now in
    let so_far = c.loop-line.invariant.3 in
    let s = c.loop-line.sim.state in
    let line = c.in-Some.line.now in
    let met = subst (λ g. Meets names (system_of g) s line (cause c.in-Err.why)) c.loop-line.invariant.2 c.in-Err.ensures.met in
    (at-stop names m c.args.sim.now.state 0 all c.loop-line.number so_far.0 s so_far.1 line c.next.new.self (cause c.in-Err.why) met
    (subst (λ ls. Followed names m c.args.sim.now.state 0 all c.loop-line.number so_far.0 s so_far.1 ls) c.in-Some.ensures.steps so_far.2)).stop

pub loop-line-preserved : goal.loop-line-preserved
loop-line-preserved c =
    let names = c.args.paths.now in
    let m = system_of c.args.sim.now.guarded in
    let all = script_lines c.args.script.now in
    let so_far = c.loop-line.invariant.3 in
    let s = c.loop-line.sim.state in
    let next = c.follow_line.new.sim.state in
    let line = c.in-Some.line.now in
    let a = action_made c.in-Ok.field-0 in
    let leads = subst (λ g. next_by (system_of g) s a ≡ Some next) c.loop-line.invariant.2 c.in-Ok.ensures.followed.1 in (
      tt,
      tt,
      c.in-Ok.ensures.net ∙ c.loop-line.invariant.2,
      (
        so_far.0 ++ moment_text names so_far.1 (record { action = a; before = s; after = next }),
        steps_after so_far.1 a,
        one-more names m c.args.sim.now.state 0 all c.loop-line.number so_far.0 s next so_far.1 line c.next.new.self a c.in-Ok.ensures.followed.0 leads
            (subst (λ ls. Followed names m c.args.sim.now.state 0 all c.loop-line.number so_far.0 s so_far.1 ls) c.in-Some.ensures.steps so_far.2),
      ),
    )

pub returns-clause-net : goal.returns-clause-net
returns-clause-net c = c.loop-line.invariant.2

pub returns-clause-ran : goal.returns-clause-ran
returns-clause-ran c =
    let names = c.args.paths.now in
    let m = system_of c.args.sim.now.guarded in
    let all = script_lines c.args.script.now in
    let so_far = c.loop-line.invariant.3 in
    let s = c.loop-line.sim.state in
    let at = at-end names m c.args.sim.now.state 0 all c.loop-line.number so_far.0 s so_far.1
    (subst (λ ls. Followed names m c.args.sim.now.state 0 all c.loop-line.number so_far.0 s so_far.1 ls) c.in-None.ensures.steps.0 so_far.2) in
    (at.runs, sym at.state)
