-- The steps stand behind the start line.
use Rattle.std.proofs.Common.{◌≡◌, sym, ap, subst, ◌∙◌}
use Rattle.cif_eval.specs.Choices.{system_of}
use Rattle.cif_io.specs.Written.{grown}
use Rattle.cif_net.specs.View.{state_tree}
use Rattle.cif_system.specs.System.{initial}
use Rattle.cif_sim_model.specs.Texts.{start_line}
use Rattle.cif_sim_run.specs.Halts.{GrewByPart}
use Rattle.cif_sim_run.specs.Left.{IsSized, first_left, names_in}
use Rattle.cif_sim_run.proofs.FirstLaws.{whole-first}
use Rattle.cif_sim_run.proofs.Growing.{part-after, part-of-first, whole-behind}
use Rattle.cif_sim_run.proofs.Halting.{err-kept, on-err, on-ok, rose-later}
use Rattle.cif_sim_run.proofs.Sizes.{initial-sized}
use Rattle.cif_sim_run.proofs.first.run_first.Goals as goal

pub returns-in_err-write_start-clause-part : goal.returns-in_err-write_start-clause-part
returns-in_err-write_start-clause-part g c =
    let net = c.args.guarded.now in
    let names = names_in net in
    let m = system_of net in
    let old = g.O.Sink.written c.args.out.now in
    let new = g.O.Sink.written c.write_start.new.out in
    let made = c.in-Ok-new.ensures in
    let first : start_line (names_in c.in-Ok-new.lines.touches) (state_tree c.in-Ok-new.lines.before) ≡ start_line names (initial m) = (λ i. start_line (names_in (made.net i)) (made.start i)) in
    err-kept c.from_residual.result _
    (subst (λ t. GrewByPart t old new) (sym (whole-first m names c.args.steps))
    (part-of-first (start_line names (initial m)) (first_left names m (initial m) 0 c.args.steps) old new (subst (λ t. GrewByPart t old new) first c.in_err-write_start.ensures.part)))

pub make_steps-requires-clause-net : goal.make_steps-requires-clause-net
make_steps-requires-clause-net g c = ap (λ w. w.touches) c.write_start.ensures.kept ∙ c.in-Ok-new.ensures.net ∙ sym c.in-Ok.ensures.net

pub make_steps-requires-clause-start : goal.make_steps-requires-clause-start
make_steps-requires-clause-start g c = ap (λ w. w.steps) c.write_start.ensures.kept ∙ c.in-Ok-new.ensures.steps

pub make_steps-requires-clause-shown : goal.make_steps-requires-clause-shown
make_steps-requires-clause-shown g c =
    let same : state_tree c.write_start.new.self.before ≡ c.in-Ok.sim.state = ap (λ w. state_tree w.before) c.write_start.ensures.kept ∙ c.in-Ok-new.ensures.start ∙ sym c.in-Ok.ensures.start in
    (ap (λ s. s.locs) same, ap (λ s. s.vals) same)

pub make_steps-requires-clause-sized : goal.make_steps-requires-clause-sized
make_steps-requires-clause-sized g c =
    subst (λ s. IsSized (system_of c.in-Ok.sim.guarded) s) (sym c.in-Ok.ensures.start)
    (subst (λ x. IsSized (system_of x) (initial (system_of c.args.guarded.now))) (sym c.in-Ok.ensures.net) (initial-sized (system_of c.args.guarded.now)))

pub returns-clause-ran : goal.returns-clause-ran
returns-clause-ran g c =
    let net = c.args.guarded.now in
    let names = names_in net in
    let m = system_of net in
    let old = g.O.Sink.written c.args.out.now in
    let now = g.O.Sink.written c.write_start.new.out in
    let new = g.O.Sink.written c.make_steps.new.out in
    let made = c.in-Ok-new.ensures in
    let begun = c.in-Ok.ensures in
    let first : start_line (names_in c.in-Ok-new.lines.touches) (state_tree c.in-Ok-new.lines.before) ≡ start_line names (initial m) = (λ i. start_line (names_in (made.net i)) (made.start i)) in
    let rest : first_left (names_in c.in-Ok.sim.guarded) (system_of c.in-Ok.sim.guarded) c.in-Ok.sim.state 0 c.args.steps ≡ first_left names m (initial m) 0 c.args.steps
    = (λ i. first_left (names_in (begun.net i)) (system_of (begun.net i)) (begun.start i) 0 c.args.steps) in
    on-ok c.make_steps.result _ _
    (λ h. whole-behind (start_line names (initial m)) (first_left names m (initial m) 0 c.args.steps) old now new (c.in_ok-write_start.ensures.all ∙ ap (grown old) first) (h ∙ ap (grown now) rest)
    ∙ ap (grown old) (sym (whole-first m names c.args.steps))) c.make_steps.ensures.ran

pub returns-clause-part : goal.returns-clause-part
returns-clause-part g c =
    let net = c.args.guarded.now in
    let names = names_in net in
    let m = system_of net in
    let old = g.O.Sink.written c.args.out.now in
    let now = g.O.Sink.written c.write_start.new.out in
    let new = g.O.Sink.written c.make_steps.new.out in
    let made = c.in-Ok-new.ensures in
    let begun = c.in-Ok.ensures in
    let first : start_line (names_in c.in-Ok-new.lines.touches) (state_tree c.in-Ok-new.lines.before) ≡ start_line names (initial m) = (λ i. start_line (names_in (made.net i)) (made.start i)) in
    let rest : first_left (names_in c.in-Ok.sim.guarded) (system_of c.in-Ok.sim.guarded) c.in-Ok.sim.state 0 c.args.steps ≡ first_left names m (initial m) 0 c.args.steps
    = (λ i. first_left (names_in (begun.net i)) (system_of (begun.net i)) (begun.start i) 0 c.args.steps) in
    on-err c.make_steps.result _ _
    (λ e h. subst (λ t. GrewByPart t old new) (sym (whole-first m names c.args.steps))
    (part-after (start_line names (initial m)) (first_left names m (initial m) 0 c.args.steps) old now new (c.in_ok-write_start.ensures.all ∙ ap (grown old) first)
    (subst (λ t. GrewByPart t now new) rest h))) c.make_steps.ensures.part

pub returns-clause-failed : goal.returns-clause-failed
returns-clause-failed g c = λ h. rose-later _ _ _ c.write_start.ensures.faults_stay_or_rise (c.make_steps.ensures.failed h)
