use Rattle.std.proofs.Common.{◌≡◌, ◌<◌, length, subst, sym}
use Rattle.std.specs.Prelude.{IfSome, option_map}
use Rattle.cif_system.specs.Choices.{first_step}
use Rattle.cif_net.specs.View.{state_tree}
use Rattle.cif_net.specs.declared.guarded.Guarded.{Guarded}
use Rattle.cif_eval.specs.Choices.{choice_at, system_of}
use Rattle.cif_sim.specs.Tried.{Makes, after_at}
use Rattle.cif_sim.proofs.Stepped.{ends-inside, leads-to, makes-one, of-one-event}
use Rattle.cif_sim.proofs.stepper.Stepper.choice.Goals as goal

pub first_choice-requires-clause-listed : goal.first_choice-requires-clause-listed
first_choice-requires-clause-listed c =
    let x = c.self.inside in
    let inside : c.args.event < length x.guarded.now.plain.net.events = subst (λ (g : Guarded). c.args.event < length g.plain.net.events) (sym c.self.view_is) c.requires.event in
    ends-inside x.guarded.now x.events x.starts x.scratch c.self.invariant c.as_slice-starts.result.now c.as_slice-starts.ensures c.args.event inside

pub returns-clause-first : goal.returns-clause-first
returns-clause-first c =
    let x = c.self.inside in
    let inside : c.args.event < length x.guarded.now.plain.net.events = subst (λ (g : Guarded). c.args.event < length g.plain.net.events) (sym c.self.view_is) c.requires.event in
    subst (λ (g : Guarded). option_map (after_at g (state_tree c.args.state.now)) c.first_choice.result ≡ first_step (system_of g) (state_tree c.args.state.now) c.args.event) c.self.view_is
    (leads-to x.guarded.now x.events x.starts x.scratch c.self.invariant c.as_slice-starts.result.now c.as_slice-starts.ensures c.args.event inside (state_tree c.args.state.now) c.first_choice.result c.first_choice.ensures.first)

pub returns-clause-makes : goal.returns-clause-makes
returns-clause-makes c =
    let x = c.self.inside in
    let inside : c.args.event < length x.guarded.now.plain.net.events = subst (λ (g : Guarded). c.args.event < length g.plain.net.events) (sym c.self.view_is) c.requires.event in
    subst (λ (g : Guarded). IfSome c.first_choice.result (Makes g (state_tree c.args.state.now))) c.self.view_is
    (makes-one x.guarded.now x.events x.starts x.scratch c.self.invariant c.as_slice-starts.result.now c.as_slice-starts.ensures c.args.event inside (state_tree c.args.state.now) c.first_choice.result c.first_choice.ensures.first)

pub returns-clause-of_event : goal.returns-clause-of_event
returns-clause-of_event c =
    let x = c.self.inside in
    let inside : c.args.event < length x.guarded.now.plain.net.events = subst (λ (g : Guarded). c.args.event < length g.plain.net.events) (sym c.self.view_is) c.requires.event in
    subst (λ (g : Guarded). IfSome c.first_choice.result (λ k. (choice_at g k).0 ≡ c.args.event)) c.self.view_is
    (of-one-event x.guarded.now x.events x.starts x.scratch c.self.invariant c.as_slice-starts.result.now c.as_slice-starts.ensures c.args.event inside (state_tree c.args.state.now) c.first_choice.result c.first_choice.ensures.first)
