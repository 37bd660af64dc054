use Rattle.std.proofs.Common.{◌≡◌, ◌<◌, ◌^◌, ◌++◌, ◌∙◌, ap, false, length, map, replicate, sym, subst}
use Rattle.std.specs.Prelude.{OnOk}
use Rattle.cif_net.specs.View.{choice_tree, net_tree, state_tree}
use Rattle.cif_why_model.specs.Reasons.{breaks}
use Rattle.cif_why.specs.Agreeing.{is_agreeing}
use Rattle.cif_why.specs.Breaking.{choices_falsified}
use Rattle.cif_why.specs.Lists.{each_from}
use Rattle.cif_why.specs.View.{reason_tree}
use Rattle.cif_why.proofs.BreakLaws.{breaks-told, few-broken}
use Rattle.cif_why.proofs.breaking.add_breaks.Goals as goal

pub add_broken-requires : goal.add_broken-requires
add_broken-requires c =
    subst (λ xs. length xs < 2 ^ 32)
    (sym (c.as_slice.ensures ∙ c.in_ok-broken.ensures ∙ ap (λ os. choices_falsified (is_agreeing os c.args.event) (net_tree c.args.guarded.now.plain.net) (state_tree c.args.state.now) (map choice_tree c.args.guarded.now.choices) (replicate (length c.args.guarded.now.plain.net.invariants) false)) c.requires.openings))
    (few-broken c.args.guarded.now (state_tree c.args.state.now) c.args.event c.requires.event c.requires.state)

pub returns : goal.returns
returns c =
    subst (λ rs. OnOk c.add_broken.result (map reason_tree c.add_broken.new.all ≡ map reason_tree c.args.all.now ++ rs))
    (ap (each_from breaks (λ k b. b) 0)
    (c.as_slice.ensures ∙ c.in_ok-broken.ensures ∙ ap (λ os. choices_falsified (is_agreeing os c.args.event) (net_tree c.args.guarded.now.plain.net) (state_tree c.args.state.now) (map choice_tree c.args.guarded.now.choices) (replicate (length c.args.guarded.now.plain.net.invariants) false)) c.requires.openings)
    ∙ breaks-told c.args.guarded.now (state_tree c.args.state.now) c.args.event c.requires.event c.requires.state)
    c.add_broken.ensures
