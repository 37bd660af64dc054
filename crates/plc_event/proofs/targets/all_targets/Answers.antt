use Rattle.std.proofs.Common.{◌++◌, List, ℕ, map, drop, flat_map, ap, sym, ◌+◌, ◌∙◌}
use Rattle.std.proofs.lemmas.List.{append_assoc}
use Rattle.cif_net_expr.specs.View.{view_updates}
use Rattle.cif_net_expr.specs.declared.updates.NetUpdate.{NetUpdate}
use Rattle.cif_net_model.specs.Exprs.{targets}
use Rattle.cif_net_model.specs.Listing.{NetChoice}
use Rattle.cif_net.specs.View.{choice_tree}
use Rattle.cif_net.specs.declared.listing.Choice.{Choice}
use Rattle.plc_expr_walk.proofs.Joining.{drop-item}
use Rattle.plc_event.proofs.Assigning.{assigned_are}
use Rattle.plc_event.proofs.targets.all_targets.Goals as goal

pub loop-choice-preserved : goal.loop-choice-preserved
loop-choice-preserved c =
    let all : List NetChoice → List ℕ = flat_map (λ (d : NetChoice). targets d.writes) in
    let rest = all (map choice_tree (drop (c.loop-choice.choice-index + 1) c.args.choices.now)) in
    ap (λ xs. xs ++ rest) (c.in_ok-add_targets.ensures ∙ ap (λ xs. c.loop-choice.all ++ xs) (assigned_are (view_updates c.as_slice.result.now) ∙ ap (λ (us : List NetUpdate). targets (view_updates us)) c.as_slice.ensures))
    ∙ append_assoc c.loop-choice.all (targets (view_updates c.choice-item.result.writes)) rest
    ∙ ap (λ (xs : List Choice). c.loop-choice.all ++ all (map choice_tree xs)) (sym (drop-item c.args.choices.now c.loop-choice.choice-index c.choice-item.result c.loop-choice-test.true c.choice-item.is))
    ∙ c.loop-choice.invariant
