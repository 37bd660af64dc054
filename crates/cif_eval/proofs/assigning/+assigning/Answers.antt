use Rattle.std.proofs.Common.{◌≡◌, false, true, ◌∷◌, [], ◌++◌, ◌∙◌, ap, sym, to_z, of_z, w64, arith}
use Rattle.std.proofs.lemmas.Int.{to_z-of_z}
use Rattle.cif_net_expr.specs.Tree.{net_set, net_choose}
use Rattle.cif_net_expr.specs.View.{view, view_update, view_updates, view_update_branches}
use Rattle.cif_net.specs.View.{state_tree}
use Rattle.cif_net_model.proofs.ValueLaws.{ap-two}
use Rattle.cif_net_model.specs.Safe.{value_at}
use Rattle.cif_value.specs.Settings.{told}
use Rattle.cif_eval.specs.Writes.{assigned_by}
use Rattle.cif_eval.proofs.Taken.{pairs-taken, pairs-untaken, view-choose, view-set}
use Rattle.cif_eval.proofs.assigning.+assigning.Goals as goal

pub assign_one-returns-in-Set-clause-pairs : goal.assign_one-returns-in-Set-clause-pairs
assign_one-returns-in-Set-clause-pairs t c =
    let is : view_update c.args.update.now ≡ net_set c.in-Set.var (view c.in-Set.value) = ap view_update c.in-Set.is ∙ view-set c.in-Set.var c.in-Set.value in
    c.assign_value.ensures.pairs
    ∙ ap (λ r. c.args.pairs.now.pairs ++ (c.in-Set.var, value_at (told c.args.state.now r) (view c.in-Set.value)) ∷ []) (to_z-of_z w64 c.args.received c.ranges.received)
    ∙ ap (λ u. c.args.pairs.now.pairs ++ assigned_by (state_tree c.args.state.now) c.args.received u) (sym is)

pub assign_one-returns-then-not-assign_taken-clause-pairs : goal.assign_one-returns-then-not-assign_taken-clause-pairs
assign_one-returns-then-not-assign_taken-clause-pairs t c =
    let is : view_update c.args.update.now ≡ net_choose (view_update_branches c.as_slice.result.now) (view_updates c.as_slice-then-not-assign_taken.result.now) =
    ap view_update c.in-If.is ∙ view-choose c.in-If.branches c.in-If.other ∙ ap-two net_choose (ap view_update_branches (sym c.as_slice.ensures)) (ap view_updates (sym c.as_slice-then-not-assign_taken.ensures)) in
    let none : c.assign_taken.result ≡ false = grind (arith, c.if-not-assign_taken.true) in
    pairs-untaken (state_tree c.args.state.now) (to_z w64 (of_z w64 c.args.received)) c.args.pairs.now.pairs (view_update_branches c.as_slice.result.now) (view_updates c.as_slice-then-not-assign_taken.result.now) c.assign_taken.new.pairs.pairs
    c.assign_all.new.pairs.pairs (sym c.assign_taken.ensures.taken ∙ none) c.assign_taken.ensures.pairs c.assign_all.ensures.pairs
    ∙ ap (λ r. c.args.pairs.now.pairs ++ assigned_by (state_tree c.args.state.now) r (net_choose (view_update_branches c.as_slice.result.now) (view_updates c.as_slice-then-not-assign_taken.result.now)))
    (to_z-of_z w64 c.args.received c.ranges.received)
    ∙ ap (λ u. c.args.pairs.now.pairs ++ assigned_by (state_tree c.args.state.now) c.args.received u) (sym is)

pub assign_one-returns-else-not-assign_taken-clause-pairs : goal.assign_one-returns-else-not-assign_taken-clause-pairs
assign_one-returns-else-not-assign_taken-clause-pairs t c =
    let is : view_update c.args.update.now ≡ net_choose (view_update_branches c.as_slice.result.now) (view_updates c.in-If.other) =
    ap view_update c.in-If.is ∙ view-choose c.in-If.branches c.in-If.other ∙ ap (λ bs. net_choose bs (view_updates c.in-If.other)) (ap view_update_branches (sym c.as_slice.ensures)) in
    let some : c.assign_taken.result ≡ true = grind (arith, c.if-not-assign_taken.false) in
    pairs-taken (state_tree c.args.state.now) (to_z w64 (of_z w64 c.args.received)) c.args.pairs.now.pairs (view_update_branches c.as_slice.result.now) (view_updates c.in-If.other) c.assign_taken.new.pairs.pairs
    (sym c.assign_taken.ensures.taken ∙ some) c.assign_taken.ensures.pairs
    ∙ ap (λ r. c.args.pairs.now.pairs ++ assigned_by (state_tree c.args.state.now) r (net_choose (view_update_branches c.as_slice.result.now) (view_updates c.in-If.other))) (to_z-of_z w64 c.args.received c.ranges.received)
    ∙ ap (λ u. c.args.pairs.now.pairs ++ assigned_by (state_tree c.args.state.now) c.args.received u) (sym is)
