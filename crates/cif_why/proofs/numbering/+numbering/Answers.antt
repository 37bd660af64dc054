use Rattle.std.proofs.Common.{◌≡◌, ◌++◌, ◌∙◌, ap, false, map, of_z, subst, sym, to_z, w64}
use Rattle.std.specs.Prelude.{OnOk}
use Rattle.std.proofs.lemmas.Int.{to_z-of_z}
use Rattle.cif_net_expr.specs.Tree.{net_choose}
use Rattle.cif_net_expr.specs.View.{view_update, view_updates, view_update_branches}
use Rattle.cif_net_model.proofs.ValueLaws.{ap-two}
use Rattle.cif_value.specs.Settings.{told}
use Rattle.cif_eval.specs.Updates.{is_taken}
use Rattle.cif_eval.proofs.Taken.{view-choose}
use Rattle.cif_why.specs.Numbering.{numbered_by, numbered_tree}
use Rattle.cif_why.proofs.NumberLaws.{untaken-same}
use Rattle.cif_why.proofs.numbering.+numbering.Goals as goal

pub number_one-returns-else-branch : goal.number_one-returns-else-branch
number_one-returns-else-branch t c =
    let is : view_update c.args.update.now ≡ net_choose (view_update_branches c.as_slice-branches.result.now) (view_updates c.as_slice.result.now) =
    ap view_update c.in-If.is ∙ view-choose c.in-If.branches c.in-If.other ∙ ap-two net_choose (ap view_update_branches (sym c.as_slice-branches.ensures)) (ap view_updates (sym c.as_slice.ensures)) in
    let none : is_taken (told c.args.state.now (to_z w64 (of_z w64 c.args.received))) (view_update_branches c.as_slice-branches.result.now) ≡ false = sym c.in_ok-number_taken-in-If.ensures.taken ∙ c.if-branch.false in
    subst (λ ws. OnOk c.number_all.result (map numbered_tree c.number_all.new.found ≡ ws))
    (untaken-same (told c.args.state.now (to_z w64 (of_z w64 c.args.received))) c.args.first (view_update_branches c.as_slice-branches.result.now) (view_updates c.as_slice.result.now) (map numbered_tree c.args.found.now) (map numbered_tree c.number_taken.new.found)
    c.behind_branches-next.result none c.in_ok-number_taken-in-If.ensures.found c.behind_branches-next.ensures
    ∙ ap (λ r. map numbered_tree c.args.found.now ++ numbered_by (told c.args.state.now r) c.args.first (net_choose (view_update_branches c.as_slice-branches.result.now) (view_updates c.as_slice.result.now))) (to_z-of_z w64 c.args.received c.ranges.received)
    ∙ ap (λ u. map numbered_tree c.args.found.now ++ numbered_by (told c.args.state.now c.args.received) c.args.first u) (sym is))
    c.number_all.ensures
