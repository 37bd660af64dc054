use Rattle.std.proofs.Common.{◌≡◌, ◌<◌, ◌^◌, ◌++◌, ◌∙◌, ap, length, map, sym, subst}
use Rattle.std.specs.Prelude.{OnOk}
use Rattle.std.specs.List.{AllByRecursion}
use Rattle.cif_net.specs.View.{auto_tree, choice_tree, net_tree, state_tree}
use Rattle.cif_why.specs.Agreeing.{is_agreeing}
use Rattle.cif_why.specs.Leaving.{choices_marked}
use Rattle.cif_why.specs.Marked.{AreFewRows, marks_told}
use Rattle.cif_why.specs.Marks.{unmarked}
use Rattle.cif_why.specs.View.{reason_tree}
use Rattle.cif_why.proofs.LeavesLaws.{few-marks, few-rows, leaves-told}
use Rattle.cif_why.proofs.leaves.add_leaves.Goals as goal

pub add_marked-requires-clause-few : goal.add_marked-requires-clause-few
add_marked-requires-clause-few c =
    subst (λ xs. length xs < 2 ^ 32)
    (sym (c.as_slice.ensures ∙ c.in_ok-marks.ensures ∙ ap (λ os. choices_marked (is_agreeing os c.args.event) (net_tree c.args.guarded.now.plain.net) (state_tree c.args.state.now) (map choice_tree c.args.guarded.now.choices) (unmarked (map auto_tree c.args.guarded.now.plain.net.autos))) c.requires.openings))
    (few-marks c.args.guarded.now (state_tree c.args.state.now) c.args.event c.requires.event c.requires.state)

pub add_marked-requires-clause-rows : goal.add_marked-requires-clause-rows
add_marked-requires-clause-rows c =
    subst (AllByRecursion AreFewRows)
    (sym (c.as_slice.ensures ∙ c.in_ok-marks.ensures ∙ ap (λ os. choices_marked (is_agreeing os c.args.event) (net_tree c.args.guarded.now.plain.net) (state_tree c.args.state.now) (map choice_tree c.args.guarded.now.choices) (unmarked (map auto_tree c.args.guarded.now.plain.net.autos))) c.requires.openings))
    (few-rows c.args.guarded.now (state_tree c.args.state.now) c.args.event c.requires.event c.requires.state)

pub returns : goal.returns
returns c =
    subst (λ rs. OnOk c.add_marked.result (map reason_tree c.add_marked.new.all ≡ map reason_tree c.args.all.now ++ rs))
    (ap (marks_told 0)
    (c.as_slice.ensures ∙ c.in_ok-marks.ensures ∙ ap (λ os. choices_marked (is_agreeing os c.args.event) (net_tree c.args.guarded.now.plain.net) (state_tree c.args.state.now) (map choice_tree c.args.guarded.now.choices) (unmarked (map auto_tree c.args.guarded.now.plain.net.autos))) c.requires.openings)
    ∙ leaves-told c.args.guarded.now (state_tree c.args.state.now) c.args.event c.requires.event c.requires.state)
    c.add_marked.ensures
