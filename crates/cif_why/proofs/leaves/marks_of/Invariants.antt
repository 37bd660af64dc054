use Rattle.std.proofs.Common.{◌≡◌, drop, map}
use Rattle.cif_net.specs.View.{auto_tree, choice_tree, net_tree, state_tree}
use Rattle.cif_why.specs.Agreeing.{is_agreeing}
use Rattle.cif_why.specs.Leaving.{choices_marked}
use Rattle.cif_why.specs.Marks.{unmarked}
use Rattle.cif_why.proofs.leaves.marks_of.Given as goal

abbrev pub invariant-loop-choice : goal.invariant-loop-choice
invariant-loop-choice l =
    choices_marked (is_agreeing l.openings l.event) (net_tree l.guarded.plain.net) (state_tree l.state) (map choice_tree (drop l.choice-index l.choices)) l.marks
    ≡ choices_marked (is_agreeing l.openings l.event) (net_tree l.guarded.plain.net) (state_tree l.state) (map choice_tree l.choices) (unmarked (map auto_tree l.guarded.plain.net.autos))
