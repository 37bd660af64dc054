use Rattle.std.proofs.Common.{◌≡◌, drop, false, length, map, replicate}
use Rattle.cif_net.specs.View.{choice_tree, net_tree, state_tree}
use Rattle.cif_why.specs.Agreeing.{is_agreeing}
use Rattle.cif_why.specs.Breaking.{choices_falsified}
use Rattle.cif_why.proofs.breaking.broken.Given as goal

abbrev pub invariant-loop-choice : goal.invariant-loop-choice
invariant-loop-choice l = record {
  marks :
      choices_falsified (is_agreeing l.openings l.event) (net_tree l.guarded.plain.net) (state_tree l.state) (map choice_tree (drop l.choice-index l.choices)) l.marks
      ≡ choices_falsified (is_agreeing l.openings l.event) (net_tree l.guarded.plain.net) (state_tree l.state) (map choice_tree l.choices) (replicate (length l.guarded.plain.net.invariants) false);
  next : state_tree l.next ≡ state_tree l.state;
}
