use Rattle.std.proofs.Common.{◌≡◌, drop, map}
use Rattle.std.specs.List.{list_any}
use Rattle.cif_net_model.specs.Listing.{full_choices}
use Rattle.cif_net.specs.View.{choice_tree, net_tree, state_tree}
use Rattle.cif_eval.specs.Choices.{system_of}
use Rattle.cif_eval.specs.Working.{IsScratchOf}
use Rattle.cif_why.specs.Stepping.{makes}
use Rattle.cif_why.proofs.stepping.some_enabled.Given as goal

abbrev pub invariant-loop-choice : goal.invariant-loop-choice
invariant-loop-choice l = record {
  some :
      list_any (makes (system_of l.guarded) (state_tree l.state) l.event) (drop l.choice (full_choices (net_tree l.guarded.plain.net) (map choice_tree l.guarded.choices)))
      ≡ list_any (makes (system_of l.guarded) (state_tree l.state) l.event) (full_choices (net_tree l.guarded.plain.net) (map choice_tree l.guarded.choices));
  scratch : IsScratchOf l.guarded l.scratch;
}
