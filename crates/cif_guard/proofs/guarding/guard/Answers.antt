use Rattle.std.proofs.Common.{map, ◌∙◌}
use Rattle.cif_net.specs.View.{choice_tree}
use Rattle.cif_guard.proofs.GuardLaws.{guarded_are}
use Rattle.cif_guard.proofs.guarding.guard.Goals as goal

pub invariant_of-result : goal.invariant_of-result
invariant_of-result c = record { listed = ∣ c.in_ok-choices.ensures ∙ guarded_are c.args.plain (map choice_tree c.args.linear.choices) c.requires ∣₁ }
