use Rattle.std.proofs.Common.{◌≡◌, ◌++◌, pos, drop, map}
use Rattle.cif_why_model.specs.Reasons.{excluded}
use Rattle.cif_net.specs.View.{exclusion_tree}
use Rattle.cif_value.specs.Settings.{told}
use Rattle.cif_why.specs.Lists.{each_from}
use Rattle.cif_why.specs.Parties.{AreSafeExclusions, is_forbidden}
use Rattle.cif_why.specs.View.{reason_tree}
use Rattle.cif_why.proofs.excluding.add_excluding.Given as goal

abbrev pub invariant-loop-number : goal.invariant-loop-number
invariant-loop-number l = record {
  all : map reason_tree l.all ++ each_from excluded (λ k. is_forbidden (told l.state (pos 0)) l.event) l.number (map exclusion_tree (drop l.number l.exclusions)) ≡ map reason_tree l.initial.all ++ each_from excluded (λ k. is_forbidden (told l.state (pos 0)) l.event) 0 (map exclusion_tree l.exclusions);
  safe : AreSafeExclusions (told l.state (pos 0)) (map exclusion_tree (drop l.number l.exclusions));
}
