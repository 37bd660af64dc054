use Rattle.std.proofs.Common.{◌≡◌, ℕ, ◌<◌, Some}
use Rattle.std.specs.Prelude.{slice_get}
use Rattle.std.specs.List.{AllByRecursion}
use Rattle.cif_net.specs.View.{choice_tree}
use Rattle.cif_net.specs.declared.listing.Choice.{Choice}
use Rattle.cif_sim.specs.Names.{choice_reads}
use Rattle.cif_sim.specs.Readers.{IsReadAt, Keeps}
use Rattle.cif_sim.proofs.readers.add_choices.Given as goal

abbrev pub invariant-loop-choice : goal.invariant-loop-choice
invariant-loop-choice l = record {
  added : (k : ℕ) (c : Choice) → k < l.choice-index → slice_get l.choices k ≡ Some c → AllByRecursion (IsReadAt l.readers c.event) (choice_reads (choice_tree c));
  kept : Keeps l.initial.readers l.readers;
}
