use Rattle.std.proofs.Common.{◌≡◌, ℕ, ◌<◌, Some}
use Rattle.std.specs.Prelude.{slice_get}
use Rattle.cif_sim.specs.Names.{name_read}
use Rattle.cif_sim.specs.Readers.{IsReadAt, Keeps}
use Rattle.cif_sim.specs.declared.names.Name.{Name}
use Rattle.cif_sim.proofs.readers.add_names_of.Given as goal

abbrev pub invariant-loop-name : goal.invariant-loop-name
invariant-loop-name l = record {
  added : (k : ℕ) (x : Name) → k < l.name-index → slice_get l.names k ≡ Some x → IsReadAt l.readers l.event (name_read x);
  kept : Keeps l.initial.readers l.readers;
}
