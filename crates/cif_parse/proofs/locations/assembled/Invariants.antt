use Rattle.std.proofs.Common.{◌≡◌}
use Rattle.std.specs.List.{list_any}
use Rattle.cif_parse.specs.Trees.{is_initial, markings_of, equations_of, edges_of}
use Rattle.cif_parse.proofs.locations.assembled.Given as goal

abbrev pub invariant-loop-element : goal.invariant-loop-element
invariant-loop-element l = record {
  initial : l.is_initial ≡ list_any is_initial l.yielded;
  marked : l.marked ≡ markings_of l.yielded;
  equations : l.equations ≡ equations_of l.yielded;
  edges : l.edges ≡ edges_of l.yielded;
}
