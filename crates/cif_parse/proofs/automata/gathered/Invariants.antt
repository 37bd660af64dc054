use Rattle.std.proofs.Common.{◌≡◌, None}
use Rattle.std.specs.List.{last_or}
use Rattle.cif_parse.specs.Trees.{declarations_of, alphabets_of, monitors_of}
use Rattle.cif_parse.proofs.automata.gathered.Given as goal

abbrev pub invariant-loop-element : goal.invariant-loop-element
invariant-loop-element l = record {
  decls : l.decls ≡ declarations_of l.yielded;
  alphabet : l.alphabet ≡ last_or None (alphabets_of l.yielded);
  monitor : l.monitor ≡ last_or None (monitors_of l.yielded);
}
