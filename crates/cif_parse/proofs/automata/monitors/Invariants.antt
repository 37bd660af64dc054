use Rattle.std.proofs.Common.{◌≡◌, ◌≤◌, ◌+◌, length, drop}
use Rattle.cif_parse.specs.Trees.{monitors_of}
use Rattle.cif_parse.proofs.automata.monitors.Given as goal

abbrev pub invariant-loop-element : goal.invariant-loop-element
invariant-loop-element l = record {
  same : length (monitors_of l.elements) ≡ l.count + length (monitors_of (drop l.element-index l.elements));
  small : l.count ≤ l.element-index;
}
