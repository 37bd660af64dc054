use Rattle.std.proofs.Common.{◌≡◌, drop, map, pos}
use Rattle.cif_net.specs.View.{invariant_tree}
use Rattle.cif_value.specs.Settings.{told}
use Rattle.cif_why.specs.Breaking.{AreSafePreds, falsified}
use Rattle.cif_why.proofs.breaking.falsify.Given as goal

abbrev pub invariant-loop-number : goal.invariant-loop-number
invariant-loop-number l = record {
  marks : falsified (told l.state (pos 0)) l.number (map invariant_tree (drop l.number l.invariants)) l.marks ≡ falsified (told l.state (pos 0)) 0 (map invariant_tree l.invariants) l.initial.marks;
  safe : AreSafePreds (told l.state (pos 0)) (map invariant_tree (drop l.number l.invariants));
}
