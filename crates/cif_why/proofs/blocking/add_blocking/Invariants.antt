use Rattle.std.proofs.Common.{◌≡◌, ◌++◌, pos, drop, map}
use Rattle.cif_why_model.specs.Reasons.{blocks}
use Rattle.cif_net.specs.View.{auto_tree}
use Rattle.cif_value.specs.Settings.{told}
use Rattle.cif_why.specs.Lists.{each_from}
use Rattle.cif_why.specs.Parties.{AreSafeAutos, is_blocked}
use Rattle.cif_why.specs.View.{reason_tree}
use Rattle.cif_why.proofs.blocking.add_blocking.Given as goal

abbrev pub invariant-loop-number : goal.invariant-loop-number
invariant-loop-number l = record {
  all : map reason_tree l.all ++ each_from blocks (is_blocked (told l.state (pos 0)) l.event) l.number (map auto_tree (drop l.number l.autos)) ≡ map reason_tree l.initial.all ++ each_from blocks (is_blocked (told l.state (pos 0)) l.event) 0 (map auto_tree l.autos);
  safe : AreSafeAutos (told l.state (pos 0)) (map auto_tree (drop l.number l.autos));
}
