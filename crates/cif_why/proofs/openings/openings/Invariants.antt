use Rattle.std.proofs.Common.{◌≡◌, ◌++◌, pos, drop, map}
use Rattle.cif_net.specs.View.{auto_tree}
use Rattle.cif_value.specs.Settings.{told}
use Rattle.cif_why.specs.Openings.{openings_from}
use Rattle.cif_why.specs.Parties.{AreSafeAutos}
use Rattle.cif_why.proofs.openings.openings.Given as goal

abbrev pub invariant-loop-number : goal.invariant-loop-number
invariant-loop-number l = record {
  all : l.all ++ openings_from (told l.state (pos 0)) l.event l.number (map auto_tree (drop l.number l.autos)) ≡ openings_from (told l.state (pos 0)) l.event 0 (map auto_tree l.autos);
  safe : AreSafeAutos (told l.state (pos 0)) (map auto_tree (drop l.number l.autos));
}
