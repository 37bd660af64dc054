use Rattle.std.proofs.Common.{◌≡◌, pos, drop, map}
use Rattle.cif_net.specs.View.{auto_tree, role_of}
use Rattle.cif_value.specs.Settings.{told}
use Rattle.cif_why.specs.Parties.{AreSafeAutos, some_can}
use Rattle.cif_why.proofs.parties.some_can.Given as goal

abbrev pub invariant-loop-number : goal.invariant-loop-number
invariant-loop-number l = record {
  some : some_can (told l.state (pos 0)) (role_of l.role) l.event l.number (map auto_tree (drop l.number l.autos)) ≡ some_can (told l.state (pos 0)) (role_of l.role) l.event 0 (map auto_tree l.autos);
  safe : AreSafeAutos (told l.state (pos 0)) (map auto_tree (drop l.number l.autos));
}
