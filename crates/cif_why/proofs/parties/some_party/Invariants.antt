use Rattle.std.proofs.Common.{◌≡◌, drop, map}
use Rattle.std.specs.List.{list_any}
use Rattle.cif_net.specs.View.{auto_tree}
use Rattle.cif_why.specs.Parties.{takes_part}
use Rattle.cif_why.proofs.parties.some_party.Given as goal

abbrev pub invariant-loop-auto : goal.invariant-loop-auto
invariant-loop-auto l = list_any (takes_part l.event) (map auto_tree (drop l.auto-index l.autos)) ≡ list_any (takes_part l.event) (map auto_tree l.autos)
