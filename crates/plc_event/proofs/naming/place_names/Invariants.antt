use Rattle.std.proofs.Common.{◌≡◌, ◌++◌, map, drop}
use Rattle.std.specs.List.{enumerate_from}
use Rattle.cif_net.specs.View.{auto_tree}
use Rattle.plc_event.specs.Names.{place_text}
use Rattle.plc_event.proofs.naming.place_names.Given as goal

-- what is done, and what is left, are all names
abbrev pub invariant-loop-at : goal.invariant-loop-at
invariant-loop-at l = l.all ++ map place_text (enumerate_from l.at (map auto_tree (drop l.at l.autos))) ≡ map place_text (enumerate_from 0 (map auto_tree l.autos))
