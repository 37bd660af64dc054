use Rattle.std.proofs.Common.{◌≡◌, map, drop}
use Rattle.cif_net.specs.View.{auto_tree}
use Rattle.cif_lin.specs.Parties.{cell_tree}
use Rattle.cif_lin.specs.Drafts.{draft_tree, nothing_made, with_cells}
use Rattle.cif_lin.proofs.choosing.drafted.Given as goal

abbrev pub invariant-loop-party : goal.invariant-loop-party
invariant-loop-party l =
    with_cells (map auto_tree l.net.autos) (map cell_tree (drop l.party-index l.parties)) (draft_tree l.draft) l.left l.rest
    ≡ with_cells (map auto_tree l.net.autos) (map cell_tree l.parties) nothing_made l.count l.number
