use Rattle.std.proofs.Common.{◌≡◌}
use Rattle.cif_inst_components.specs.Kids.{kids_to}
use Rattle.cif_inst_components.proofs.kids.kids_of.Given as goal

abbrev pub invariant-loop-slot : goal.invariant-loop-slot
invariant-loop-slot l = l.found ≡ kids_to l.scopes l.body l.slot
