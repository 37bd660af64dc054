use Rattle.std.proofs.Common.{◌≡◌, drop}
use Rattle.cif_inst_constants.specs.Nodes.{filled, node_in}
use Rattle.cif_inst_constants.proofs.filling.fill.Given as goal

abbrev pub invariant-loop-number : goal.invariant-loop-number
invariant-loop-number l = filled l.scopes l.numbers (node_in l.constants) l.values (drop l.number-index l.order) ≡ filled l.scopes l.numbers (node_in l.constants) l.fn.zeros l.order
