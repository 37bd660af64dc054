use Rattle.std.proofs.Common.{◌≡◌, ◌++◌, map, drop}
use Rattle.cif_inst_constants.specs.Nodes.{node_of, node_needs}
use Rattle.cif_inst_constants.proofs.nodes.needs_of.Given as goal

abbrev pub invariant-loop-constant : goal.invariant-loop-constant
invariant-loop-constant l = l.all ++ map (node_needs l.scopes l.numbers) (map node_of (drop l.constant-index l.constants)) ≡ map (node_needs l.scopes l.numbers) (map node_of l.constants)
