use Rattle.std.proofs.Common.{◌≡◌, ◌++◌, map, drop}
use Rattle.cif_inst_constants.specs.Nodes.{node_of, nodes_in}
use Rattle.cif_inst_constants.specs.Used.{numbered_of}
use Rattle.cif_inst_constants.proofs.nodes.constants.Given as goal

abbrev pub invariant-loop-body : goal.invariant-loop-body
invariant-loop-body l = map node_of l.found.items ++ nodes_in (map numbered_of (drop l.body-index l.bodies)) ≡ nodes_in (map numbered_of l.bodies)
