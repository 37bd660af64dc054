use Rattle.std.proofs.Common.{◌≡◌, ◌+◌, ◌++◌, map, drop}
use Rattle.cif_net.specs.View.{edge_tree}
use Rattle.cif_inst.specs.Outlines as outlines
use Rattle.cif_inst.proofs.outlines.outline_edges.Given as goal

abbrev pub invariant-loop-one : goal.invariant-loop-one
invariant-loop-one l = record {
  made : map edge_tree l.edges ++ outlines.outline_edges l.next (drop l.one-index l.used) ≡ outlines.outline_edges l.first l.used;
  next : l.next ≡ l.first + l.one-index;
}
