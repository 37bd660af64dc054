use Rattle.std.proofs.Common.{◌≡◌, ◌++◌, map, drop}
use Rattle.cif_scope_uses.specs.Views.{use_of}
use Rattle.cif_inst_constants.specs.Nodes.{uses_needs}
use Rattle.cif_inst_constants.proofs.nodes.uses_needs.Given as goal

abbrev pub invariant-loop-used : goal.invariant-loop-used
invariant-loop-used l = l.needs ++ uses_needs l.scopes l.numbers l.body (map use_of (drop l.used-index l.uses)) ≡ uses_needs l.scopes l.numbers l.body (map use_of l.uses)
