use Rattle.std.proofs.Common.{◌≡◌}
use Rattle.cif_inst_components.specs.Kids.{all_to}
use Rattle.cif_inst_components.proofs.kids.all_kids.Given as goal

abbrev pub invariant-loop-body : goal.invariant-loop-body
invariant-loop-body l = l.all ≡ all_to l.scopes l.body
