use Rattle.std.proofs.Common.{◌≡◌, map, drop}
use Rattle.cif_inst_constants.specs.Bounds.{body_fault}
use Rattle.cif_inst_constants.specs.Used.{first_in, numbered_of}
use Rattle.cif_inst_constants.proofs.bounds.first_fault.Given as goal

abbrev pub invariant-loop-body : goal.invariant-loop-body
invariant-loop-body l = first_in (body_fault l.scopes l.constants.numbers l.constants.values) (map numbered_of (drop l.body-index l.bodies)) ≡ first_in (body_fault l.scopes l.constants.numbers l.constants.values) (map numbered_of l.bodies)
