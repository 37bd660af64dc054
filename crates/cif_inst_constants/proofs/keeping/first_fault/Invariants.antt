use Rattle.std.proofs.Common.{◌≡◌, map, drop}
use Rattle.cif_inst_constants.specs.Slots.{row_of}
use Rattle.cif_inst_constants.specs.Used.{first_in, numbered_of}
use Rattle.cif_inst_constants.specs.Walked.{body_fault}
use Rattle.cif_inst_constants.proofs.keeping.first_fault.Given as goal

abbrev pub invariant-loop-body : goal.invariant-loop-body
invariant-loop-body l = first_in (body_fault l.types.scopes.now l.types.constants.now.numbers l.types.constants.now.values (map row_of l.types.rows.now) l.turns) (map numbered_of (drop l.body-index l.bodies)) ≡ first_in (body_fault l.types.scopes.now l.types.constants.now.numbers l.types.constants.now.values (map row_of l.types.rows.now) l.turns) (map numbered_of l.bodies)
