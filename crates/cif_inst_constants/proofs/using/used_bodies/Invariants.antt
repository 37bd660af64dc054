use Rattle.std.proofs.Common.{◌≡◌, false, length}
use Rattle.std.specs.Prelude.{replicate}
use Rattle.cif_inst_constants.specs.Used.{marked_to}
use Rattle.cif_inst_constants.proofs.using.used_bodies.Given as goal

abbrev pub invariant-loop-component : goal.invariant-loop-component
invariant-loop-component l = l.used ≡ marked_to l.components.all (replicate (length l.scopes.table.scopes) false) l.component
