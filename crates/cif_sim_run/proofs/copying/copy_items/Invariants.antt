-- What is left to copy is all that differs.
use Rattle.std.proofs.Common.{◌≡◌, drop, length}
use Rattle.cif_script.specs.Touches.{SameBut}
use Rattle.cif_sim_run.proofs.copying.copy_items.Given as goal

abbrev pub invariant-loop-number : goal.invariant-loop-number
invariant-loop-number g l = (length l.to ≡ length l.from) × SameBut (drop l.number-index l.numbers) l.to l.from
