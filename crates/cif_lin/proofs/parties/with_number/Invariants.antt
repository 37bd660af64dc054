use Rattle.std.proofs.Common.{◌≡◌, ◌++◌, drop, if◌then◌else◌}
use Rattle.cif_lin.specs.Cells as c
use Rattle.cif_lin.proofs.parties.with_number.Given as goal

abbrev pub invariant-loop-number : goal.invariant-loop-number
invariant-loop-number l =
    c.with_number l.new l.numbers ≡ l.all ++ (if l.placed then drop l.number-index l.numbers else c.with_number l.new (drop l.number-index l.numbers))
