use Rattle.std.proofs.Common.{◌≡◌, ◌++◌, ◌∷◌, ◌*◌, replicate}
use Rattle.st_print.proofs.printer.Printer.line.Given as goal

-- the line break, and two blanks for each nesting so far
abbrev pub invariant-loop : goal.invariant-loop
invariant-loop l = l.self.bytes.items ≡ l.fn.self.bytes.items ++ (10 ∷ replicate (2 * l.counter) 32)
