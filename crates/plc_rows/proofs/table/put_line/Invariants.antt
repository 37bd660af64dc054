use Rattle.std.proofs.Common.{◌≡◌, ◌++◌, map, drop, length, codes}
use Rattle.plc_rows.specs.Table.{cells_text, line_text}
use Rattle.plc_rows.proofs.table.put_line.Given as goal

abbrev pub invariant-loop-output : goal.invariant-loop-output
invariant-loop-output l = l.text.items ++ (cells_text (map (λ v. v.now) (drop (length l.yielded) l.outputs)) (drop (length l.yielded) l.cells) ++ codes "\n") ≡ l.fn.text.items ++ line_text (map (λ v. v.now) l.outputs) l.number l.cells
