use Rattle.std.proofs.Common.{◌≡◌, ◌++◌, map, drop, codes}
use Rattle.plc_rows.specs.Table.{names_text, header_text}
use Rattle.plc_rows.proofs.table.put_header.Given as goal

abbrev pub invariant-loop-output : goal.invariant-loop-output
invariant-loop-output l = l.text.items ++ (names_text (map (λ v. v.now) (drop l.output-index l.outputs)) ++ codes "\n") ≡ l.fn.text.items ++ header_text (map (λ v. v.now) l.outputs)
