use Rattle.std.proofs.Common.{◌≡◌, List, map, length}
use Rattle.std.specs.Prelude.{All}
use Rattle.st_ast.specs.Interface.{is_output, numbers_of, output_values}
use Rattle.st_ast.specs.Scan.{start_memory}
use Rattle.st_ast.specs.Values.{Memory}
use Rattle.st_ast.specs.View.{view}
use Rattle.plc_rows.specs.Told.{cells_of}
use Rattle.plc_rows.specs.declared.row.Row.{Row}
use Rattle.plc_tables.proofs.ScanLemmas.{Reaches}
use Rattle.plc_tables.proofs.scanning.scans.Given as goal

abbrev pub invariant-loop-k : goal.invariant-loop-k
invariant-loop-k l = (l.machine.program ≡ l.program)
    × ((ms : List Memory) × Reaches (view l.program) (start_memory (view l.program)) (cells_of l.rows) l.k ms l.machine.memory
    × (cells_of l.shown ≡ map (output_values l.program.vars) ms))
    × All (λ (row : Row). length row.cells ≡ length (numbers_of is_output 0 l.program.vars)) l.shown
