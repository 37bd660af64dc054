-- The scans of a program over a list of rows from its declared memory on: how they end, and the table of their outputs.
use Rattle.std.specs.Prelude.{◌≡◌, ⊤, ℕ, zero, suc, ℤ, List, [], ◌∷◌, length, map}
use Rattle.grammar.specs.Pieces.{Text}
use Rattle.st_ast.specs.Tree.{Program}
use Rattle.st_ast.specs.Values.{Memory}
use Rattle.st_ast.specs.Exec.{Outcome, Ended}
use Rattle.st_ast.specs.Scan.{start_memory, scan_of, later_memories}
use Rattle.st_ast.specs.Interface.{output_values}
use Rattle.st_scan.specs.Endings.{stopped}
use Rattle.plc_rows.specs.Table.{output_table}
use Rattle.plc_tables.specs.declared.stopped.Stopped.{Stopped}
use Rattle.plc_tables.specs.declared.stopped.Stopped.TheVariants as why

-- every scan ends without a fault and within its turns
abbrev pub AllEnd : Program → List (List ℤ) → Type 0
AllEnd p rows = length (later_memories p (start_memory p) rows) ≡ length rows

-- from this memory on, the scans before that of the row k, counted from 1, end, and that scan comes to this
abbrev pub ComesTo : Program → Memory → List (List ℤ) → ℕ → Outcome → Type 0
ComesTo p m [] k o = ⊥
ComesTo p m (row ∷ rows) zero o = ⊥
ComesTo p m (row ∷ rows) (suc zero) o = scan_of p m row ≡ o
ComesTo p m (row ∷ rows) (suc (suc k)) o = (left : ℕ) × (after : Memory) × (scan_of p m row ≡ Ended left after) × ComesTo p after rows (suc k) o

-- the output table of the scans over these rows
abbrev pub table_of : Program → List (List ℤ) → Text
table_of p rows = output_table p.vars (map (output_values p.vars) (later_memories p (start_memory p) rows))

-- the scans over these rows stop at one that ends early, or memory ran out
abbrev pub IsStopped : Program → List (List ℤ) → Stopped → Type 0
IsStopped p rows (why.Scan k e) = ComesTo p (start_memory p) rows k (stopped e)
IsStopped p rows why.NoMemory = ⊤
