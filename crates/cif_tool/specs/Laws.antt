-- What `replay` makes of a text that `generate` wrote.
use Rattle.std.specs.Prelude.{ℤ, List}
use Rattle.grammar.specs.Pieces.{Text}
use Rattle.cif_system.specs.System.{System}
use Rattle.st_ast.specs.Tree.{Program}
use Rattle.st_ast.specs.ReadsAs.{ReadsAsProgram}
use Rattle.plc_model.specs.Scans.{AreRows}
use Rattle.plc_rows.specs.Rows.{RowsOf}
use Rattle.cif_run.specs.declared.status.StRefusal.{StRefusal}
use Rattle.cif_replay.specs.Replaying.{AllEnd, IsStRefused, Reads}

-- the text reads as a program, no rule refuses it, over rows in range every scan ends, and so over the rows of each file that breaks
-- no rule of the program
pub record IsTaken (sys : System) (text : Text) : Type 0 where
  pub reads : Reads text
  pub accepted : (why : StRefusal) → IsStRefused text why → ⊥
  pub scanned : (p : Program) → ReadsAsProgram text p → (rows : List (List ℤ)) → AreRows sys rows → AllEnd p rows
  pub replayed : (p : Program) → ReadsAsProgram text p → (file : Text) (rows : List (List ℤ)) → RowsOf p.vars file rows → AllEnd p rows
