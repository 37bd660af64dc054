use Rattle.std.specs.Prelude.{take}
use Rattle.st_ast.specs.View.{view}
use Rattle.plc_rows.specs.Told.{cases_of}
use Rattle.cif_batch.specs.CaseTexts.{AreCaseTexts}
use Rattle.cif_batch.proofs.part.texts_of_part.Given as goal

abbrev pub invariant-loop-k : goal.invariant-loop-k
invariant-loop-k g l = AreCaseTexts (view l.program) (cases_of (take l.k l.cases)) l.texts
