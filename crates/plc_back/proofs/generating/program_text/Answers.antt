use Rattle.std.proofs.Common.{◌≡◌, subst}
use Rattle.std.specs.Prelude.{Result, Ok, Err, IfOk}
use Rattle.st_ast.specs.Tree.{Program}
use Rattle.st_print.specs.Layout.{printed}
use Rattle.plc_back.proofs.generating.program_text.Goals as goal

pub returns-clause-text : goal.returns-clause-text
returns-clause-text c = subst (λ (p : Program). IfOk c.print.result (λ text. text.items ≡ printed p)) c.in_ok-program.ensures.program c.print.ensures.laid_out

-- what holds already holds of each text
kept : {A E P : Type 0} (r : Result A E) → P → IfOk r (λ (x : A). P)
kept (Ok x) h = h
kept (Err e) h = tt

pub returns-clause-parts : goal.returns-clause-parts
returns-clause-parts c = kept c.print.result c.in_ok-program.ensures.parts
