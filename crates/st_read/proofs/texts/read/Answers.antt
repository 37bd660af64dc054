use Rattle.std.proofs.Common.{Ok, Err, sym, subst, rules}
use Rattle.std.specs.Prelude.{IfOk, IfErr}
use Rattle.st_ast.specs.Tree.{Program}
use Rattle.st_ast.specs.View.{view}
use Rattle.st_read.specs.Marks.{tokens_of}
use Rattle.st_ast.specs.ReadsAs.{Derives}
use Rattle.st_read.specs.PartsOf.{view_parts}
use Rattle.st_read.specs.Refusals.{RefusalDue}
use Rattle.st_read.proofs.Spellings.{derived_is_spelled}
use Rattle.st_read.proofs.Told.{told_read, told_refused, told_complete}
use Rattle.st_read.proofs.texts.read.Goals as goal

pub returns-in_err-marks-clause-complete : goal.returns-in_err-marks-clause-complete
returns-in_err-marks-clause-complete c =
    let none : IfOk c.from_residual.result (λ p. Derives c.args.text.now (view p)) = search rules in
    let due : IfErr c.from_residual.result (RefusalDue c.args.text.now) = search rules in
    told_complete view c.args.text.now c.from_residual.result none due

pub returns-in_err-parts-clause-refused : goal.returns-in_err-parts-clause-refused
returns-in_err-parts-clause-refused c =
    let due : RefusalDue c.args.text.now c.in_err-parts.field-0.0 =
    told_refused view_parts c.args.text.now (tokens_of c.args.text.now c.in_ok-marks.marks) (Err c.in_err-parts.field-0.0) c.in_ok-marks.ensures.tokens c.in_err-parts.ensures in
    search rules

pub returns-in_err-parts-clause-complete : goal.returns-in_err-parts-clause-complete
returns-in_err-parts-clause-complete c =
    let none : IfOk c.from_residual-in_err-parts.result (λ p. Derives c.args.text.now (view p)) = search rules in
    told_complete view c.args.text.now c.from_residual-in_err-parts.result none (returns-in_err-parts-clause-refused c)

pub built-requires : goal.built-requires
built-requires c = derived_is_spelled c.args.text.now (view_parts c.in_ok-parts.parts)
    (told_read view_parts c.args.text.now (tokens_of c.args.text.now c.in_ok-marks.marks) (Ok c.in_ok-parts.parts) c.in_ok-marks.ensures.tokens c.in_ok-parts.ensures)

pub returns-clause-read : goal.returns-clause-read
returns-clause-read c = subst (λ (p : Program). Derives c.args.text.now p) (sym c.built.ensures)
    (told_read view_parts c.args.text.now (tokens_of c.args.text.now c.in_ok-marks.marks) (Ok c.in_ok-parts.parts) c.in_ok-marks.ensures.tokens c.in_ok-parts.ensures)

pub returns-clause-complete : goal.returns-clause-complete
returns-clause-complete c = told_complete view c.args.text.now (Ok c.built.result) (returns-clause-read c) tt
