use Rattle.std.proofs.Common.{subst, take, ◌++◌, ◌∙◌, ap}
use Rattle.plc_rows.specs.Rows.{CasesOf}
use Rattle.plc_rows.specs.Told.{cases_of}
use Rattle.cif_batch.proofs.CutLaws.{all_read, front_and_rest, ok_from}
use Rattle.cif_batch.proofs.reading.read_by.Goals as goal

pub returns : goal.returns
returns g c =
    let line = c.is_header.ensures c.if-not-is_header.false in
    let made = ok_from c.pieces.result c.ok.result c.in_ok-pieces.pieces c.ok.ensures.value c.in_ok-pieces.was in
    let cut = rw made at c.pieces.ensures in
    let read = ok_from c.parts_of.result c.ok-2.result c.in_ok-parts.parts c.ok-2.ensures.value c.in_ok-parts.was in
    let all = rw (read, c.as_slice.ensures.value) at c.parts_of.ensures in
    let few = rw c.as_slice-2.ensures at (c.are_few.ensures c.if-not-are_few.false) in
    let cases = all_read c.args.program.now.vars _ line c.in_ok-pieces.pieces.items c.in_ok-parts.parts.items c.in_ok-cases.cases all cut.lines c.in_ok-cases.ensures few in
    subst (λ t. CasesOf c.args.program.now.vars t (cases_of c.in_ok-cases.cases)) (ap (λ l. take c.in_ok-end.end c.args.text.now ++ l) cut.whole ∙ front_and_rest c.in_ok-end.end c.args.text.now) cases
