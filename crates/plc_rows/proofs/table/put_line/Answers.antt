use Rattle.std.proofs.Common.{◌++◌, ◌∙◌, sym, ap, length, codes}
use Rattle.std.proofs.lemmas.Slice.Zip.{zip_end}
use Rattle.plc_rows.proofs.Lines.{cells_end}
use Rattle.plc_rows.proofs.table.put_line.Goals as goal

pub returns : goal.returns
returns c =
    let l = c.loop-output in
    let start = c.into_iter-output-iterator.ensures.into_iter_gives in
    let all = zip_end c.args.outputs.now c.args.cells.now l.yielded c.into_iter-output-iterator.result l.output-iterator c.next.new.self c.next.result
    (ap (λ z. z.a.rest.now) start ∙ (ap (λ x. x.rest.now) c.zip-output-items.ensures.first ∙ c.iter.ensures.rest))
    (ap (λ z. z.b.rest.now) start ∙ c.zip-output-items.ensures.second.0)
    l.yielded_by c.in-None.is c.next.ensures.steps in
    c.in_ok-push-2.ensures.items ∙ (ap (λ end. l.text.items ++ (end ++ codes "\n")) (sym (cells_end c.args.outputs.now c.args.cells.now (length l.yielded) all)) ∙ l.invariant)
