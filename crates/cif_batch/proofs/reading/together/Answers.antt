use Rattle.std.proofs.Common.{rules, length}
use Rattle.std.proofs.lemmas.List.{length_push}
use Rattle.std.proofs.lemmas.Iterator.Adapters.{YieldsList-from_vec}
use Rattle.std.proofs.lemmas.Iterator.Consumers.{YieldsList-turn}
use Rattle.cif_batch.proofs.CutLaws.{ok_from, together_turn}
use Rattle.cif_batch.proofs.reading.together.Goals as goal

pub loop-part-preserved : goal.loop-part-preserved
loop-part-preserved c =
    let t = YieldsList-turn (YieldsList-from_vec {s = c.into_iter-part-iterator.result} c.args.parts.items (search rules) (search rules)) c.loop-part.yielded c.loop-part.part-iterator c.loop-part.yielded_by c.next.result c.next.new.self c.in-Some.part c.in-Some.is c.next.ensures.steps in
    let put = ok_from c.append.result c.ok.result c.in_ok-ok.field-0 c.ok.ensures.value c.in_ok-ok.was in
    together_turn c.args.parts.items (length c.loop-part.yielded) _ c.in-Some.part c.in_ok-cases.field-0 c.loop-part.all c.append.new.self c.loop-part.invariant t c.in_ok-cases.was
    (rw put at c.append.ensures) (length_push c.loop-part.yielded c.in-Some.part)
