use Rattle.std.proofs.Common.{rules, length}
use Rattle.std.proofs.lemmas.List.{length_push}
use Rattle.std.proofs.lemmas.Iterator.Adapters.{YieldsList-from_vec}
use Rattle.std.proofs.lemmas.Iterator.Consumers.{YieldsList-turn}
use Rattle.cif_batch.proofs.PartLaws.{joins_turn, stops_turn}
use Rattle.cif_batch.proofs.workers.joined.Goals as goal

pub returns-in-Err-clause-first : goal.returns-in-Err-clause-first
returns-in-Err-clause-first c =
    let t = YieldsList-turn (YieldsList-from_vec {s = c.into_iter-part-iterator.result} c.args.parts.items (search rules) (search rules)) c.loop-part.yielded c.loop-part.part-iterator c.loop-part.yielded_by c.next.result c.next.new.self c.in-Some.part c.in-Some.is c.next.ensures.steps in
    stops_turn c.args.parts.items (length c.loop-part.yielded) c.in-Some.part c.loop-part.all _ c.loop-part.invariant t c.in-Err.is

pub loop-part-preserved : goal.loop-part-preserved
loop-part-preserved c =
    let t = YieldsList-turn (YieldsList-from_vec {s = c.into_iter-part-iterator.result} c.args.parts.items (search rules) (search rules)) c.loop-part.yielded c.loop-part.part-iterator c.loop-part.yielded_by c.next.result c.next.new.self c.in-Some.part c.in-Some.is c.next.ensures.steps in
    joins_turn c.args.parts.items (length c.loop-part.yielded) _ c.in-Some.part c.loop-part.all _ c.append.new.self c.loop-part.invariant t c.in-Ok.is c.in_ok-append-in-Ok.ensures (length_push c.loop-part.yielded c.in-Some.part)
