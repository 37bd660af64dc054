use Rattle.std.proofs.Common.{rules, ◌++◌, length, ◌∙◌, ap}
use Rattle.std.proofs.lemmas.List.{length_push}
use Rattle.std.proofs.lemmas.Iterator.Adapters.{YieldsList-from_vec}
use Rattle.std.proofs.lemmas.Iterator.Consumers.{YieldsList-turn}
use Rattle.cif_batch_command.proofs.TableLemmas.{text_more}
use Rattle.cif_batch_command.proofs.tables.joined.Goals as goal

pub loop-text-preserved : goal.loop-text-preserved
loop-text-preserved c =
    let t = YieldsList-turn (YieldsList-from_vec {s = c.into_iter-text-iterator.result} c.args.texts.items (search rules) (search rules)) c.loop-text.yielded c.loop-text.text-iterator c.loop-text.yielded_by c.next.result c.next.new.self c.in-Some.text c.in-Some.is c.next.ensures.steps in
    text_more c.args.texts.items (length c.loop-text.yielded) _ c.in-Some.text c.loop-text.all.items c.extend_from_slice.new.self.items c.loop-text.invariant t
    (c.in_ok-extend_from_slice.ensures.items ∙ ap (λ l. c.loop-text.all.items ++ l) c.as_slice.ensures) (length_push c.loop-text.yielded c.in-Some.text)
