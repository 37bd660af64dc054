use Rattle.std.proofs.Common.{◌++◌, map, length, sym, ap, ◌∙◌}
use Rattle.std.proofs.lemmas.List.{append-nil}
use Rattle.std.proofs.lemmas.Slice.Zip.{zip_end}
use Rattle.cif_net.specs.Parts.{var_tree}
use Rattle.cif_sim_model.specs.Texts.{listed, value_told}
use Rattle.cif_sim_names.specs.Nets.{stored_names}
use Rattle.cif_script.proofs.Listing.{pairs_end}
use Rattle.cif_script.proofs.writing.put_values.Goals as goal

pub returns : goal.returns
returns c =
    let l = c.loop-var in
    let start = c.into_iter-var-iterator.ensures.into_iter_gives in
    let all = zip_end c.args.vars.now c.args.values.now l.yielded c.into_iter-var-iterator.result l.var-iterator c.next.new.self c.next.result
    (ap (λ z. z.a.rest.now) start ∙ (ap (λ x. x.rest.now) c.zip-var-items.ensures.first ∙ c.iter.ensures.rest))
    (ap (λ z. z.b.rest.now) start ∙ c.zip-var-items.ensures.second.0)
    l.yielded_by c.in-None.is c.next.ensures.steps in
    sym (append-nil l.into.items)
    ∙ ap (λ ps. l.into.items ++ listed (map value_told ps)) (sym (pairs_end var_tree stored_names c.args.vars.now c.args.values.now (length l.yielded) all)) ∙ l.invariant
