use Rattle.std.proofs.Common.{◌∷◌, [], length, length-append, sym, ap, subst, ◌∙◌}
use Rattle.cif_ast.specs.View.{view}
use Rattle.std.specs.Prelude.{map}
use Rattle.std.proofs.lemmas.Slice.Zip.{zip_turn, zip_end, length-zip}
use Rattle.cif_source.specs.Source.{param_tree}
use Rattle.cif_inst_parameters.specs.Following.{AreFollowed}
use Rattle.cif_inst_parameters.proofs.TurnLaws.{followed-more}
use Rattle.cif_inst_parameters.proofs.following.Follower.arguments.Goals as goal

pub loop-param-preserved : goal.loop-param-preserved
loop-param-preserved c =
    let l = c.loop-param in
    let start = c.into_iter-param-iterator.ensures.into_iter_gives in
    let turn = zip_turn c.args.params.now c.args.values.now l.yielded c.into_iter-param-iterator.result l.param-iterator c.next.new.self c.next.result
    (ap (λ z. z.a.rest.now) start ∙ (ap (λ x. x.rest.now) c.zip-param-items.ensures.first ∙ c.iter.ensures.rest))
    (ap (λ z. z.b.rest.now) start ∙ c.zip-param-items.ensures.second.0)
    l.yielded_by (c.in-Some.param, c.in-Some.value) c.in-Some.is c.next.ensures.steps in
    followed-more c.args.self.now c.args.giver c.args.params.now c.args.values.now (length l.yielded) l.found.items l.invariant c.in-Some.param.now c.in-Some.value.now c.argument.result turn.0 turn.1 turn.2 turn.3 c.argument.ensures _
    (length-append l.yielded ((c.in-Some.param, c.in-Some.value) ∷ [])) c.push.new.self.items c.in_ok-push.ensures.items

pub returns : goal.returns
returns c =
    let l = c.loop-param in
    let start = c.into_iter-param-iterator.ensures.into_iter_gives in
    let all = zip_end c.args.params.now c.args.values.now l.yielded c.into_iter-param-iterator.result l.param-iterator c.next.new.self c.next.result
    (ap (λ z. z.a.rest.now) start ∙ (ap (λ x. x.rest.now) c.zip-param-items.ensures.first ∙ c.iter.ensures.rest))
    (ap (λ z. z.b.rest.now) start ∙ c.zip-param-items.ensures.second.0)
    l.yielded_by c.in-None.is c.next.ensures.steps in
    subst (λ n. AreFollowed c.args.self.now c.args.giver (map param_tree c.args.params.now) (map view c.args.values.now) n l.found.items) (all ∙ sym (length-zip c.args.params.now c.args.values.now)) l.invariant
