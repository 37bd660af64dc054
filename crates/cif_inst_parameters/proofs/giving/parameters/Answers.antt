use Rattle.std.proofs.Common.{◌≡◌, ◌+◌, ◌++◌, List, [], ◌∷◌, length, length-append, map, sym, ap, subst, ◌∙◌, arith}
use Rattle.std.specs.Global.{Vec}
use Rattle.cif_source.specs.Source.{Source, source_of}
use Rattle.cif_scope.specs.declared.written.Written.{Written}
use Rattle.cif_scope.specs.Written.{body_of_written}
use Rattle.cif_inst_components.specs.Numbers.{IsNumber}
use Rattle.cif_inst_parameters.specs.declared.given.Given.{Given}
use Rattle.cif_inst_parameters.specs.Passing.{instances_now, body_instances}
use Rattle.cif_inst_parameters.specs.Given.{given_items}
use Rattle.cif_inst_parameters.specs.Following.{AreKnown}
use Rattle.cif_inst_parameters.proofs.GivingLaws.{next-known, number-small, all-given}
use Rattle.cif_inst_parameters.proofs.giving.parameters.Goals as goal

pub overflow_cast-component : goal.overflow_cast-component
overflow_cast-component c =
    let small = number-small (source_of c.args.spec.now) c.args.components.now c.requires.components c.len-component-end.result c.loop-component.component c.len-component-end.ensures c.loop-component-test.true in
    omega (arith, small)

pub loop-component-preserved : goal.loop-component-preserved
loop-component-preserved c =
    let t : Source = source_of c.args.spec.now in
    let l = c.loop-component in
    let before : c.as_slice-in-loop-component.result.now ≡ l.given.items = c.as_slice-in-loop-component.ensures.value in
    let after : c.push.new.self.items ≡ l.given.items ++ c.in_ok-next.next ∷ [] = c.in_ok-push.ensures.items in (
      next-known t l.given.items c.push.new.self.items c.in_ok-next.next after l.invariant.0
          (λ d own. c.in_ok-next.ensures t d (record {
            looks = record { scopes = c.requires.scopes; components = c.requires.components };
            known = subst (λ (xs : List (Vec Given)). AreKnown t (map given_items xs)) (sym before) l.invariant.0;
            written = ap (map body_of_written) c.as_slice-2.ensures.value ∙ c.in_ok-written.ensures;
            instances = ap (map instances_now) c.as_slice-3.ensures.value ∙ c.in_ok-instances.ensures
                ∙ ap (λ (ws : List Written). map body_instances (map body_of_written ws)) c.as_slice.ensures.value ∙ ap (map body_instances) c.in_ok-written.ensures;
            matched = c.requires.matched;
          }) (sym l.invariant.1 ∙ ap length (sym before)) (subst (λ k. IsNumber t k d) l.invariant.1 own)),
      ap length after ∙ length-append l.given.items (c.in_ok-next.next ∷ []) ∙ ap (λ k. k + 1) l.invariant.1,
    )

pub returns : goal.returns
returns c =
    let l = c.loop-component in
    all-given (source_of c.args.spec.now) c.args.components.now c.requires.components l.given.items l.invariant.0 c.len-component-end.result l.component c.len-component-end.ensures l.invariant.1 c.loop-component-test.false
