use Rattle.std.proofs.Common.{◌≡◌, ◌∙◌, sym, ap, [], ◌∷◌, ◌++◌, true, false, not, if◌then◌else◌}
use Rattle.st_check.specs.Keys.{key, is_among}
use Rattle.st_check.specs.Told.{first}
use Rattle.st_check.proofs.Declaring.{stands_twice, starts_badly, goes_on, keys_grow}
use Rattle.st_check.proofs.variables.check_variables.Goals as goal

pub returns-then-not-branch-clause-tells : goal.returns-then-not-branch-clause-tells
returns-then-not-branch-clause-tells c =
    let new : not (is_among c.loop-i.names (key c.index-vars-i.result.name)) ≡ false
    = ap (λ x. not (is_among c.loop-i.names (key x))) (sym c.as_slice.ensures) ∙ sym c.in_ok-add.ensures.new ∙ c.if-not-branch.true in
    ap first (sym c.loop-i.invariant.faults)
    ∙ stands_twice c.args.vars.now c.loop-i.i c.index-vars-i.result c.loop-i.names c.loop-i-test.true c.index-vars-i.is c.loop-i.invariant.names new

pub returns-then-not-starts_well-clause-tells : goal.returns-then-not-starts_well-clause-tells
returns-then-not-starts_well-clause-tells c =
    let new : not (is_among c.loop-i.names (key c.index-vars-i.result.name)) ≡ true
    = ap (λ x. not (is_among c.loop-i.names (key x))) (sym c.as_slice.ensures) ∙ sym c.in_ok-add.ensures.new ∙ c.if-not-branch.false in
    ap first (sym c.loop-i.invariant.faults)
    ∙ starts_badly c.args.vars.now c.loop-i.i c.index-vars-i.result c.loop-i.names c.loop-i-test.true c.index-vars-i.is c.loop-i.invariant.names new
    (sym c.starts_well.ensures ∙ c.if-not-starts_well.true)

pub loop-i-preserved : goal.loop-i-preserved
loop-i-preserved c =
    let new : not (is_among c.loop-i.names (key c.index-vars-i.result.name)) ≡ true
    = ap (λ x. not (is_among c.loop-i.names (key x))) (sym c.as_slice.ensures) ∙ sym c.in_ok-add.ensures.new ∙ c.if-not-branch.false in
    record {
      names = keys_grow c.args.vars.now c.loop-i.i c.index-vars-i.result c.loop-i.names c.add.new.self c.loop-i-test.true c.index-vars-i.is c.loop-i.invariant.names new
          (c.in_ok-add.ensures.names ∙ ap (λ x. if is_among c.loop-i.names (key x) then c.loop-i.names else c.loop-i.names ++ key x ∷ []) c.as_slice.ensures);
      faults =
          goes_on c.args.vars.now c.loop-i.i c.index-vars-i.result c.loop-i.names c.loop-i-test.true c.index-vars-i.is c.loop-i.invariant.names new
          (sym c.starts_well.ensures ∙ c.if-not-starts_well.false)
          ∙ c.loop-i.invariant.faults;
    }
