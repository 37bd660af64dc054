use Rattle.std.proofs.Common.{◌≡◌, ◌∙◌, sym, arith}
use Rattle.cif_resolve_cycles.proofs.NumberLaws.{names-first, names-next, firsts-next}
use Rattle.cif_resolve_cycles.proofs.numbers.firsts.Goals as goal

pub loop-body-init : goal.loop-body-init
loop-body-init c = record { all = c.new-all.ensures; count = sym (names-first c.args.scopes.now.table.scopes) }

pub loop-body-preserved : goal.loop-body-preserved
loop-body-preserved c =
    let count = names-next c.args.scopes.now.table.scopes c.loop-body.body in
    record {
      all = firsts-next c.args.scopes.now.table.scopes c.loop-body.body c.in_ok-number.field-0 c.loop-body.all c.push.new.self c.loop-body.invariant.all (c.in_ok-number.ensures.is ∙ c.loop-body.invariant.count) c.in_ok-push.ensures.ok;
      count = omega (arith, count);
    }
