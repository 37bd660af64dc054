use Rattle.std.proofs.Common.{◌≡◌, None, sym, ap, ◌∙◌, option_copied}
use Rattle.cif_net_expr.specs.View.{view}
use Rattle.cif_net.specs.View.{net_tree}
use Rattle.plc_event.proofs.Holding.{predicate-there}
use Rattle.plc_gen.proofs.Typing.{invariant-types, types-done}
use Rattle.plc_event.proofs.Marking.{same-item}
use Rattle.plc_gen.proofs.types.invariants_types.Goals as goal

pub loop-number-preserved : goal.loop-number-preserved
loop-number-preserved c =
    invariant-types (net_tree c.args.net.now) c.args.numbers.now c.loop-number.number-index _ (view c.in-Some.found.now.pred) c.loop-number-test.true
    (same-item c.args.numbers.now c.loop-number.number-index 0 c.loop-number-test.true) (predicate-there c.args.net.now _ c.in-Some.found.now (sym (ap option_copied c.in-Some.is) ∙ c.get.ensures.value))
    None c.loop-number.types c.own_types_of.new.types c.in_ok-own_types_of.ensures
    ∙ c.loop-number.invariant

pub returns : goal.returns
returns c =
    sym (types-done (net_tree c.args.net.now) c.args.numbers.now c.loop-number.number-index c.loop-number-test.false None c.loop-number.types) ∙ c.loop-number.invariant
