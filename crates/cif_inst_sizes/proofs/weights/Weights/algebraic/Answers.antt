use Rattle.std.proofs.Common.{◌≡◌, subst, arith}
use Rattle.cif_inst_sizes.proofs.WeightLaws.{AreTaken, weighed, more-taken, all-measured}
use Rattle.cif_inst_sizes.proofs.weights.Weights.algebraic.Goals as goal

pub loop-number-preserved : goal.loop-number-preserved
loop-number-preserved c = (
  more-taken c.args.self.now.table c.loop-number.number c.loop-number.all c.push.new.self c.in_ok-variable.field-0 c.loop-number.invariant.0 c.in_ok-variable.ensures c.in_ok-push.ensures.ok,
  let less = c.loop-number-test.true in omega (arith, less),
)

pub returns : goal.returns
returns c l are exact =
    let w = weighed l c.args.self.now are in
    let low = c.loop-number.invariant.1 in
    let past = c.loop-number-test.false in
    let end : c.loop-number.number ≡ c.args.self.now.count = omega (arith, low, past) in
    all-measured l c.args.self.now w.0 w.1 exact c.loop-number.all (subst (λ k. AreTaken c.args.self.now.table k c.loop-number.all) end c.loop-number.invariant.0)
