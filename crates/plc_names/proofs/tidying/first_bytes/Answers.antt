use Rattle.std.proofs.Common.{◌≡◌, ◌≤◌, true, drop, length, arith}
use Rattle.plc_model.specs.Names.{runs_joined, most_bytes}
use Rattle.plc_names.proofs.OnePass.{pass-full, pass-ended}
use Rattle.plc_names.proofs.tidying.first_bytes.Goals as goal

pub returns-then-len-eq-MOST_BYTES : goal.returns-then-len-eq-MOST_BYTES
returns-then-len-eq-MOST_BYTES c =
    let full : length c.loop-byte.text ≡ most_bytes = omega (arith, c.len.ensures, c.if-len-eq-MOST_BYTES.true) in
    pass-full c.loop-byte.text (runs_joined c.loop-byte.in_run (drop c.loop-byte.byte-index c.args.path.now)) (runs_joined true c.args.path.now) c.loop-byte.invariant.joined full

pub returns : goal.returns
returns c =
    let over : length c.args.path.now ≤ c.loop-byte.byte-index = omega (arith, c.loop-byte-test.false) in
    pass-ended c.loop-byte.text c.args.path.now (runs_joined true c.args.path.now) c.loop-byte.in_run c.loop-byte.byte-index over c.loop-byte.invariant.joined c.loop-byte.invariant.short
