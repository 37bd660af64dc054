use Rattle.std.proofs.Common.{◌∙◌, ap, ◌/◌}
use Rattle.std.specs.Prelude.{string_bytes}
use Rattle.cif_maker.specs.Draws.{stepped}
use Rattle.cif_maker.proofs.Counting.{next_state, next_block}
use Rattle.cif_maker.proofs.source.make.Goals as goal

pub loop-number-preserved : goal.loop-number-preserved
loop-number-preserved c =
    let later = c.next-in-loop-number.ensures.state ∙ ap stepped c.next.ensures.state in
    let second = c.next-in-loop-number.ensures.number ∙ ap (λ x. stepped x / 65536) c.next.ensures.state in (
      next_state c.args.seed c.args.size c.loop-number.number c.loop-number.draws c.next-in-loop-number.new.self c.next.result c.next-in-loop-number.result
          (string_bytes c.loop-number.text) (string_bytes c.put_plant.new.text) (string_bytes c.put_need.new.text)
          c.loop-number.invariant.0 c.next.ensures.number second later,
      next_block c.args.seed c.args.size c.loop-number.number c.loop-number.draws c.next-in-loop-number.new.self c.next.result c.next-in-loop-number.result
          (string_bytes c.loop-number.text) (string_bytes c.put_plant.new.text) (string_bytes c.put_need.new.text)
          c.loop-number.invariant.0 c.next.ensures.number second c.loop-number.invariant.1 c.in_ok-put_plant.ensures c.in_ok-put_need.ensures,
    )
