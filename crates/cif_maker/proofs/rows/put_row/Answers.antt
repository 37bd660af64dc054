use Rattle.std.proofs.Common.{arith, ◌≡◌, ◌++◌, ◌∙◌, ap, codes}
use Rattle.std.specs.Prelude.{string_bytes, flat_map, decimal, ◌%◌}
use Rattle.cif_maker.specs.Draws.{draw, numbers_below}
use Rattle.cif_maker.specs.MadeText.{truth_text}
use Rattle.cif_maker.proofs.Counting.{one_more, next_after, cell_written, line_ended}
use Rattle.cif_maker.proofs.rows.put_row.Goals as goal

pub loop-i-preserved : goal.loop-i-preserved
loop-i-preserved c = (
  next_after c.args.draws.now c.loop-i._i c.loop-i.draws c.next.new.self c.loop-i.invariant.0 c.next.ensures.state,
  one_more (λ i. truth_text (draw c.args.draws.now i % 2)) c.loop-i._i (string_bytes c.args.text.now ++ decimal c.args.number) (string_bytes c.loop-i.text) (string_bytes c.push_str.new.self)
      c.loop-i.invariant.1
      (c.in_ok-push_str.ensures.bytes ∙ ap (λ x. string_bytes c.loop-i.text ++ x)
      (cell_written c.args.draws.now c.loop-i._i c.loop-i.draws c.next.result c.cell.result.now c.loop-i.invariant.0 c.next.ensures.number c.cell.ensures)),
)

pub returns-clause-text : goal.returns-clause-text
returns-clause-text c =
    let all : c.loop-i._i ≡ c.args.size = omega (arith, c.loop-i-test.false, c.loop-i.auto._i-end) in
    line_ended (string_bytes c.args.text.now) (decimal c.args.number) (flat_map (λ i. truth_text (draw c.args.draws.now i % 2)) (numbers_below c.args.size)) (string_bytes c.push_str-2.new.self)
    (c.in_ok-push_str-2.ensures.bytes ∙ ap (λ x. x ++ codes "\n") (c.loop-i.invariant.1
    ∙ ap (λ n. (string_bytes c.args.text.now ++ decimal c.args.number) ++ flat_map (λ i. truth_text (draw c.args.draws.now i % 2)) (numbers_below n)) all))
