use Rattle.std.proofs.Common.{map, sym, ap, ◌∙◌, arith}
use Rattle.std.specs.Prelude.{option_map}
use Rattle.std.proofs.lemmas.List.{drop_all}
use Rattle.cif_net.specs.declared.data.Input.{Input}
use Rattle.cif_script.specs.Numbers.{number_at}
use Rattle.cif_script.proofs.Finding.{either, found, nothing_more, step_kept}
use Rattle.cif_script.proofs.paths.input_numbers.Goals as goal

pub loop-number-preserved : goal.loop-number-preserved
loop-number-preserved c = λ t. step_kept (λ (e : Input). e.path) t c.args.inputs.now c.loop-number.number c.index-inputs-number.result
    c.loop-number.all c.add.new.self _ (omega arith) c.index-inputs-number.is c.in_ok-add.ensures (c.loop-number.invariant t)

pub returns : goal.returns
returns c =
    λ t. sym (nothing_more (number_at c.loop-number.all t))
    ∙ ap (λ es. either (number_at c.loop-number.all t) (option_map (λ y. y.0) (found t c.loop-number.number (map (λ (e : Input). e.path) es))))
    (sym (drop_all c.loop-number.number c.args.inputs.now (omega arith)))
    ∙ c.loop-number.invariant t
