use Rattle.std.proofs.Common.{◌≡◌, ◌+◌, suc, ◌∷◌, [], ◌++◌, ◌∙◌, ap, arith}
use Rattle.std.specs.List.{range_with_len}
use Rattle.std.proofs.lemmas.Grind.{common_steps}
use Rattle.cif_guard.proofs.GuardLaws.{range-more}
use Rattle.cif_guard.proofs.guarding.numbers_below.Goals as goal

pub loop-number-preserved : goal.loop-number-preserved
loop-number-preserved c =
    let k = c.loop-number.number in
    let s : k + 1 ≡ suc k = omega arith in
    let z : 0 + k ≡ k = omega arith in
    let e : range_with_len 0 (k + 1) ≡ range_with_len 0 k ++ k ∷ [] = ap (range_with_len 0) s ∙ range-more 0 k ∙ ap (λ j. range_with_len 0 k ++ j ∷ []) z in
    grind (arith, common_steps, e)
