use Rattle.std.proofs.Common.{◌≡◌, ℕ, List, false, refl, sym, ap, ◌∙◌}
use Rattle.std.specs.Prelude.{codes}
use Rattle.grammar.specs.Pieces.{same}
use Rattle.grammar.proofs.Texts.{same_is}
use Rattle.cif_script.proofs.values.truth_of.Goals as goal

pub returns-else-eq-2 : goal.returns-else-eq-2
returns-else-eq-2 c =
    let w = c.args.word.now in
    let a : same w (codes "true") ≡ false =
    ap (λ (x : List ℕ). same w x) (sym c.as_slice.ensures) ∙ sym (same_is w c.as_slice.result.now) ∙ sym c.if-eq.ensures in
    let b : same w (codes "false") ≡ false =
    ap (λ (x : List ℕ). same w x) (sym c.as_slice-else-eq.ensures) ∙ sym (same_is w c.as_slice-else-eq.result.now) ∙ sym c.if-eq-2.ensures in
    rw (a, b) refl
