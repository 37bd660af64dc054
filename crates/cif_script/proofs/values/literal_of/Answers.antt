use Rattle.std.proofs.Common.{◌≡◌, ◌+◌, ℕ, List, true, false, Some, cond, drop, pos, w64, sym, ap, ◌∙◌, arith}
use Rattle.std.specs.Prelude.{option_map}
use Rattle.std.proofs.lemmas.Int.{to_z_pos}
use Rattle.grammar.specs.Pieces.{Text, same}
use Rattle.grammar.proofs.Texts.{same_is}
use Rattle.cif_script.proofs.Finding.{found, drop-item}
use Rattle.cif_script.proofs.values.literal_of.Goals as goal

pub returns-then-eq : goal.returns-then-eq
returns-then-eq c =
    let x = c.index-literals-place.result in
    let w = c.args.word.now in
    let k = c.loop-place.place in
    let here : same x w ≡ true = ap (λ (y : List ℕ). same y w) (sym c.as_slice.ensures) ∙ sym (same_is c.as_slice.result.now w) ∙ sym c.if-eq.ensures in
    ap Some (to_z_pos w64 k (omega arith))
    ∙ ap (λ b. option_map (λ (y : ℕ × Text). pos y.0) (cond b (Some (k, x)) (found w (k + 1) (drop (k + 1) c.args.literals.now)))) (sym here)
    ∙ ap (λ (ls : List Text). option_map (λ (y : ℕ × Text). pos y.0) (found w k ls)) (sym (drop-item c.args.literals.now k x (omega arith) c.index-literals-place.is))
    ∙ ap (option_map (λ (y : ℕ × Text). pos y.0)) c.loop-place.invariant

pub loop-place-preserved : goal.loop-place-preserved
loop-place-preserved c =
    let x = c.index-literals-place.result in
    let w = c.args.word.now in
    let k = c.loop-place.place in
    let other : same x w ≡ false = ap (λ (y : List ℕ). same y w) (sym c.as_slice.ensures) ∙ sym (same_is c.as_slice.result.now w) ∙ sym c.if-eq.ensures in
    ap (λ b. cond b (Some (k, x)) (found w (k + 1) (drop (k + 1) c.args.literals.now))) (sym other)
    ∙ ap (found w k) (sym (drop-item c.args.literals.now k x (omega arith) c.index-literals-place.is)) ∙ c.loop-place.invariant
