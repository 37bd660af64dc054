use Rattle.std.proofs.Common.{◌∙◌, Some, sym, ap, to_z, of_z, w64}
use Rattle.std.specs.Cmp.Lexicographic.{other_text}
use Rattle.std.proofs.lemmas.Int.{to_z-of_z}
use Rattle.std.specs.Fmt.{signed_decimal}
use Rattle.cif_base.proofs.Reading.{is_utf8, parses, one_outcome, no_outcome}
use Rattle.cif_base.proofs.decimal.read_int.Goals as goal

pub returns-in_default-clause-read : goal.returns-in_default-clause-read
returns-in_default-clause-read c z fits is = absurd (c.in_default.ensures.cases.0 (is_utf8 z c.args.text.now fits is))

pub returns-in_default-parse-clause-read : goal.returns-in_default-parse-clause-read
returns-in_default-parse-clause-read c z fits is =
    absurd (no_outcome c.in_default-parse.is (parses z c.in-Ok.word.now c.parse.result fits (c.in-Ok.ensures.cases.0 ∙ is) c.parse.ensures.value.0))

pub returns-then-eq-clause-read : goal.returns-then-eq-clause-read
returns-then-eq-clause-read c z fits is =
    let q = one_outcome c.in-Ok-parse.is (parses z c.in-Ok.word.now c.parse.result fits (c.in-Ok.ensures.cases.0 ∙ is) c.parse.ensures.value.0) in
    ap (λ x. Some (to_z w64 (of_z w64 x))) q ∙ ap Some (to_z-of_z w64 z fits)

pub returns-else-eq-clause-read : goal.returns-else-eq-clause-read
returns-else-eq-clause-read c z fits is =
    let q = one_outcome c.in-Ok-parse.is (parses z c.in-Ok.word.now c.parse.result fits (c.in-Ok.ensures.cases.0 ∙ is) c.parse.ensures.value.0) in
    absurd (other_text _ _ c.if-eq.ensures (c.format.ensures.text ∙ (ap (λ x. signed_decimal (to_z w64 (of_z w64 x))) q ∙ (ap signed_decimal (to_z-of_z w64 z fits) ∙ sym (c.in-Ok.ensures.cases.0 ∙ is)))))
