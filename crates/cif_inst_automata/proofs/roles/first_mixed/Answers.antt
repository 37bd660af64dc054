use Rattle.std.proofs.Common.{refl, sym, ◌∙◌, subst}
use Rattle.cif_inst_automata.specs.Marks.{AreMarks}
use Rattle.cif_inst_automata.proofs.MarkLaws.{first_marks, mixed_by, marks_after, mixed_passed, mixed_found}
use Rattle.cif_inst_paths.proofs.SoundLaws.{item-listed}
use Rattle.cif_inst_automata.proofs.roles.first_mixed.Goals as goal

pub loop-place-init : goal.loop-place-init
loop-place-init c = record {
  rest = refl;
  marks = first_marks c.args.events c.args.events c.in_ok-marks.marks refl c.in_ok-marks.ensures;
}

pub returns-then-branch : goal.returns-then-branch
returns-then-branch c =
    let below = c.requires.below c.index-alphabets-place.result (item-listed c.args.alphabets.now c.loop-place.place c.index-alphabets-place.result c.loop-place-test.true c.index-alphabets-place.is) in
    mixed_found c.args.alphabets.now c.loop-place.place c.index-alphabets-place.result _ c.loop-place-test.true c.index-alphabets-place.is c.loop-place.invariant.rest
    (sym (mixed_by c.args.events c.loop-place.place c.index-alphabets-place.result c.loop-place.marks below c.loop-place.invariant.marks c.in_ok-number.field-0 c.in_ok-number.ensures.is) ∙ sym c.in_ok-is_mixed.ensures.found ∙ c.if-branch.true)

pub loop-place-preserved : goal.loop-place-preserved
loop-place-preserved c =
    let below = c.requires.below c.index-alphabets-place.result (item-listed c.args.alphabets.now c.loop-place.place c.index-alphabets-place.result c.loop-place-test.true c.index-alphabets-place.is) in
    record {
      rest =
          mixed_passed c.args.alphabets.now c.loop-place.place c.index-alphabets-place.result _ c.loop-place-test.true c.index-alphabets-place.is c.loop-place.invariant.rest
          (sym (mixed_by c.args.events c.loop-place.place c.index-alphabets-place.result c.loop-place.marks below c.loop-place.invariant.marks c.in_ok-number.field-0 c.in_ok-number.ensures.is) ∙ sym c.in_ok-is_mixed.ensures.found ∙ c.if-branch.false);
      marks =
          subst (λ k. AreMarks c.args.events k c.is_mixed.new.marks) c.in_ok-number.ensures.is
          (marks_after c.args.events c.loop-place.place c.in_ok-number.field-0 c.index-alphabets-place.result c.loop-place.marks c.is_mixed.new.marks c.in_ok-number.ensures.is c.in_ok-is_mixed.ensures.after c.loop-place.invariant.marks);
    }
