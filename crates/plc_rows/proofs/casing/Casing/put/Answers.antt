use Rattle.std.proofs.Common.{suc, refl, length, ap, ◌∙◌, sym}
use Rattle.std.proofs.lemmas.Bool.{false≢true}
use Rattle.plc_rows.proofs.Casings.{may_come, no_length, put_first, put_on, some_length}
use Rattle.plc_rows.proofs.casing.Casing.put.Goals as goal
use Rattle.plc_rows.proofs.casing.Casing.put.Goals.{then-number-eq1+then-not-is_empty+in_ok-push, else-number-eq1, else-number-eq1-via-then-number-eq1+else-not-is_empty, else-number-eq1-via-else-number-eq1}

pub returns-clause-cut : goal.returns-clause-cut
returns-clause-cut c =
    let old = c.args.self.now in
    elim c.if-number-eq1.branch [
      | then-number-eq1+then-not-is_empty+in_ok-push w ↦
          put_first old c.if-number-eq1.self c.args.row c.args.number c.push-2.new.self c.push-2.result c.push-2.ensures.ok w.if-number-eq1.true
          (some_length old.last (λ e. false≢true (w.if-not-is_empty.ensures.1 e))) (w.self-is ∙ rw (w.in_ok-push.ensures.ok, w.replace-rows.ensures.value, w.replace-rows.ensures.after, w.new.ensures) refl)
      | else-number-eq1 w ↦ put_on old c.if-number-eq1.self c.args.row c.args.number c.push-2.new.self c.push-2.result c.push-2.ensures.ok
          (elim w.else-number-eq1.branch [
            | else-number-eq1-via-then-number-eq1+else-not-is_empty v ↦ v.if-number-eq1.true ∙ sym (ap (λ n. suc n) (no_length old.last (v.if-not-is_empty.ensures.0 refl)))
            | else-number-eq1-via-else-number-eq1 v ↦ may_come (length old.last) c.args.number c.requires v.if-number-eq1.false
          ]) w.self-is
    ]
