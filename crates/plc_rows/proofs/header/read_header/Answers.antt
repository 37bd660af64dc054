use Rattle.std.proofs.Common.{◌≡◌, ◌+◌, ◌∙◌, [], ◌∷◌, length, Some, sym, ap, subst, arith}
use Rattle.csv.specs.Records.{fields_of, field_at}
use Rattle.plc_rows.specs.Rows.{header}
use Rattle.plc_rows.proofs.HeaderLaws.{Reading, starts, few, unwanted, within, repeated, goes_on, missing, whole}
use Rattle.std.proofs.lemmas.List.{length-append}
use Rattle.plc_rows.proofs.ColumnLaws.{as_many_inputs}
use Rattle.plc_rows.proofs.RowLaws.{field_within}
use Rattle.plc_rows.proofs.header.read_header.Goals as goal

pub loop-name-init : goal.loop-name-init
loop-name-init c =
    subst (λ cols. Reading c.args.program.now.vars (fields_of c.args.header.now) cols c.in_ok-seen.seen) (sym c.new-found.ensures)
    (starts c.args.program.now.vars (fields_of c.args.header.now) c.in_ok-seen.seen (length c.inputs.result.now + 1)
    (omega (arith, ap length c.inputs.ensures.numbers, as_many_inputs 0 c.args.program.now.vars)) c.in_ok-seen.ensures)

pub overflow_cast-number : goal.overflow_cast-number
overflow_cast-number c = omega (arith, few c.args.program.now.vars (fields_of c.args.header.now) c.loop-name.found c.loop-name.seen c.loop-name.invariant, c.requires, c.len-in-Some.ensures)

pub overflow_add-number : goal.overflow_add-number
overflow_add-number c = omega (arith, few c.args.program.now.vars (fields_of c.args.header.now) c.loop-name.found c.loop-name.seen c.loop-name.invariant, c.requires, c.len-in-Some.ensures)

pub returns-in_default-2-clause-err : goal.returns-in_default-2-clause-err
returns-in_default-2-clause-err c =
    let at = ap (λ n. field_at (fields_of c.args.header.now) n) (sym c.len.ensures) ∙ sym c.in-Some.ensures.value in
    unwanted c.args.program.now.vars (fields_of c.args.header.now) c.loop-name.found c.loop-name.seen c.loop-name.invariant c.in-Some.name.now at
    (sym c.in_ok-column.ensures ∙ c.in_default-2.is) ∙ ap (λ n. Some (header (n + 1))) (sym c.len-in-Some.ensures)

pub replace-requires : goal.replace-requires
replace-requires c =
    let at = ap (λ n. field_at (fields_of c.args.header.now) n) (sym c.len.ensures) ∙ sym c.in-Some.ensures.value in
    omega (
      arith,
      within c.args.program.now.vars (fields_of c.args.header.now) c.loop-name.found c.loop-name.seen c.loop-name.invariant c.in-Some.name.now at c.in-Some-2.column
          (sym c.in_ok-column.ensures ∙ c.in-Some-2.is),
      c.place.ensures,
    )

pub returns-then-replace-clause-err : goal.returns-then-replace-clause-err
returns-then-replace-clause-err c =
    let at = ap (λ n. field_at (fields_of c.args.header.now) n) (sym c.len.ensures) ∙ sym c.in-Some.ensures.value in
    repeated c.args.program.now.vars (fields_of c.args.header.now) c.loop-name.found c.loop-name.seen c.loop-name.invariant c.in-Some.name.now at c.in-Some-2.column
    (sym c.in_ok-column.ensures ∙ c.in-Some-2.is) (rw (c.if-replace.true, c.place.ensures) at c.replace.ensures.was) ∙ ap (λ n. Some (header (n + 1))) (sym c.len-in-Some.ensures)

pub loop-name-smaller : goal.loop-name-smaller
loop-name-smaller c =
    let at = ap (λ n. field_at (fields_of c.args.header.now) n) (sym c.len.ensures) ∙ sym c.in-Some.ensures.value in
    let inside = field_within (fields_of c.args.header.now) (length c.loop-name.found) c.in-Some.name.now at in
    let longer : length c.push.new.self ≡ length c.loop-name.found + 1 = ap length c.in_ok-push.ensures.ok ∙ length-append c.loop-name.found (c.in-Some-2.column ∷ []) in
    omega (arith, inside, longer)

pub loop-name-preserved : goal.loop-name-preserved
loop-name-preserved c =
    let at = ap (λ n. field_at (fields_of c.args.header.now) n) (sym c.len.ensures) ∙ sym c.in-Some.ensures.value in
    subst (λ cols. Reading c.args.program.now.vars (fields_of c.args.header.now) cols c.replace.new.self) (sym c.in_ok-push.ensures.ok)
    (goes_on c.args.program.now.vars (fields_of c.args.header.now) c.loop-name.found c.loop-name.seen c.loop-name.invariant c.in-Some.name.now at c.in-Some-2.column
    (sym c.in_ok-column.ensures ∙ c.in-Some-2.is) c.replace.new.self (rw (c.if-replace.false, c.place.ensures) at c.replace.ensures.was) (rw c.place.ensures at c.replace.ensures.is))

pub overflow_add-result : goal.overflow_add-result
overflow_add-result c = omega (arith, few c.args.program.now.vars (fields_of c.args.header.now) c.loop-name.found c.loop-name.seen c.loop-name.invariant, c.requires, c.len-then-len-wanted.ensures)

pub returns-then-len-wanted-clause-err : goal.returns-then-len-wanted-clause-err
returns-then-len-wanted-clause-err c =
    let at = ap (λ n. field_at (fields_of c.args.header.now) n) (sym c.len.ensures) ∙ sym c.in_default.ensures.value in
    missing c.args.program.now.vars (fields_of c.args.header.now) c.loop-name.found c.loop-name.seen c.loop-name.invariant at
    (omega (arith, ap length c.inputs.ensures.numbers, as_many_inputs 0 c.args.program.now.vars, c.len-2.ensures, c.if-len-wanted.true)) ∙ ap (λ n. Some (header (n + 1))) (sym c.len-then-len-wanted.ensures)

pub returns-clause-ok : goal.returns-clause-ok
returns-clause-ok c =
    let at = ap (λ n. field_at (fields_of c.args.header.now) n) (sym c.len.ensures) ∙ sym c.in_default.ensures.value in
    whole c.args.program.now.vars (fields_of c.args.header.now) c.loop-name.found c.loop-name.seen c.loop-name.invariant at
    (omega (arith, ap length c.inputs.ensures.numbers, as_many_inputs 0 c.args.program.now.vars, c.len-2.ensures, c.if-len-wanted.false))
