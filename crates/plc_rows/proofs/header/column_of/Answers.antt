use Rattle.std.proofs.Common.{◌∙◌, length, false, true, ap, get_or, None, codes, refl, arith}
use Rattle.plc_rows.proofs.Checking.{no_front, told_alike, told_other}
use Rattle.plc_rows.proofs.Finding.{not_declared, otherwise_spelled, column_found, number_fits, as_many_columns}
use Rattle.plc_rows.proofs.header.column_of.Goals as goal

pub returns-then-eq : goal.returns-then-eq
returns-then-eq c =
    let is = told_alike c.eq.result c.args.name.now c.as_slice.result.now (codes "scan") true c.eq.ensures c.as_slice.ensures c.if-eq.true in
    rw is refl

pub returns-in_default : goal.returns-in_default
returns-in_default c =
    not_declared c.args.name.now c.args.program.now.vars (told_alike c.eq.result _ c.as_slice.result.now (codes "scan") false c.eq.ensures c.as_slice.ensures c.if-eq.false)
    c.in_ok-number.field-0 c.in_ok-number.ensures c.in_default.is

pub returns-then-ne : goal.returns-then-ne
returns-then-ne c =
    otherwise_spelled c.args.name.now c.args.program.now.vars (told_alike c.eq.result _ c.as_slice.result.now (codes "scan") false c.eq.ensures c.as_slice.ensures c.if-eq.false)
    (no_front _ _ c.program.ensures.checked) c.in_ok-number.field-0 c.in_ok-number.ensures c.in-Some.number c.in-Some.is c.index-as_slice-number.result
    (c.index-as_slice-number.is ∙ ap (λ vs. get_or vs c.in-Some.number c.index-as_slice-number.result) (c.as_slice-2.ensures ∙ ap (λ p. p.vars) c.program.ensures.same))
    (told_other c.ne.result c.as_slice-3.result.now _ c.index-as_slice-number.result.name true c.ne.ensures c.as_slice-3.ensures c.if-ne.true)

pub bounds-known-number : goal.bounds-known-number
bounds-known-number c =
    omega (arith, ap length c.requires, as_many_columns 0 c.args.program.now.vars, number_fits c.args.program.now.vars c.args.name.now c.in_ok-number.field-0 c.in-Some.number c.in_ok-number.ensures c.in-Some.is)

pub returns : goal.returns
returns c =
    ap (λ ks. get_or ks c.in-Some.number None) c.requires
    ∙ column_found c.args.name.now c.args.program.now.vars (told_alike c.eq.result _ c.as_slice.result.now (codes "scan") false c.eq.ensures c.as_slice.ensures c.if-eq.false)
    (no_front _ _ c.program.ensures.checked) c.in_ok-number.field-0 c.in_ok-number.ensures c.in-Some.number c.in-Some.is c.index-as_slice-number.result
    (c.index-as_slice-number.is ∙ ap (λ vs. get_or vs c.in-Some.number c.index-as_slice-number.result) (c.as_slice-2.ensures ∙ ap (λ p. p.vars) c.program.ensures.same))
    (told_other c.ne.result c.as_slice-3.result.now _ c.index-as_slice-number.result.name false c.ne.ensures c.as_slice-3.ensures c.if-ne.false)
