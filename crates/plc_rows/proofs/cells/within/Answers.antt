use Rattle.std.proofs.Common.{◌≡◌, ◌∙◌, true, false, ◌&&◌, ap, sym, refl, Some, FitsSigned, w64, rules}
use Rattle.std.specs.Prelude.{int_le}
use Rattle.std.proofs.lemmas.Int.{to_z-of_z}
use Rattle.plc_rows.proofs.CellLaws.{between, compared, either_out, no_number, a_number}
use Rattle.plc_rows.proofs.cells.within.Goals as goal
use Rattle.plc_rows.proofs.cells.within.Goals.{else-lo-value-via-then-lo-value+else-value-hi, else-lo-value-via-else-lo-value}

pub returns-in_err-value : goal.returns-in_err-value
returns-in_err-value c =
    c.from_residual.ensures
    ∙ sym (no_number (λ z. int_le c.args.lo z && int_le z c.args.hi) c.args.cell.now c.read_int.result c.in_err-value.was c.read_int.ensures.read (λ z e. between c.args.lo c.args.hi z c.ranges.lo c.ranges.hi e))

pub returns-then-value-hi : goal.returns-then-value-hi
returns-then-value-hi c =
    let fits : FitsSigned w64 c.in_ok-value.value = search rules in
    let low : int_le c.args.lo c.in_ok-value.value ≡ true = compared c.args.lo c.in_ok-value.value true c.ranges.lo fits c.if-lo-value.true in
    let high : int_le c.in_ok-value.value c.args.hi ≡ true = compared c.in_ok-value.value c.args.hi true fits c.ranges.hi c.if-value-hi.true in
    ap Some (to_z-of_z w64 c.in_ok-value.value fits)
    ∙ sym (a_number (λ z. int_le c.args.lo z && int_le z c.args.hi) c.args.cell.now c.in_ok-value.value true c.in_ok-value.ensures.some fits (rw (low, high) refl))

pub returns-else-lo-value : goal.returns-else-lo-value
returns-else-lo-value c =
    let fits : FitsSigned w64 c.in_ok-value.value = search rules in
    let out : (int_le c.args.lo c.in_ok-value.value && int_le c.in_ok-value.value c.args.hi) ≡ false =
    elim c.else-lo-value.branch [
      | else-lo-value-via-then-lo-value+else-value-hi w ↦ either_out (int_le c.args.lo c.in_ok-value.value) _ (compared c.in_ok-value.value c.args.hi false fits c.ranges.hi w.if-value-hi.false)
      | else-lo-value-via-else-lo-value w ↦ ap (λ b. b && int_le c.in_ok-value.value c.args.hi) (compared c.args.lo c.in_ok-value.value false c.ranges.lo fits w.if-lo-value.false)
    ] in
    sym (a_number (λ z. int_le c.args.lo z && int_le z c.args.hi) c.args.cell.now c.in_ok-value.value false c.in_ok-value.ensures.some fits out)
