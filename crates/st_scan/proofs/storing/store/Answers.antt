use Rattle.std.proofs.Common.{rules, ◌≡◌, ◌+◌, ◌∙◌, ap, sym, pos, drop, get_or, slice_set, w64, FitsSigned, arith}
use Rattle.std.proofs.lemmas.Int.{to_z-of_z}
use Rattle.st_scan.specs.Stored.{stored}
use Rattle.st_scan.proofs.Rows.{stores-one, stores-none}
use Rattle.st_scan.proofs.storing.store.Goals as goal
use Rattle.st_scan.proofs.storing.store.Goals.{then-k-inputs, else-k-inputs}

pub loop-k-preserved : goal.loop-k-preserved
loop-k-preserved c =
    let k = c.loop-k.k in
    let row = c.args.row.now in
    let inputs = c.args.inputs.now in
    let more = c.loop-k-test.true in
    elim c.if-k-inputs.branch [
      | then-k-inputs w ↦
          let fits : FitsSigned w64 (get_or row k (pos 0)) = search rules in
          let wrote : c.if-k-inputs.work ≡ slice_set c.loop-k.work (get_or inputs k 0) (get_or row k (pos 0)) = w.work-is ∙ grind (arith, to_z-of_z, w.put.ensures) in
          ap (stored (drop (k + 1) row) (drop (k + 1) inputs)) wrote
          ∙ sym (stores-one row inputs c.loop-k.work k more w.if-k-inputs.true)
          ∙ c.loop-k.invariant
      | else-k-inputs w ↦
          ap (stored (drop (k + 1) row) (drop (k + 1) inputs)) w.work-is
          ∙ sym (stores-none row inputs c.loop-k.work k w.if-k-inputs.false)
          ∙ c.loop-k.invariant
    ]
