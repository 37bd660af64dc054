use Rattle.std.proofs.Common.{◌≡◌, ◌∙◌, ap, sym, length, arith}
use Rattle.std.proofs.lemmas.List.{with_items_is}
use Rattle.st_ast.specs.Exec.{Ended}
use Rattle.st_ast.specs.Scan.{scan_of}
use Rattle.st_ast.specs.Values.{Memory}
use Rattle.st_ast.specs.View.{view}
use Rattle.st_scan.specs.Standing.{Standing}
use Rattle.st_scan.proofs.machine.Machine.scan.Goals as goal

pub returns-in-Some-clause-ended : goal.returns-in-Some-clause-ended
returns-in-Some-clause-ended c =
    let kept : length c.execute.new.work ≡ c.self.inside.work.len = omega (arith, c.as_mut_slice.ensures.len) in (
      c.in-Some.field-0,
      ap (λ (m : Standing). scan_of (view m.program) m.memory c.args.row.now) (sym c.self.view_is)
          ∙ ap (λ (m : Memory). scan_of (view c.self.inside.program.now) m c.args.row.now) (sym c.as_slice.ensures.value)
          ∙ c.in-Some.ensures
          ∙ ap (λ (m : Memory). Ended c.in-Some.field-0 m) (sym (ap (λ v. v.items) c.swap.ensures.x_after ∙ with_items_is c.self.inside.work c.execute.new.work kept)),
    )
