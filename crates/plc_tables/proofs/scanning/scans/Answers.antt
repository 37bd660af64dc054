use Rattle.std.proofs.Common.{rules, ◌≡◌, refl, sym, ap, ◌∙◌, length, map, []}
use Rattle.st_ast.specs.Interface.{is_output, numbers_of, output_values}
use Rattle.st_ast.specs.Scan.{start_memory}
use Rattle.st_ast.specs.View.{view}
use Rattle.st_ast.specs.declared.tree.Program.{Program}
use Rattle.plc_rows.specs.declared.row.Row.{Row}
use Rattle.st_scan.specs.Endings.{stopped}
use Rattle.plc_tables.proofs.ScanLemmas.{stop_at, more_at, reaches_all, all_rows, all_more}
use Rattle.plc_tables.proofs.scanning.scans.Goals as goal

pub loop-k-init : goal.loop-k-init
loop-k-init c = (search rules, ([], (refl, search rules), search rules), search rules)

pub returns-in-Err-clause-stops : goal.returns-in-Err-clause-stops
returns-in-Err-clause-stops c =
    let inv = c.loop-k.invariant in
    stop_at c.args.program.now c.args.rows.now c.loop-k.k inv.1.0 c.loop-k.machine.memory c.loop-k.machine.program inv.0 inv.1.1 c.index-rows-k.result
    c.index-rows-k.is c.loop-k-test.true c.as_slice.result.now c.as_slice.ensures (stopped c.in-Err.error) c.in-Err.ensures.stopped

pub loop-k-preserved : goal.loop-k-preserved
loop-k-preserved c =
    let inv = c.loop-k.invariant in
    let ended = c.in_default.ensures.ended in (
      c.in_default.ensures.program ∙ inv.0,
      more_at c.args.program.now c.args.rows.now c.loop-k.k inv.1.0 c.loop-k.machine.memory c.loop-k.machine.program inv.0 inv.1.1 c.index-rows-k.result
          c.index-rows-k.is c.loop-k-test.true c.as_slice.result.now c.as_slice.ensures ended.0 c.scan.new.self.memory ended.1 c.loop-k.shown c.push.new.self
          c.in_ok-outputs.field-0 inv.1.2 c.in_ok-push.ensures.ok c.scan.new.self.program c.in_default.ensures.program c.in_ok-outputs.ensures.values,
      all_more (λ (row : Row). length row.cells ≡ length (numbers_of is_output 0 c.args.program.now.vars)) c.loop-k.shown c.in_ok-outputs.field-0 c.push.new.self inv.2
          (c.in_ok-outputs.ensures.number ∙ ap (λ (p : Program). length (numbers_of is_output 0 p.vars)) (c.in_default.ensures.program ∙ inv.0)) c.in_ok-push.ensures.ok,
    )

pub returns-clause-all : goal.returns-clause-all
returns-clause-all c =
    let all = c.loop-k.invariant.1 in
    let end = reaches_all (view c.args.program.now) (start_memory (view c.args.program.now)) _ c.loop-k.k all.0 c.loop-k.machine.memory all.1 (all_rows c.args.rows.now c.loop-k.k c.loop-k-test.false c.loop-k.auto.k-end) in
    ap length end.0 ∙ end.1

pub returns-clause-values : goal.returns-clause-values
returns-clause-values c =
    let all = c.loop-k.invariant.1 in
    let end = reaches_all (view c.args.program.now) (start_memory (view c.args.program.now)) _ c.loop-k.k all.0 c.loop-k.machine.memory all.1 (all_rows c.args.rows.now c.loop-k.k c.loop-k-test.false c.loop-k.auto.k-end) in
    all.2 ∙ sym (ap (map (output_values c.args.program.now.vars)) end.0)

pub returns-clause-number : goal.returns-clause-number
returns-clause-number c = c.loop-k.invariant.2
