use Rattle.std.proofs.Common.{sym, ◌∙◌}
use Rattle.st_check.specs.PlacedView.{stmts_view}
use Rattle.st_scan.proofs.Agreement.{scan-same}
use Rattle.st_scan.proofs.machine.execute.Goals as goal

pub returns : goal.returns
returns c =
    sym (scan-same c.args.program.now (stmts_view c.placed_body.result.now) c.inputs.result.now c.store.new.work c.args.memory.now c.args.row.now
    c.placed_body.ensures c.inputs.ensures.numbers c.requires.memory c.store.ensures)
    ∙ c.run.ensures.is
