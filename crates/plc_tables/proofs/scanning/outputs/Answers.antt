use Rattle.std.proofs.Common.{rules, length, ap, ◌∙◌, subst, ◌≤◌}
use Rattle.st_ast.specs.Interface.{is_output, numbers_of}
use Rattle.st_ast.specs.declared.tree.Program.{Program}
use Rattle.plc_tables.proofs.ScanLemmas.{outputs_step, outputs_all, outputs_number}
use Rattle.plc_tables.proofs.scanning.outputs.Goals as goal

pub loop-k-preserved : goal.loop-k-preserved
loop-k-preserved c =
    outputs_step c.args.machine.now.program.vars c.args.machine.now.memory c.loop-k.k c.loop-k.cells c.push.new.self c.output.result c.loop-k.invariant
    (search rules) c.output.ensures

few : (c : goal.After-loop-k) → length (numbers_of is_output 0 c.args.machine.now.program.vars) ≤ c.loop-k.k
few c = subst (λ ns. length ns ≤ c.loop-k.k)
    (c.outputs.ensures.numbers ∙ ap (λ (p : Program). numbers_of is_output 0 p.vars) c.program.ensures.same) c.loop-k-test.false

pub returns-clause-values : goal.returns-clause-values
returns-clause-values c =
    outputs_all c.args.machine.now.program.vars c.args.machine.now.memory c.loop-k.k c.loop-k.cells c.loop-k.invariant c.program.ensures.sized (few c)

pub returns-clause-number : goal.returns-clause-number
returns-clause-number c =
    ap length (outputs_all c.args.machine.now.program.vars c.args.machine.now.memory c.loop-k.k c.loop-k.cells c.loop-k.invariant c.program.ensures.sized (few c))
    ∙ outputs_number c.args.machine.now.program.vars 0 c.args.machine.now.memory c.program.ensures.sized
