use Rattle.std.proofs.Common.{◌+◌, ◌-◌, drop, sym, ap, ◌∙◌, arith}
use Rattle.cif_scope.specs.Looks.{names_at}
use Rattle.cif_resolve_cycles.specs.Names.{place_of}
use Rattle.cif_resolve_cycles.proofs.NumberLaws.{place-here, place-past}
use Rattle.cif_resolve_cycles.proofs.numbers.place_of.Goals as goal

pub returns-then-slot-slots : goal.returns-then-slot-slots
returns-then-slot-slots c =
    sym (c.loop-body.invariant ∙ place-here c.args.scopes.now.table.scopes c.loop-body.body c.loop-body.slot c.name.result.now (omega arith) (omega arith) c.name.ensures)

pub loop-body-preserved : goal.loop-body-preserved
loop-body-preserved c =
    c.loop-body.invariant ∙ place-past c.args.scopes.now.table.scopes c.loop-body.body c.loop-body.slot (omega arith) (omega arith)
    ∙ ap (λ n. place_of (drop (c.loop-body.body + 1) c.args.scopes.now.table.scopes) (c.loop-body.slot - n)) (sym c.slots-slots.ensures)
