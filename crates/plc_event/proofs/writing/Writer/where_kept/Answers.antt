use Rattle.std.proofs.Common.{◌+◌, length, ap, ◌∙◌}
use Rattle.cif_net_model.specs.Listing.{all_hold}
use Rattle.cif_net.specs.View.{choice_tree, net_tree}
use Rattle.st_ast.specs.View.{view_stmts}
use Rattle.plc_expr.specs.Texts.{temps}
use Rattle.plc_expr.specs.Written.{naming_of}
use Rattle.plc_event_model.specs.Keeps.{asked, invariants_at}
use Rattle.plc_event.specs.Writers.{new_names_of}
use Rattle.plc_event.proofs.Holding.{kept-written, no-temps-kept, none-found, none-tested, some-found}
use Rattle.plc_event.proofs.writing.Writer.where_kept.Goals as goal

pub returns-then-is_empty-clause-next : goal.returns-then-is_empty-clause-next
returns-then-is_empty-clause-next c =
    let n = net_tree c.args.self.now.net.now in
    let choice = choice_tree c.args.choice.now in
    no-temps-kept n choice c.args.next (none-found c.in_ok-dependent.dependent (length (asked n choice)) c.is_empty.result c.in_ok-dependent.ensures.count c.is_empty.ensures c.if-is_empty.true)

pub returns-then-is_empty-clause-kept : goal.returns-then-is_empty-clause-kept
returns-then-is_empty-clause-kept c =
    let n = net_tree c.args.self.now.net.now in
    let choice = choice_tree c.args.choice.now in
    none-tested n (naming_of c.args.self.now.names.now) (new_names_of c.args.self.now.new.now) c.args.next choice (view_stmts c.args.body)
    (none-found c.in_ok-dependent.dependent (length (asked n choice)) c.is_empty.result c.in_ok-dependent.ensures.count c.is_empty.ensures c.if-is_empty.true)

pub returns-clause-next : goal.returns-clause-next
returns-clause-next c =
    let n = net_tree c.args.self.now.net.now in
    c.in_ok-kept.ensures.next ∙ ap (λ es. c.args.next + temps (all_hold es)) (ap (invariants_at n) c.as_slice.ensures ∙ c.in_ok-dependent.ensures.invariants)

pub returns-clause-kept : goal.returns-clause-kept
returns-clause-kept c =
    let n = net_tree c.args.self.now.net.now in
    let choice = choice_tree c.args.choice.now in
    let some = some-found c.in_ok-dependent.dependent (length (asked n choice)) c.is_empty.result c.in_ok-dependent.ensures.count c.is_empty.ensures c.if-is_empty.false in
    kept-written n c.args.self.now.names.now (new_names_of c.args.self.now.new.now) choice c.begin_after.new.after c.in_ok-begin_after.ensures c.args.next (view_stmts c.args.body)
    (invariants_at n c.as_slice.result.now) some.0 (ap (invariants_at n) c.as_slice.ensures ∙ c.in_ok-dependent.ensures.invariants) some.1 (view_stmts c.in_ok-kept.kept.statements) c.in_ok-kept.ensures.statements
