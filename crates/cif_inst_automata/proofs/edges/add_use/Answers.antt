use Rattle.std.proofs.Common.{List, map, ◌∙◌, ap}
use Rattle.cif_ast.specs.View.{view as source_view, view_updates as source_updates}
use Rattle.cif_ast.specs.declared.expressions.Expr.{Expr}
use Rattle.cif_ast.specs.declared.edges.Update.{Update}
use Rattle.cif_net_expr.specs.View.{view}
use Rattle.cif_inst_model.specs.Flat.{net_updates_of}
use Rattle.cif_inst_model.specs.Translation.{net_guard}
use Rattle.cif_inst_names.specs.Looking.{component_at}
use Rattle.cif_inst_automata.proofs.EdgeLaws.{edge_added}
use Rattle.cif_inst_automata.proofs.edges.add_use.Goals as goal

pub returns : goal.returns
returns c =
    edge_added c.args.looking.now c.args.component c.args.ends.0 c.args.ends.1 c.args.edge.now c.args.event_use.now
    c.event.result c.net_role.result c.into_inner.result c.in_ok-sent.sent c.in_ok-updates.updates c.in_ok-places.places c.args.all.now c.push.new.self
    c.event.ensures
    c.net_role.ensures
    (ap view c.into_inner.ensures ∙ c.in_ok-guard.ensures ∙ ap (λ (gs : List Expr). net_guard (component_at c.args.looking.now c.args.component) c.args.event_use.now.name.at (map source_view gs)) c.as_slice.ensures)
    c.in_ok-sent.ensures
    (c.in_ok-updates.ensures ∙ ap (λ (us : List Update). net_updates_of (component_at c.args.looking.now c.args.component) (source_updates us)) c.as_slice-2.ensures)
    (c.in_ok-places.ensures c.args.ends.0)
    c.in_ok-push.ensures.ok
