use Rattle.std.proofs.Common.{ap, ap₂, slice_get, ◌∙◌}
use Rattle.cif_net.specs.View.{net_tree}
use Rattle.cif_net_expr.specs.View.{view}
use Rattle.st_ast.specs.Tree.{assign}
use Rattle.st_ast.specs.View.{view_expr}
use Rattle.plc_expr.specs.Texts.{before, text}
use Rattle.plc_expr.specs.Written.{naming_of}
use Rattle.plc_event_model.specs.Writes.{range_test}
use Rattle.plc_event.specs.Writers.{new_names_of}
use Rattle.plc_event.proofs.Updating.{set-added, view_assign}
use Rattle.plc_event.proofs.writing.Writer.set.Goals as goal

pub returns-clause-before : goal.returns-clause-before
returns-clause-before c =
    set-added c.args.draft.now.statements c.written.new.draft.statements c.push.new.self c.in_ok-tests.tests c.append.new.self
    (before (naming_of c.args.self.now.names.now) c.args.draft.now.next (view c.args.value.now)) (range_test (new_names_of c.args.self.now.new.now) c.args.var (slice_get (net_tree c.args.self.now.net.now).vars c.args.var))
    _ c.in_ok-push.ensures.ok (assign ((new_names_of c.args.self.now.new.now).next c.args.var) (text (naming_of c.args.self.now.names.now) c.args.draft.now.next (view c.args.value.now)))
    c.in_ok-text.ensures.before
    (view_assign c.in_ok-target.target c.into_inner-value.result ∙ ap₂ assign c.in_ok-target.ensures (ap view_expr c.into_inner-value.ensures ∙ c.in_ok-text.ensures.text))
    c.in_ok-tests.ensures c.in_ok-append.ensures
