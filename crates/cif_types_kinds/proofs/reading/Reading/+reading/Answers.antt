use Rattle.std.proofs.Common.{◌≡◌, IfOk, None, option_map, unwrap_or, sym, ap, subst, ◌∙◌}
use Rattle.cif_ast.specs.View.{view, view_form, view_branches}
use Rattle.cif_ast.proofs.ViewLemmas.{view_form-If}
use Rattle.cif_source.specs.Kinds.{kind_of, shape_kind}
use Rattle.cif_types_kinds.specs.Tables.{kind_for}
use Rattle.cif_types_kinds.specs.Readings.{component_in, lists_in, received_in}
use Rattle.cif_types_kinds.specs.Faults.{first_of}
use Rattle.cif_types_kinds.proofs.FaultLaws.{if_kind}
use Rattle.cif_types_kinds.proofs.reading.Reading.+reading.Goals as goal

pub read_form-returns-in_ok-first-in-If-clause-kind : goal.read_form-returns-in_ok-first-in-If-clause-kind
read_form-returns-in_ok-first-in-If-clause-kind t c =
    subst (λ s. IfOk c.ask_like.result (λ k. kind_for (lists_in c.args.self.now) k ≡ shape_kind (component_in c.args.self.now) (received_in c.args.self.now) s))
    (sym (ap view_form c.in-If.is ∙ view_form-If c.in-If.branches c.in-If.other))
    (if_kind (component_in c.args.self.now) (received_in c.args.self.now) (kind_for (lists_in c.args.self.now)) (view_branches c.in-If.branches) (view c.in-If.other) c.in_ok-first-in-If.first c.ask_like.result
    (c.in_ok-first-in-If.ensures.kind ∙ ap (λ bs. first_of (component_in c.args.self.now) (received_in c.args.self.now) None (view_branches bs)) c.as_slice-in-If.ensures)
    (subst (λ e. IfOk c.ask_like.result (λ k. kind_for (lists_in c.args.self.now) k ≡ unwrap_or (option_map (kind_for (lists_in c.args.self.now)) c.in_ok-first-in-If.first) (kind_of (component_in c.args.self.now) (received_in c.args.self.now) (view e)))) c.get-in-If.ensures c.ask_like.ensures.kind))
