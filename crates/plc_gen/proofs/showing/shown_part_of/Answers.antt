use Rattle.std.proofs.Common.{◌≡◌, ◌++◌, List, map, ap, ◌∙◌}
use Rattle.std.proofs.lemmas.Result.{IfOk-weaker}
use Rattle.cif_net.specs.View.{alg_tree, net_tree}
use Rattle.cif_net.specs.declared.data.Alg.{Alg}
use Rattle.st_ast.specs.View.{view_stmts}
use Rattle.st_ast.specs.declared.tree.StVar.{StVar}
use Rattle.plc_expr.specs.Written.{naming_of}
use Rattle.plc_frame.specs.Given.{part_tree}
use Rattle.plc_frame.specs.declared.given.Part.{Part}
use Rattle.plc_event_model.specs.Own.{if_face}
use Rattle.plc_event_model.specs.ProgramParts.{defined_types, shown_part, shown_text}
use Rattle.plc_gen.specs.Outlines.{declared_from}
use Rattle.plc_gen.proofs.Shown.{shown-is}
use Rattle.plc_gen.proofs.showing.shown_part_of.Goals as goal

pub returns : goal.returns
returns c =
    let n = net_tree c.args.net.now in
    let types = c.as_slice.result.now in
    let own = c.add_ifs.new.self.variables in
    let body = view_stmts c.in_ok-types.field-0.statements in
    let made : Part = record { own = c.add_ifs.new.self.variables; body = c.in_ok-types.field-0.statements } in
    let own_is : own ≡ declared_from c.args.first (map if_face types) = c.in_ok-add_ifs.ensures.variables ∙ ap (λ (vs : List StVar). vs ++ declared_from c.args.first (map if_face types)) c.new.ensures in
    let types_is : types ≡ defined_types n n.algs = c.as_slice.ensures ∙ c.in_ok-types.ensures.types ∙ ap (λ (as' : List Alg). defined_types n (map alg_tree as')) c.as_slice-algs.ensures in
    let body_is : body ≡ shown_text (naming_of c.args.names.now) 0 c.args.first n.algs = c.in_ok-types.ensures.statements ∙ ap (λ (as' : List Alg). shown_text (naming_of c.args.names.now) 0 c.args.first (map alg_tree as')) c.as_slice-algs.ensures in
    IfOk-weaker c.new-2.result (λ (part : Part). part ≡ made) (λ (part : Part). part_tree part ≡ shown_part n c.args.first)
    (λ part is. ap part_tree is ∙ shown-is n c.args.names.now c.requires.names c.args.first own types body c.requires.named own_is types_is body_is) c.new-2.ensures
