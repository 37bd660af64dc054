use Rattle.std.proofs.Common.{◌≡◌, flat_map, map, sym, ap, subst, ◌∙◌}
use Rattle.std.proofs.lemmas.Result.{IfOk-weaker}
use Rattle.cif_net_model.specs.Exprs.{targets}
use Rattle.cif_net_model.specs.Listing.{NetChoice}
use Rattle.cif_net.specs.View.{choice_tree, net_tree}
use Rattle.st_ast.specs.View.{view_stmts}
use Rattle.plc_frame.specs.Given.{part_tree}
use Rattle.plc_frame.specs.declared.given.Part.{Part}
use Rattle.plc_event_model.specs.ProgramParts.{part_for}
use Rattle.plc_gen.specs.Outlines.{StandOnce}
use Rattle.plc_gen.proofs.Namings.{same_still}
use Rattle.plc_gen.proofs.Once.{stand-once}
use Rattle.plc_gen.proofs.Parting.{part-is}
use Rattle.plc_gen.proofs.parts.event_part_of.Goals as goal

pub declared-requires-clause-once : goal.declared-requires-clause-once
declared-requires-clause-once c =
    subst StandOnce (sym c.in_ok-outline.ensures.vars) (stand-once (flat_map (λ (d : NetChoice). targets d.writes) (map choice_tree c.args.choices.now)))

pub statements_of-requires-clause-same : goal.statements_of-requires-clause-same
statements_of-requires-clause-same c =
    same_still (net_tree c.args.net.now) c.args.tables.now.scratch.after c.args.names.now c.declared.new.names c.requires.same c.requires.names c.in_ok-variables.ensures.still_names

pub returns-clause-part : goal.returns-clause-part
returns-clause-part c =
    let n = net_tree c.args.net.now in
    let cs = map choice_tree c.args.choices.now in
    let made : Part = record { own = c.in_ok-variables.field-0.variables; body = c.in_ok-body.body } in
    IfOk-weaker c.new.result (λ (part : Part). part ≡ made) (λ (part : Part). part_tree part ≡ part_for n c.args.first cs)
    (λ part is.
    ap part_tree is
    ∙ part-is n cs c.args.first c.in_ok-outline.outline c.declared.new.names c.declared.new.new c.in_ok-outline.ensures c.in_ok-variables.ensures.still_names c.requires.named c.in_ok-variables.ensures.names c.in_ok-variables.ensures.in_range
    c.in_ok-variables.ensures.received
    c.in_ok-variables.field-0.ifs c.in_ok-marks.marks.done c.in_ok-variables.field-0.variables (view_stmts c.in_ok-body.body) c.in_ok-variables.ensures.ifs c.in_ok-marks.ensures.done
    c.in_ok-variables.ensures.variables c.in_ok-body.ensures.statements)
    c.new.ensures
