use Rattle.std.proofs.Common.{sym, ◌∙◌}
use Rattle.cif_source.specs.Source.{source_of}
use Rattle.cif_inst_paths.proofs.RowLaws.{row_before, scope_there, name_there, prefix_told, prefix_root}
use Rattle.cif_inst_paths.proofs.rows.prefix_at.Goals as goal

pub inner_prefix-requires-clause-row : goal.inner_prefix-requires-clause-row
inner_prefix-requires-clause-row c =
    row_before (source_of c.args.bodies.now.spec.now) c.args.bodies.now c.requires.bodies c.args.component c.requires.component c.args.rows.now c.in-Some.stands c.requires.rows
    (sym c.stands_at.ensures ∙ c.in-Some.is)

pub inner_prefix-requires-clause-body : goal.inner_prefix-requires-clause-body
inner_prefix-requires-clause-body c =
    scope_there (source_of c.args.bodies.now.spec.now) c.args.bodies.now c.requires.bodies c.args.component c.requires.component c.in-Some.stands (sym c.stands_at.ensures ∙ c.in-Some.is)

pub inner_prefix-requires-clause-slot : goal.inner_prefix-requires-clause-slot
inner_prefix-requires-clause-slot c =
    name_there (source_of c.args.bodies.now.spec.now) c.args.bodies.now c.requires.bodies c.args.component c.requires.component c.in-Some.stands (sym c.stands_at.ensures ∙ c.in-Some.is)

pub returns-in-Some : goal.returns-in-Some
returns-in-Some c =
    prefix_told (source_of c.args.bodies.now.spec.now) c.args.bodies.now c.requires.bodies c.args.component c.requires.component c.args.rows.now c.in-Some.stands c.inner_prefix.result c.requires.rows
    (sym c.stands_at.ensures ∙ c.in-Some.is) c.inner_prefix.ensures

pub returns-in-None : goal.returns-in-None
returns-in-None c = c.new.ensures ∙ prefix_root (source_of c.args.bodies.now.spec.now) c.args.bodies.now c.requires.bodies c.args.component c.requires.component (sym c.stands_at.ensures ∙ c.in-None.is)
