use Rattle.std.proofs.Common.{List, ◌++◌, map, sym, ◌∙◌, ap, subst}
use Rattle.cif_scope.specs.Written.{inside_of}
use Rattle.cif_inst.specs.Algebraic.{HaveTypes}
use Rattle.cif_inst.specs.Declarations.{body_data}
use Rattle.cif_inst.specs.Views.{datum_tree}
use Rattle.cif_inst.specs.declared.declarations.Datum.{Datum}
use Rattle.cif_inst.specs.declared.declarations.Sort.TheVariants as sort
use Rattle.cif_inst.proofs.AlgebraicLaws.{body_types}
use Rattle.cif_inst.proofs.algebraic.add_component.Goals as goal

pub add_algs-requires : goal.add_algs-requires
add_algs-requires c =
    subst (HaveTypes c.args.typing.now)
    (sym (
    ap (map datum_tree) c.as_slice.ensures.value
    ∙ c.in_ok-add_row.ensures
    ∙ ap (λ (ds : List Datum). map datum_tree ds ++ body_data sort.Algebraic c.args.component c.args.row.now.prefix (inside_of c.args.row.now.inside)) c.new-found.ensures.items
    ))
    (body_types c.args.typing.now c.args.component c.args.row.now.prefix (inside_of c.args.row.now.inside) c.requires)
