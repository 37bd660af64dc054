use Rattle.std.proofs.Common.{◌≡◌, ap, arith}
use Rattle.std.proofs.lemmas.Int.{to_z-of_z}
use Rattle.cif_ast.specs.View.{view}
use Rattle.cif_source.specs.Source.{type_tree}
use Rattle.cif_source.specs.Types.{first_of_type}
use Rattle.cif_inst_types.specs.Types.{given_tree}
use Rattle.cif_inst_types.proofs.FirstLaws.{first-told, nearest-told}
use Rattle.cif_inst_types.proofs.types.first_value.Goals as goal

pub returns-in-Some : goal.returns-in-Some
returns-in-Some c = λ t d h listed own typed valued.
    let e : c.value_or_zero.result ≡ first_of_type d (type_tree c.args.ty.now) (given_tree c.args.value) =
    first-told t c.args.types.now c.args.turns h c.args.body d (listed, own) (type_tree c.args.ty.now) (given_tree c.args.value) (view c.in-Some.value.now) c.value_or_zero.result
    (ap given_tree c.in-Some.is) valued c.value_or_zero.ensures in
    grind (arith, to_z-of_z, e)

pub returns-in_ok-range-in-None : goal.returns-in_ok-range-in-None
returns-in_ok-range-in-None c = λ t d h listed own typed valued.
    let e : c.nearest_zero.result ≡ first_of_type d (type_tree c.args.ty.now) (given_tree c.args.value) =
    nearest-told t c.args.types.now c.args.turns h c.args.body d (listed, own) (type_tree c.args.ty.now) (given_tree c.args.value) c.in_ok-range-in-None.range c.nearest_zero.result
    (ap given_tree c.in-None.is) (c.in_ok-range-in-None.ensures t d h listed own typed) c.nearest_zero.ensures in
    grind (arith, to_z-of_z, e)
