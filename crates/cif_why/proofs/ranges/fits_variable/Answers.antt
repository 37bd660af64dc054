use Rattle.std.proofs.Common.{◌∙◌, ap, w64}
use Rattle.std.proofs.lemmas.Int.{to_z-of_z}
use Rattle.cif_eval.specs.Ranges.{in_type}
use Rattle.cif_eval.proofs.Ranged.{variable-takes}
use Rattle.cif_why.proofs.ranges.fits_variable.Goals as goal

pub returns : goal.returns
returns c =
    c.fits_ty.ensures
    ∙ ap (in_type c.ty_at.result) (to_z-of_z w64 c.args.value c.ranges.value)
    ∙ ap (λ o. in_type o c.args.value) c.ty_at.ensures
    ∙ variable-takes c.args.vars.now c.args.variable c.args.value
