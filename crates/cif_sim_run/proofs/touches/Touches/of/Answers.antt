use Rattle.std.proofs.Common.{◌<◌, length, List, refl, sym, ap, subst, ◌∙◌, arith}
use Rattle.std.specs.Prelude.{slice_get}
use Rattle.std.proofs.lemmas.Option.{slice_get_read}
use Rattle.cif_net.specs.declared.guarded.Guarded.{Guarded}
use Rattle.cif_script.specs.declared.touched.Touched.{Touched}
use Rattle.cif_sim_run.proofs.touches.Touches.of.Goals as goal

pub returns : goal.returns
returns c d at =
    let k = c.args.choice in
    let xs = c.as_slice.result.now in
    let listed = subst (λ (g : Guarded). k < length g.choices) (sym c.self.view_is) c.requires in
    let counted = c.self.invariant.counted in
    let long = ap (λ (ys : List Touched). length ys) c.as_slice.ensures in
    let within : k < length xs = omega (arith, listed, counted, long) in
    c.self.invariant.each k d c.index-as_slice-choice.result
    (ap (λ (g : Guarded). slice_get g.choices k) c.self.view_is ∙ at)
    (ap (λ (ys : List Touched). slice_get ys k) (sym c.as_slice.ensures) ∙ slice_get_read xs (length xs) k c.index-as_slice-choice.result refl within c.index-as_slice-choice.is)
