use Rattle.std.proofs.Common.{arith}
use Rattle.std.specs.Prelude.{nat_eq}
use Rattle.std.proofs.lemmas.Bool.Decides.{nat_tests}
use Rattle.cif_sim_model.specs.Texts.{place_told}
use Rattle.cif_script.specs.Views.{autos_named}
use Rattle.cif_script.proofs.Within.{all_told}
use Rattle.cif_script.proofs.writing.put_new_places.Goals as goal

pub returns : goal.returns
returns c =
    all_told nat_eq (λ a. grind (arith, nat_tests)) place_told (autos_named c.args.autos.now) c.args.before.now c.args.after.now c.args.numbers.now c.loop-number.number-index c.loop-number.into.items c.args.into.now.items
    (omega arith) c.requires.ascend c.requires.others c.loop-number.invariant
