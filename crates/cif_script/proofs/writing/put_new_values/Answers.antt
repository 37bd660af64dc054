use Rattle.std.proofs.Common.{arith}
use Rattle.std.specs.Ordering.{int_eq}
use Rattle.std.proofs.lemmas.Cmp.{int_eq_equiv}
use Rattle.cif_sim_model.specs.Texts.{value_told}
use Rattle.cif_script.specs.Views.{vars_named}
use Rattle.cif_script.proofs.Within.{all_told}
use Rattle.cif_script.proofs.writing.put_new_values.Goals as goal

pub returns : goal.returns
returns c =
    all_told int_eq int_eq_equiv.refl value_told (vars_named c.args.vars.now) c.args.before.now c.args.after.now c.args.numbers.now c.loop-number.number-index c.loop-number.into.items c.args.into.now.items
    (omega arith) c.requires.ascend c.requires.others c.loop-number.invariant
