use Rattle.std.proofs.Common.{◌≡◌, ◌++◌, drop}
use Rattle.std.specs.Prelude.{flat_map}
use Rattle.std.specs.Ordering.{int_eq}
use Rattle.cif_sim_model.specs.Texts.{value_told}
use Rattle.cif_script.specs.Changes.{change_at}
use Rattle.cif_script.specs.Views.{vars_named}
use Rattle.cif_script.proofs.writing.put_new_values.Given as goal

abbrev pub invariant-loop-number : goal.invariant-loop-number
invariant-loop-number l =
    l.into.items ++ flat_map (change_at int_eq value_told (vars_named l.vars) l.before l.after) (drop l.number-index l.numbers)
    ≡ l.initial.into.items ++ flat_map (change_at int_eq value_told (vars_named l.vars) l.before l.after) l.numbers
