use Rattle.std.proofs.Common.{◌≡◌, ◌++◌, map, drop, length}
use Rattle.std.specs.List.{zip}
use Rattle.cif_sim_model.specs.Texts.{listed, value_told}
use Rattle.cif_script.specs.Views.{vars_named}
use Rattle.cif_script.proofs.writing.put_values.Given as goal

abbrev pub invariant-loop-var : goal.invariant-loop-var
invariant-loop-var l =
    l.into.items ++ listed (map value_told (zip (vars_named (drop (length l.yielded) l.vars)) (drop (length l.yielded) l.values)))
    ≡ l.fn.into.items ++ listed (map value_told (zip (vars_named l.vars) l.values))
