use Rattle.std.proofs.Common.{◌≡◌, ◌++◌, drop}
use Rattle.std.specs.Prelude.{flat_map, nat_eq}
use Rattle.cif_sim_model.specs.Texts.{place_told}
use Rattle.cif_script.specs.Changes.{change_at}
use Rattle.cif_script.specs.Views.{autos_named}
use Rattle.cif_script.proofs.writing.put_new_places.Given as goal

abbrev pub invariant-loop-number : goal.invariant-loop-number
invariant-loop-number l =
    l.into.items ++ flat_map (change_at nat_eq place_told (autos_named l.autos) l.before l.after) (drop l.number-index l.numbers)
    ≡ l.initial.into.items ++ flat_map (change_at nat_eq place_told (autos_named l.autos) l.before l.after) l.numbers
