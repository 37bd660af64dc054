use Rattle.std.proofs.Common.{◌≡◌, ◌++◌, map, drop, length}
use Rattle.std.specs.List.{zip}
use Rattle.cif_sim_model.specs.Texts.{listed, place_told}
use Rattle.cif_script.specs.Views.{autos_named}
use Rattle.cif_script.proofs.writing.put_places.Given as goal

abbrev pub invariant-loop-auto : goal.invariant-loop-auto
invariant-loop-auto l =
    l.into.items ++ listed (map place_told (zip (autos_named (drop (length l.yielded) l.autos)) (drop (length l.yielded) l.places)))
    ≡ l.fn.into.items ++ listed (map place_told (zip (autos_named l.autos) l.places))
