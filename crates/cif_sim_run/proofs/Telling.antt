-- The text of an action speaks of places and values alone, and not of inputs.
use Rattle.std.proofs.Common.{◌≡◌, ℕ, suc, ◌++◌, refl, ap}
use Rattle.std.specs.Prelude.{codes, decimal, map, nat_eq}
use Rattle.std.specs.Ordering.{int_eq}
use Rattle.cif_system.specs.System.{State}
use Rattle.cif_sim_model.specs.Names.{Names}
use Rattle.cif_sim_model.specs.Texts.{event_path, listed, change_told, place_told, value_told, changed}
use Rattle.cif_sim_model.specs.Script.{Action, idle, sets, fires}
use Rattle.cif_sim_model.specs.Simulation.{moment_text}
use Rattle.cif_sim_run.specs.Left.{Shows}

change-alike : (names : Names) (s t next : State) → Shows s t → change_told names s next ≡ change_told names t next
change-alike names s t next same =
    (λ i. map place_told (changed nat_eq names.automata (same.0 i) next.locs) ++ map value_told (changed int_eq names.variables (same.1 i) next.vals))

pub told-alike : (names : Names) (k : ℕ) (a : Action) (s t next : State) → Shows s t
    → moment_text names k (record { action = a; before = s; after = next }) ≡ moment_text names k (record { action = a; before = t; after = next })
told-alike names k idle s t next same = refl
told-alike names k (sets input z) s t next same = refl
told-alike names k (fires e) s t next same =
    ap (λ ts. codes "step " ++ decimal (suc k) ++ codes " " ++ event_path names e ++ listed ts ++ codes "\n") (change-alike names s t next same)
