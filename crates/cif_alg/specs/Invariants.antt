-- Helper of the code: the rules on the state invariants of a net that names no algebraic variable, from its initial state.
use Rattle.std.specs.Prelude.{◌≡◌, pos, true, false, List, [], ◌∷◌, Result, Ok, Err, if◌then◌else◌}
use Rattle.std.specs.List.{list_any, AllByRecursion}
use Rattle.cif_system.specs.Words.{Member}
use Rattle.cif_net_model.specs.Net.{NetInvariant, Net}
use Rattle.cif_net_model.specs.Reads.{is_input, names_in, reads_input}
use Rattle.cif_net_model.specs.Rules.{holds_first}
use Rattle.cif_net_model.specs.Value.{is_true}
use Rattle.cif_net.specs.declared.state.State.{State}
use Rattle.cif_net_model.specs.Safe.{value_at, IsSafe}
use Rattle.cif_value.specs.Settings.{told}
use Rattle.cif_alg.specs.declared.error.AlgErr.{AlgErr}
use Rattle.cif_alg.specs.declared.error.AlgErr.TheVariants as err

-- a state invariant breaks the rule of the refusal, which is none on algebraic variables, intervals or sizes
abbrev pub IsBroken : Net → AlgErr → Type 0
IsBroken n (err.InvariantReadsInput at) = (i : NetInvariant) × Member i n.invariants × (i.at ≡ at) × (reads_input n i.pred ≡ true)
IsBroken n (err.InvariantFalse at) = (i : NetInvariant) × Member i n.invariants × (i.at ≡ at) × (reads_input n i.pred ≡ false) × (holds_first n i.pred ≡ false)
IsBroken n err.Memory = Unit {0}
IsBroken n _ = ⊥

-- ---- one after the other

abbrev pub Told : Type 0
Told = Result (Unit {0}) AlgErr

-- of an invariant in a state
abbrev pub checked : State → NetInvariant → Told
checked s i =
    if list_any is_input (names_in i.pred) then Err (err.InvariantReadsInput i.at)
    else (if is_true (value_at (told s (pos 0)) i.pred) then Ok tt else Err (err.InvariantFalse i.at))

abbrev pub and_then : Told → Told → Told
and_then (Ok d) t = t
and_then (Err e) t = Err e

abbrev pub all_checked : State → List NetInvariant → Told
all_checked s [] = Ok tt
all_checked s (i ∷ is) = and_then (checked s i) (all_checked s is)

-- each is computed without a fault
abbrev pub AreSafe : State → List NetInvariant → Type 0
AreSafe s is = AllByRecursion (λ (i : NetInvariant). IsSafe (told s (pos 0)) i.pred) is
