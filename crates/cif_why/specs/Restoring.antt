-- A state into which some places and values are copied back from another.
use Rattle.std.specs.Prelude.{ℕ, ℤ, List, [], ◌∷◌, map}
use Rattle.cif_system.specs.System.{State}
use Rattle.cif_net_model.specs.Listing.{NetMove}
use Rattle.cif_eval.specs.Copies.{copied_item}
use Rattle.cif_why.specs.declared.numbering.Numbered.{Numbered}

-- the items at these places, one after the other
abbrev pub restored : {A : Type 0} → List ℕ → (from to : List A) → List A
restored [] from to = to
restored (k ∷ ks) from to = restored ks from (copied_item from to k)

abbrev pub restored_state : (autos vars : List ℕ) → (from to : State) → State
restored_state autos vars from to = record { locs = restored autos from.locs to.locs; vals = restored vars from.vals to.vals; ins = to.ins }

-- the automata that moves name
abbrev pub movers : List NetMove → List ℕ
movers ms = map (λ (m : NetMove). m.auto) ms

abbrev pub pair_in : Numbered → ℕ × ℤ
pair_in w = (w.variable, w.value)

abbrev pub variable_in : Numbered → ℕ
variable_in w = w.variable
