-- What a step may change, as ascending numbers.
use Rattle.std.specs.Prelude.{◌≡◌, ℕ, suc, ◌≤◌, List, [], ◌∷◌, slice_get}
use Rattle.std.specs.List.{Contains}
use Rattle.cif_system.specs.System.{State}
use Rattle.cif_script.specs.declared.touched.Touched.{Touched}

-- each number is at least `from`, and above the one before it
abbrev pub Ascend : (from : ℕ) → List ℕ → Type 0
Ascend from [] = Unit {0}
Ascend from (k ∷ ks) = (from ≤ k) × Ascend (suc k) ks

-- two lists have the same items but at these places
abbrev pub SameBut : {A : Type 0} → List ℕ → List A → List A → Type 0
SameBut ks xs ys = (k : ℕ) → (Contains ks k → ⊥) → slice_get xs k ≡ slice_get ys k

-- two states are the same but at these automata and variables, which ascend
pub record DifferWithin (x : Touched) (s t : State) : Type 0 where
  pub autos : Ascend 0 x.autos
  pub vars : Ascend 0 x.vars
  pub places : SameBut x.autos s.locs t.locs
  pub values : SameBut x.vars s.vals t.vals
