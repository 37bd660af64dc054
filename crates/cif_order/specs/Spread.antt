-- Helper of the code: what holds while the nodes that a node reaches are met: at each node the start of the latest search that met it, and
-- the nodes whose needs are still to be met.
use Rattle.std.specs.Prelude.{◌≡◌, ℕ, ◌+◌, ◌*◌, ◌<◌, ◌≤◌, ◌⊎◌, List, [], ◌∷◌, length, Option, None, Some, slice_get, nat_eq, if◌then◌else◌}
use Rattle.cif_system.specs.Words.{Member, Chain}
use Rattle.cif_order.specs.Graph.{needs_of, Needs}

-- the search from a node has met x
abbrev pub IsMet : ℕ → List (Option ℕ) → ℕ → Type 0
IsMet start met x = slice_get met x ≡ Some (Some start)

abbrev pub AreMet : ℕ → List (Option ℕ) → List ℕ → Type 0
AreMet start met ys = (y : ℕ) → Member y ys → IsMet start met y

-- it is the start, or is met
abbrev pub IsKnown : ℕ → List (Option ℕ) → ℕ → Type 0
IsKnown start met x = (x ≡ start) ⊎ IsMet start met x

-- only searches from lower nodes have met a node
abbrev pub AreEarlier : ℕ → List (Option ℕ) → Type 0
AreEarlier start met = (x s : ℕ) → slice_get met x ≡ Some (Some s) → s < start

-- The start isn't met, and what is met is reached from it. What is known waits, or its needs are all met.
pub record IsSpread (needs : List (List ℕ)) (start : ℕ) (met : List (Option ℕ)) (waiting : List ℕ) : Type 0 where
  pub sized : length met ≡ length needs
  pub earlier : AreEarlier (start + 1) met
  pub away : IsMet start met start → ⊥
  pub reached : (x : ℕ) → IsMet start met x → Chain (Needs needs) start x
  pub known : (x : ℕ) → Member x waiting → IsKnown start met x
  pub spread : (x : ℕ) → IsKnown start met x → Member x waiting ⊎ AreMet start met (needs_of needs x)

-- how many nodes the search has not met
abbrev pub is_unmet : ℕ → Option ℕ → ℕ
is_unmet start None = 1
is_unmet start (Some s) = if nat_eq s start then 0 else 1

abbrev pub unmet : ℕ → List (Option ℕ) → ℕ
unmet start [] = 0
unmet start (m ∷ met) = is_unmet start m + unmet start met

-- how many visits are left at most
abbrev pub visits_left : ℕ → List (Option ℕ) → List ℕ → ℕ
visits_left start met waiting = 2 * unmet start met + length waiting

-- a step leaves the search spread, and no more visits
pub record StaysSpread (needs : List (List ℕ)) (start : ℕ) (met : List (Option ℕ)) (waiting : List ℕ) (most : ℕ) : Type 0 where
  pub spread : IsSpread needs start met waiting
  pub fewer : visits_left start met waiting ≤ most

-- no chain leads from the node back to it, and the next search may use the table
pub record IsDone (needs : List (List ℕ)) (start : ℕ) (met : List (Option ℕ)) : Type 0 where
  pub sized : length met ≡ length needs
  pub earlier : AreEarlier (start + 1) met
  pub none : Chain (Needs needs) start start → ⊥
