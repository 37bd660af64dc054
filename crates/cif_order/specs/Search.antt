-- What holds while the nodes are put in order: marks of the nodes, the path from a first node, and the order so far.
use Rattle.std.specs.Prelude.{◌≡◌, ℕ, ◌+◌, ◌-◌, ◌<◌, List, [], ◌∷◌, length, take, Some, slice_get}
use Rattle.cif_system.specs.Words.{Member, AreDistinct, Before, Chain}
use Rattle.cif_order.specs.Graph.{needs_of, Needs}
use Rattle.cif_order.specs.declared.search.Mark.{Mark}
use Rattle.cif_order.specs.declared.search.Mark.TheVariants.{New, Open, Done}

pub record IsSound (needs : List (List ℕ)) (marks : List Mark) (path order : List ℕ) : Type 0 where
  pub sized : length marks ≡ length needs
  -- the open nodes are those of the path
  pub opened : (x : ℕ) → Member x path → (k : ℕ) × (slice_get marks x ≡ Some (Open k))
  pub on_path : (x k : ℕ) → slice_get marks x ≡ Some (Open k) → Member x path
  -- those that are done are those of the order
  pub done : (x : ℕ) → Member x order → slice_get marks x ≡ Some Done
  pub listed : (x : ℕ) → slice_get marks x ≡ Some Done → Member x order
  pub path_once : AreDistinct path
  pub order_once : AreDistinct order
  -- what stands earlier on the path needs what stands later
  pub chained : (x y : ℕ) → Before x y path → Chain (Needs needs) x y
  -- of an open node as many needs are done as its mark says
  pub partly : (x k y : ℕ) → slice_get marks x ≡ Some (Open k) → Member y (take k (needs_of needs x)) → slice_get marks y ≡ Some Done
  pub after : (x y : ℕ) → Member x order → Needs needs x y → Before y x order

-- no node becomes new again
abbrev pub AreKept : List Mark → List Mark → Type 0
AreKept old new = (x : ℕ) → slice_get new x ≡ Some New → slice_get old x ≡ Some New

-- how many steps a node with that many needs still takes at most
abbrev pub steps_of : ℕ → Mark → ℕ
steps_of needs New = needs + 2
steps_of needs (Open done) = needs - done + 1
steps_of needs Done = 0

-- how many steps are left at most
abbrev pub steps_left : List (List ℕ) → List Mark → ℕ
steps_left [] marks = 0
steps_left (ys ∷ needs) [] = 0
steps_left (ys ∷ needs) (m ∷ marks) = steps_of (length ys) m + steps_left needs marks

-- a step leaves the search sound, and fewer steps
pub record GoesOn (needs : List (List ℕ)) (old new : List Mark) (path order : List ℕ) : Type 0 where
  pub sound : IsSound needs new path order
  pub kept : AreKept old new
  pub falls : steps_left needs new < steps_left needs old
