-- The list of the components by numbers, and how many objects are in them.
use Rattle.std.specs.Prelude.{ℕ, zero, suc, ◌+◌, List, [], ◌∷◌, ◌++◌, length, map, reverse, sum, Option, Some, None, slice_get, unwrap_or}
use Rattle.cif_source.specs.Objects.{most_objects}
use Rattle.cif_inst_components.specs.declared.components.Component.{Component}
use Rattle.cif_inst_components.specs.declared.components.Place.{Place}
use Rattle.cif_inst_components.specs.declared.kids.Kid.{Kid}
use Rattle.cif_inst_components.specs.declared.listing.Waiting.{Waiting}
use Rattle.cif_inst_components.specs.Kids.{kids_in}

abbrev pub place : (component slot : ℕ) → Place
place c s = record { component = c; slot = s }

-- what stands in a component, from number `at` on, by what is listed for each
abbrev pub chain : ((at : ℕ) → Option Place → ℕ → List Component) → (at parent : ℕ) → List Kid → List Component
chain go at parent [] = []
chain go at parent (x ∷ xs) =
    let here = go at (Some (place parent x.slot)) x.body in
    here ++ chain go (at + length here) parent xs

-- a component with number `at` and those in it, nested at most n deep
abbrev pub below : List (List Kid) → (n at : ℕ) → Option Place → ℕ → List Component
below kids zero at p b = record { body = b; stands = p } ∷ []
below kids (suc n) at p b = record { body = b; stands = p } ∷ chain (below kids n) (suc at) at (kids_in kids b)

-- so deep as there may be objects, so it is opened only where that is asked for
unfoldable pub listed : List (List Kid) → List Component
listed kids = below kids most_objects 0 None 0

-- ---- as the code lists them

abbrev pub kid_waiting : ℕ → ℕ → Kid → Waiting
kid_waiting parent depth x = record { stands = place parent x.slot; body = x.body; depth = depth }

-- the last is listed first
abbrev pub waiting_for : (parent depth : ℕ) → List Kid → List Waiting
waiting_for parent depth xs = reverse (map (kid_waiting parent depth) xs)

-- what stands in a component with the body b, where components nest so deep in it
abbrev pub waiting_in : List (List Kid) → (parent b depth : ℕ) → List Waiting
waiting_in kids parent b zero = []
waiting_in kids parent b (suc n) = waiting_for parent n (kids_in kids b)

-- what is still to be listed, from number `at` on, the first one first
abbrev pub rest : List (List Kid) → ℕ → List Waiting → List Component
rest kids at [] = []
rest kids at (x ∷ xs) =
    let here = below kids x.depth at (Some x.stands) x.body in
    here ++ rest kids (at + length here) xs

-- ---- objects

abbrev pub size_in : List ℕ → ℕ → ℕ
size_in sizes b = unwrap_or (slice_get sizes b) 0

-- a component and what is in it, without the components in it
abbrev pub objects : List ℕ → Component → ℕ
objects sizes c = 1 + size_in sizes c.body

abbrev pub all_objects : List ℕ → List Component → ℕ
all_objects sizes cs = sum (map (objects sizes) cs)
