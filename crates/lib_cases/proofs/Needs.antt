-- Needs that are all below the number of nodes are nodes.
use Rattle.std.proofs.Common.{◌≡◌, ℕ, zero, suc, ◌<◌, List, [], ◌∷◌, length, inl, inr, subst, sym, arith}
use Rattle.std.specs.Prelude.{All, slice_index_or}
use Rattle.std.proofs.lemmas.List.Elements.{All-head, All-tail}
use Rattle.cif_system.specs.Words.{Member}
use Rattle.cif_order.specs.Graph.{AreInside, needs_of}

-- what is so of all elements is so of each
of_member : {A : Type 0} (P : A → Type 0) (x : A) (xs : List A) → All P xs → Member x xs → P x
of_member P x [] h m = absurd m
of_member P x (y ∷ xs) h m = elim m [ inl e ↦ subst P (sym e) (All-head P y xs h) | inr n ↦ of_member P x xs (All-tail P y xs h) n ]

-- one past the last has none
of_place : (count x y : ℕ) (needs : List (List ℕ)) → All (All (λ n. n < count)) needs → Member y (needs_of needs x) → y < count
of_place count x y [] h m = absurd m
of_place count zero y (ns ∷ needs) h m = of_member (λ n. n < count) y ns (All-head (All (λ n. n < count)) ns needs h) m
of_place count (suc x) y (ns ∷ needs) h m = of_place count x y needs (All-tail (All (λ n. n < count)) ns needs h) m

pub inside : (needs : List (List ℕ)) → All (All (λ n. n < length needs)) needs → AreInside needs
inside needs h x y m = of_place (length needs) x y needs h m
