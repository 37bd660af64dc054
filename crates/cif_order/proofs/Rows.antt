-- Worked examples of the definitions: graphs with and without an order.
use Rattle.std.proofs.Common.{◌≡◌, ℕ, zero, suc, ◌<◌, inl, inr, List, [], ◌∷◌, Some, None, refl, arith}
use Rattle.cif_system.specs.Words.{Member, Before, Chain, one, more}
use Rattle.cif_order.specs.Graph.{Needs, IsOrder, IsCyclic, IsLowest}
use Rattle.cif_order.proofs.OrderLaws.{order-acyclic}

-- 0 needs 1, and 1 needs 2
in_a_row : List (List ℕ)
in_a_row = (1 ∷ []) ∷ (2 ∷ []) ∷ [] ∷ []

-- 0 needs 1 and 2, and each of these needs 3
diamond : List (List ℕ)
diamond = (1 ∷ 2 ∷ []) ∷ (3 ∷ []) ∷ (3 ∷ []) ∷ [] ∷ []

-- 0 needs itself
own : List (List ℕ)
own = (0 ∷ []) ∷ []

-- 0 needs 1, and 1 and 2 need each other
tailed : List (List ℕ)
tailed = (1 ∷ []) ∷ (2 ∷ []) ∷ (1 ∷ []) ∷ []

row_order : IsOrder in_a_row (2 ∷ 1 ∷ 0 ∷ [])
unfolding in_a_row
row_order = record {
  each = each;
  only = λ x m. grind arith;
  once = grind arith;
  after = after;
}
  where
    each : (x : ℕ) → x < 3 → Member x (2 ∷ 1 ∷ 0 ∷ [])
    each zero h = inr (inr (inl refl))
    each (suc zero) h = inr (inl refl)
    each (suc (suc zero)) h = inl refl
    each (suc (suc (suc x))) h = absurd (omega arith)

    after : (x y : ℕ) → Needs in_a_row x y → Before y x (2 ∷ 1 ∷ 0 ∷ [])
    after zero y m = grind arith
    after (suc zero) y m = grind arith
    after (suc (suc zero)) y m = absurd m
    after (suc (suc (suc x))) y m = absurd m

diamond_order : IsOrder diamond (3 ∷ 1 ∷ 2 ∷ 0 ∷ [])
unfolding diamond
diamond_order = record {
  each = each;
  only = λ x m. grind arith;
  once = grind arith;
  after = after;
}
  where
    each : (x : ℕ) → x < 4 → Member x (3 ∷ 1 ∷ 2 ∷ 0 ∷ [])
    each zero h = inr (inr (inr (inl refl)))
    each (suc zero) h = inr (inl refl)
    each (suc (suc zero)) h = inr (inr (inl refl))
    each (suc (suc (suc zero))) h = inl refl
    each (suc (suc (suc (suc x)))) h = absurd (omega arith)

    after : (x y : ℕ) → Needs diamond x y → Before y x (3 ∷ 1 ∷ 2 ∷ 0 ∷ [])
    after zero y m = grind arith
    after (suc zero) y m = grind arith
    after (suc (suc zero)) y m = grind arith
    after (suc (suc (suc zero))) y m = absurd m
    after (suc (suc (suc (suc x)))) y m = absurd m

empty_order : IsOrder [] []
empty_order = record { each = λ x h. absurd (omega arith); only = λ x m. absurd m; once = tt; after = λ x y m. absurd m }

-- ---- lists that are no orders

no_order_with_a_need_after : IsOrder in_a_row (2 ∷ 0 ∷ 1 ∷ []) → ⊥
unfolding in_a_row
no_order_with_a_need_after o = let h = o.after 0 1 (inl refl) in grind arith

no_order_without_a_node : IsOrder in_a_row (2 ∷ 1 ∷ []) → ⊥
unfolding in_a_row
no_order_without_a_node o = let h = o.each 0 (omega arith) in grind arith

no_order_with_a_node_twice : IsOrder in_a_row (2 ∷ 1 ∷ 2 ∷ 0 ∷ []) → ⊥
no_order_with_a_node_twice o = o.once.0 (inr (inl refl))

no_order_with_another_number : IsOrder in_a_row (3 ∷ 2 ∷ 1 ∷ 0 ∷ []) → ⊥
unfolding in_a_row
no_order_with_another_number o = let h : 3 < 3 = o.only 3 (inl refl) in omega arith

-- ---- nodes that reach themselves

own_cyclic : IsCyclic own 0
unfolding own
own_cyclic = one (inl refl)

own_lowest : IsLowest own (Some 0)
own_lowest = (own_cyclic, λ x h c. omega arith)

own_unordered : (order : List ℕ) → IsOrder own order → ⊥
own_unordered order o = order-acyclic own order o 0 own_cyclic

tailed_cyclic : IsCyclic tailed 1
unfolding tailed
tailed_cyclic = more {y = 2} (inl refl) (one (inl refl))

-- no node needs 0
tailed_apart : (x y : ℕ) → Chain (Needs tailed) x y → y ≡ 0 → ⊥
unfolding tailed
tailed_apart zero y (one r) e = grind arith
tailed_apart (suc zero) y (one r) e = grind arith
tailed_apart (suc (suc zero)) y (one r) e = grind arith
tailed_apart (suc (suc (suc x))) y (one r) e = absurd r
tailed_apart x y (more {y = z} r c) e = tailed_apart z y c e

tailed_lowest : IsLowest tailed (Some 1)
tailed_lowest = (tailed_cyclic, λ x h c. tailed_apart x x c (omega arith))

empty_lowest : IsLowest [] None
empty_lowest x (one r) = absurd r
empty_lowest x (more r c) = absurd r
