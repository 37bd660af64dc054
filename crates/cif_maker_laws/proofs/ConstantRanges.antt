-- Each constant of a made source fits its type, and each of its ranges has a number.
use Rattle.std.proofs.Common.{◌≡◌, ℕ, zero, suc, ◌≤◌, ◌⊎◌, true, false, not, [], ◌∷◌, pos, ℤ, refl, ap, subst, ◌∙◌, arith, inl, inr}
use Rattle.std.specs.Prelude.{flat_map, IsTrue, int_lt, nat_le, nat_lt}
use Rattle.std.specs.List.{Any}
use Rattle.std.proofs.lemmas.Bool.Decides.{nat_tests}
use Rattle.cif_ast.specs.Tree.{Tree, node, number}
use Rattle.cif_system.specs.System.{in_range}
use Rattle.cif_source.specs.Source.{TypeTree, range_type, tree_at}
use Rattle.cif_source.specs.Components.{Component, whole}
use Rattle.cif_source.specs.Value.{constant, constant_within}
use Rattle.cif_source.specs.Types.{range_of, range_within, from_to, signed_range}
use Rattle.cif_source.specs.Constants.{Bounds, bounds_of, bound_values, typed_constants, constants_of}
use Rattle.cif_source.specs.InstanceRules.{is_faulty, FaultyConstant, LeavesRange, LongBound, EmptyRange, ConstantRangeDue}
use Rattle.cif_maker.specs.Draws.{most_of}
use Rattle.cif_maker_laws.proofs.Bodies.{not_true, not_false, any_none, made, plant_of}
use Rattle.cif_maker_laws.proofs.NoSubject.{no_member, whole_bounds, whole_typed, whole_constants}
use Rattle.cif_maker_laws.proofs.MadeComponents.{in_no_component}

-- ---- numbers and ranges

number_within : (n : ℕ) (c : Component) (z : ℤ) (at : ℕ) → constant_within n c (node (number z) at) ≡ z
number_within zero c z at = refl
number_within (suc n) c z at = refl

pub number_constant : (c : Component) (z : ℤ) (at : ℕ) → constant c (node (number z) at) ≡ z
number_constant c z at = number_within _ c z at

pub numbers_within : (n : ℕ) (c : Component) (lower upper : Tree) → range_within n c (range_type lower upper) ≡ from_to (constant c lower) (constant c upper)
numbers_within zero c lower upper = refl
numbers_within (suc n) c lower upper = refl

short_long : (n : ℕ) → n ≤ 9 → in_range (signed_range 64) (pos n) ≡ true
short_long n l = go n l
  where
    go : (n : ℕ) → n ≤ 9 → nat_le n 9223372036854775807 ≡ true
    go n l = grind (arith, nat_tests)

short_bound : (n : ℕ) → n ≤ 9 → in_range (signed_range 32) (pos n) ≡ true
short_bound n l = go n l
  where
    go : (n : ℕ) → n ≤ 9 → nat_le n 2147483647 ≡ true
    go n l = grind (arith, nat_tests)

pub most_small : (seed i : ℕ) → most_of seed i ≤ 9
most_small seed i = omega arith

not_faulty : (c : Component) (n at : ℕ) → n ≤ 9 → is_faulty (constant c) (node (number (pos n)) at) ≡ false
not_faulty c n at l = ap (λ z. not (in_range (signed_range 64) z)) (number_constant c (pos n) at) ∙ ap not (short_long n l)

not_long : (c : Component) (n at : ℕ) → n ≤ 9 → in_range (signed_range 32) (constant c (node (number (pos n)) at)) ≡ true
not_long c n at l = ap (in_range (signed_range 32)) (number_constant c (pos n) at) ∙ short_bound n l

first_in_range : (c : Component) (n lower upper first : ℕ)
    → in_range (range_of c (range_type (node (number (pos 0)) lower) (node (number (pos n)) upper))) (constant c (node (number (pos 0)) first)) ≡ true
first_in_range c n lower upper first =
    ap (λ r. in_range r (constant c (node (number (pos 0)) first))) (numbers_within _ c (node (number (pos 0)) lower) (node (number (pos n)) upper))
    ∙ ap (λ z. in_range (from_to z (constant c (node (number (pos n)) upper))) (constant c (node (number (pos 0)) first))) (number_constant c (pos 0) lower)
    ∙ ap (λ z. in_range (from_to (pos 0) z) (constant c (node (number (pos 0)) first))) (number_constant c (pos n) upper)
    ∙ ap (in_range (from_to (pos 0) (pos n))) (number_constant c (pos 0) first)
    ∙ go n
  where
    go : (n : ℕ) → nat_le 0 n ≡ true
    go n = grind (arith, nat_tests)

not_empty : (c : Component) (n lower upper : ℕ) → int_lt (constant c (node (number (pos n)) upper)) (constant c (node (number (pos 0)) lower)) ≡ false
not_empty c n lower upper =
    ap (λ z. int_lt z (constant c (node (number (pos 0)) lower))) (number_constant c (pos n) upper)
    ∙ ap (int_lt (pos n)) (number_constant c (pos 0) lower)
    ∙ go n
  where
    go : (n : ℕ) → nat_lt n 0 ≡ false
    go n = grind (arith, nat_tests)

-- ---- the rule

module _ (seed size at : ℕ) where
  Wrong : Component → Type 0
  Wrong c = FaultyConstant c at ⊎ LeavesRange c at ⊎ LongBound c at ⊎ EmptyRange c at

  Faulty : Component → Tree → Type 0
  Faulty c e = (tree_at e ≡ at) × IsTrue (is_faulty (constant c) e)

  Leaves : Component → TypeTree × Tree → Type 0
  Leaves c v = (tree_at v.1 ≡ at) × (in_range (range_of c v.0) (constant c v.1) ≡ false)

  Long : Component → Tree → Type 0
  Long c e = (tree_at e ≡ at) × (in_range (signed_range 32) (constant c e) ≡ false)

  Empty : Component → Bounds → Type 0
  Empty c b = (tree_at b.0 ≡ at) × IsTrue (int_lt (constant c b.1) (constant c b.0))

  whole_fits : Wrong (whole (made seed size)) → ⊥
  unfolding Wrong Faulty Leaves Long Empty
  whole_fits w =
      let c = whole (made seed size) in
      elim w [
        | inl a ↦ no_member (Faulty c) (subst (Any (Faulty c)) (whole_constants seed size) a)
        | inr (inl a) ↦ no_member (Leaves c) (subst (Any (Leaves c)) (whole_typed seed size) a)
        | inr (inr (inl a)) ↦ no_member (Long c) (subst (λ bs. Any (Long c) (flat_map (λ (b : Bounds). b.0 ∷ b.1 ∷ []) bs)) (whole_bounds seed size) a)
        | inr (inr (inr a)) ↦ no_member (Empty c) (subst (Any (Empty c)) (whole_bounds seed size) a)
      ]

  plant_fits : (i : ℕ) → Wrong (plant_of seed size i) → ⊥
  unfolding Wrong Faulty Leaves Long Empty
  plant_fits i w =
      let c = plant_of seed size i in
      let k = most_of seed i in
      elim w [
        | inl a ↦ any_none (Faulty c) (constants_of c)
            ((λ v. not_true _ (not_faulty c 0 _ (omega arith)) v.1), ((λ v. not_true _ (not_faulty c k _ (most_small seed i)) v.1), ((λ v. not_true _ (not_faulty c 0 _ (omega arith)) v.1), tt))) a
        | inr (inl a) ↦ any_none (Leaves c) (typed_constants c) ((λ v. not_false _ (first_in_range c k _ _ _) v.1), tt) a
        | inr (inr (inl a)) ↦ any_none (Long c) (bound_values c) ((λ v. not_false _ (not_long c 0 _ (omega arith)) v.1), ((λ v. not_false _ (not_long c k _ (most_small seed i)) v.1), tt)) a
        | inr (inr (inr a)) ↦ any_none (Empty c) (bounds_of c) ((λ v. not_true _ (not_empty c k _ _) v.1), tt) a
      ]

  pub constants_fit : ConstantRangeDue (made seed size) at → ⊥
  unfolding Wrong Faulty Leaves Long Empty
  constants_fit = in_no_component seed size Wrong whole_fits plant_fits
