-- The net of a made source divides by nothing, and the intervals of its expressions are in 64 bits.
use Rattle.std.proofs.Common.{◌≡◌, ℕ, zero, suc, ◌+◌, ◌≤◌, true, false, List, [], ◌∷◌, pos, Some, refl, sym, ap, subst, ◌∙◌, arith}
use Rattle.std.specs.Prelude.{map, slice_get, nat_le}
use Rattle.std.specs.List.{AllByRecursion}
use Rattle.std.proofs.lemmas.Bool.Decides.{nat_tests}
use Rattle.cif_base.specs.declared.types.Ty.TheVariants as ty
use Rattle.cif_ast.specs.Tree.{Tree}
use Rattle.cif_system.specs.System.{Range}
use Rattle.cif_system.specs.Words.{Member}
use Rattle.cif_net_expr.specs.Tree.{NetExpr}
use Rattle.cif_net_model.specs.Net.{NetStored}
use Rattle.cif_net_model.specs.Interval.{between, point, add_ranges, stored_range, interval}
use Rattle.cif_net_model.specs.Meaning.{type_range}
use Rattle.cif_net_model.specs.Parts.{parts, divisors, is_narrow}
use Rattle.cif_source.specs.Source.{bool_type, range_type}
use Rattle.cif_source.specs.Components.{Component, whole}
use Rattle.cif_source.specs.Value.{constant}
use Rattle.cif_inst_model.specs.Types.{NetType, type_within, plain_type}
use Rattle.cif_inst_model.specs.Flat.{net_stored}
use Rattle.cif_inst_model.specs.NetRules.{ZeroDivisorDue, TooWideDue}
use Rattle.cif_maker.specs.Draws.{most_of, numbers_below}
use Rattle.cif_maker_laws.specs.MadeTree.{number_tree}
use Rattle.cif_maker_laws.proofs.Bodies.{not_false, each_of_all, made, at_of, plant_of}
use Rattle.cif_maker_laws.proofs.Lookups.{IsShort}
use Rattle.cif_maker_laws.proofs.ConstantRanges.{number_constant, most_small}
use Rattle.cif_maker_laws.proofs.MadeDeclarations.{map_flat, s_decl, n_decl, own_input, plant_declared, made_inputs, made_variables}
use Rattle.cif_maker_laws.proofs.MadeNet.{guard_form, sum_form, of_member, net, evaluated_holds}

-- ---- ranges from 0 to a small number

in_64 : (m : ℕ) → m ≤ 10 → nat_le m 9223372036854775807 ≡ true
in_64 m l = grind (arith, nat_tests)

narrow_to : (m : ℕ) → m ≤ 10 → is_narrow (between (pos 0) (pos m)) ≡ true
narrow_to m l = in_64 m l

narrow_point : (m : ℕ) → m ≤ 10 → is_narrow (point (pos m)) ≡ true
narrow_point m l = rw (in_64 m l) refl

narrow_sum : (m : ℕ) → m ≤ 9 → is_narrow (add_ranges false (between (pos 0) (pos m)) (point (pos 1))) ≡ true
narrow_sum m l = in_64 (m + 1) (omega arith)

-- from 0 to a number up to 9
IsSmall : Range → Type 0
IsSmall r = (m : ℕ) × (m ≤ 9) × (r ≡ between (pos 0) (pos m))

small_narrow : (r : Range) → IsSmall r → is_narrow r ≡ true
unfolding IsSmall
small_narrow r h = ap is_narrow h.2 ∙ narrow_to h.0 (omega arith)

small_sum : (r : Range) → IsSmall r → is_narrow (add_ranges false r (point (pos 1))) ≡ true
unfolding IsSmall
small_sum r h = ap (λ r. is_narrow (add_ranges false r (point (pos 1)))) h.2 ∙ narrow_sum h.0 h.1

-- ---- stored values

small_stored : (vs : List NetStored) → AllByRecursion (λ v. IsSmall (stored_range (Some v))) vs → (k : ℕ) → IsSmall (stored_range (slice_get vs k))
unfolding IsSmall
small_stored [] h k = (0, omega arith, refl)
small_stored (v ∷ vs) h zero = h.0
small_stored (v ∷ vs) h (suc k) = small_stored vs h.1 k

numbers_type : (n : ℕ) (c : Component) (lower upper : Tree) → type_within n c (range_type lower upper) ≡ plain_type (ty.Int (constant c lower) (constant c upper))
numbers_type zero c lower upper = refl
numbers_type (suc n) c lower upper = refl

truths_type : (n : ℕ) (c : Component) → type_within n c bool_type ≡ plain_type ty.Bool
truths_type zero c = refl
truths_type (suc n) c = refl

module _ (seed size : ℕ) where
  own_input_small : (i : ℕ) → IsSmall (stored_range (Some (net_stored (whole (made seed size), s_decl seed size i))))
  unfolding IsSmall
  own_input_small i = (1, omega arith, ap (λ (t : NetType). type_range t.type_of) (truths_type _ (whole (made seed size))))

  variable_small : (i : ℕ) → IsSmall (stored_range (Some (net_stored (plant_of seed size i, n_decl seed size i))))
  unfolding IsSmall
  variable_small i =
      let c = plant_of seed size i in
      let lower : Tree = number_tree 0 (at_of seed size i 9) in
      let upper : Tree = number_tree (most_of seed i) (at_of seed size i 11) in (
        most_of seed i,
        most_small seed i,
        ap (λ (t : NetType). type_range t.type_of) (numbers_type _ c lower upper)
            ∙ ap (λ z. between z (constant c upper)) (number_constant c (pos 0) (at_of seed size i 9))
            ∙ ap (between (pos 0)) (number_constant c (pos (most_of seed i)) (at_of seed size i 11)),
      )

  inputs_small : (k : ℕ) → IsSmall (stored_range (slice_get (net seed size).inputs k))
  inputs_small = small_stored (net seed size).inputs
      (subst (AllByRecursion (λ v. IsSmall (stored_range (Some v)))) (sym (ap (map net_stored) (made_inputs seed size) ∙ map_flat net_stored (own_input seed size) (numbers_below size)))
      (each_of_all (λ v. IsSmall (stored_range (Some v))) (λ i. map net_stored (own_input seed size i)) (numbers_below size) (λ i. (own_input_small i, tt))))

  variables_small : (k : ℕ) → IsSmall (stored_range (slice_get (net seed size).vars k))
  variables_small = small_stored (net seed size).vars
      (subst (AllByRecursion (λ v. IsSmall (stored_range (Some v)))) (sym (ap (map net_stored) (made_variables seed size) ∙ map_flat net_stored (plant_declared seed size) (numbers_below size)))
      (each_of_all (λ v. IsSmall (stored_range (Some v))) (λ i. map net_stored (plant_declared seed size i)) (numbers_below size) (λ i. (variable_small i, tt))))

  -- ---- the rules

  NoDivisor : NetExpr → Type 0
  NoDivisor e = divisors e ≡ []

  pub no_zero_divisor : IsShort size → (at : ℕ) → ZeroDivisorDue (made seed size) at → ⊥
  unfolding NoDivisor
  no_zero_divisor short at h = subst (Member h.2) (evaluated_holds seed size short NoDivisor (λ a b m p q r l. refl) (λ b q r. refl) (λ at. refl) (λ a at. refl) h.1 h.3) h.4

  AllNarrow : NetExpr → Type 0
  AllNarrow e = (r : Range) → AllByRecursion (λ p. is_narrow (interval (net seed size) r p) ≡ true) (parts e)

  guard_narrow : (a b m p q r : ℕ) → m ≤ 9 → AllNarrow (guard_form a b m p q r)
  unfolding AllNarrow
  guard_narrow a b m p q r l g = (small_narrow _ (inputs_small a), (small_narrow _ (variables_small b), (narrow_point m (omega arith), tt)))

  sum_narrow : (b q r : ℕ) → AllNarrow (sum_form b q r)
  unfolding AllNarrow
  sum_narrow b q r g = (small_narrow _ (variables_small b), (small_sum _ (variables_small b), (narrow_point 1 (omega arith), tt)))

  pub not_too_wide : IsShort size → (at : ℕ) → TooWideDue (made seed size) at → ⊥
  unfolding AllNarrow
  not_too_wide short at h =
      let x = h.1 in
      let p = h.2 in
      not_false (is_narrow (interval (net seed size) x.received p))
      (of_member (λ p. is_narrow (interval (net seed size) x.received p) ≡ true) p (parts x.value)
      (evaluated_holds seed size short AllNarrow guard_narrow sum_narrow (λ at r. (refl, tt)) (λ a at r. (refl, tt)) x h.3 x.received) h.4) h.6
