-- Each plant of a made source has the events of its edges in its alphabet, and one role for each.
use Rattle.std.proofs.Common.{◌≡◌, ℕ, ◌≤◌, Bool, true, false, not, ◌||◌, [], ◌∷◌, ◌++◌, Option, Some, None, length, filter, refl, ap, ◌∙◌, arith, codes}
use Rattle.std.specs.Prelude.{flat_map, nat_eq, IsTrue}
use Rattle.std.specs.List.{Any}
use Rattle.std.proofs.lemmas.Bool.Decides.{nat_tests}
use Rattle.cif_ast.specs.declared.names.Name.{Name}
use Rattle.cif_system.specs.Step.{is_number}
use Rattle.cif_source.specs.Components.{Component, body_of}
use Rattle.cif_source.specs.Lookup.{denotes}
use Rattle.cif_source.specs.Objects.{event_edges}
use Rattle.cif_source.specs.Step.{event_at, synchronises}
use Rattle.cif_source.specs.BodyRules as body
use Rattle.cif_source.specs.InstanceRules.{is_lacking, synchronised_name, monitored_in, AlphabetLacksDue, role_count, RoleMixedDue}
use Rattle.cif_maker.specs.MadeText.{numbered}
use Rattle.cif_maker_laws.specs.MadeTree.{name_at}
use Rattle.cif_maker_laws.proofs.Bodies.{not_true, any_none, made, at_of, plant_of}
use Rattle.cif_maker_laws.proofs.MadeComponents.{in_no_automaton}

own_number : (e : ℕ) (o : Option ℕ) → o ≡ Some e → is_number e o ≡ true
own_number e o h = ap (is_number e) h ∙ go e
  where
    go : (e : ℕ) → nat_eq e e ≡ true
    go e = grind (arith, nat_tests)

or_left : (x y : Bool) → x ≡ true → (x || y) ≡ true
or_left x y h = ap (λ b. b || y) h

or_right : (x y : Bool) → y ≡ true → (x || y) ≡ true
or_right true y h = refl
or_right false y h = h

not_lacking : (o : Option ℕ) (has : ℕ → Bool) → ((e : ℕ) → o ≡ Some e → has e ≡ true) → (elim o [ None ↦ false | Some e ↦ not (has e) ]) ≡ false
not_lacking None has h = refl
not_lacking (Some e) has h = ap not (h e refl)

one_role : (b : Bool) → length (filter (λ b. b) (b ∷ false ∷ false ∷ [])) ≤ 1
one_role true = omega arith
one_role false = omega arith

module _ (seed size : ℕ) where
  abbrev u_of : ℕ → Name
  u_of i = name_at (numbered (codes "u") i) (at_of seed size i 19)

  abbrev c_of : ℕ → Name
  c_of i = name_at (numbered (codes "c") i) (at_of seed size i 37)

  u_synchronised : (i e : ℕ) → event_at (denotes (plant_of seed size i) (u_of i)) ≡ Some e → synchronises e (plant_of seed size i) ≡ true
  u_synchronised i e h = or_left (is_number e (event_at (denotes (plant_of seed size i) (u_of i)))) _ (own_number e _ h)

  c_synchronised : (i e : ℕ) → event_at (denotes (plant_of seed size i) (c_of i)) ≡ Some e → synchronises e (plant_of seed size i) ≡ true
  c_synchronised i e h = or_right _ _ (or_left (is_number e (event_at (denotes (plant_of seed size i) (c_of i)))) false (own_number e _ h))

  pub no_lacking : (at : ℕ) → AlphabetLacksDue (made seed size) at → ⊥
  no_lacking at = in_no_automaton seed size (λ a. Any (Lacks a) (flat_map synchronised_name (event_edges a) ++ monitored_in (body_of a)))
      (λ i a. any_none (Lacks (plant_of seed size i)) (u_of i ∷ c_of i ∷ []) (
        (λ h. not_true _ (not_lacking (event_at (denotes (plant_of seed size i) (u_of i))) (λ e. synchronises e (plant_of seed size i)) (u_synchronised i)) h.1),
        ((λ h. not_true _ (not_lacking (event_at (denotes (plant_of seed size i) (c_of i))) (λ e. synchronises e (plant_of seed size i)) (c_synchronised i)) h.1), tt),
      ) a)
    where
      Lacks : Component → Name → Type 0
      Lacks a nm = (nm.at ≡ at) × IsTrue (is_lacking a nm)

  few_roles : (i e : ℕ) → role_count e (plant_of seed size i) ≤ 1
  few_roles i e = one_role (synchronises e (plant_of seed size i))

  pub no_mixed_role : (at : ℕ) → RoleMixedDue (made seed size) at → ⊥
  no_mixed_role at = in_no_automaton seed size (λ a. (body.name_at a ≡ Some at) × ((e : ℕ) × (2 ≤ role_count e a))) (λ i h. two (role_count h.1.0 (plant_of seed size i)) h.1.1 (few_roles i h.1.0))
    where
      two : (n : ℕ) → 2 ≤ n → n ≤ 1 → ⊥
      two n a b = omega arith
