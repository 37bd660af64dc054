-- State invariants in two states: they hold in both or in none where the states are alike at all that they name. Those of a plain
-- net hold in the initial state, and read no input.
use Rattle.std.proofs.Common.{◌≡◌, ℕ, ℤ, pos, Bool, true, false, ◌&&◌, List, [], ◌∷◌, map, length, inl, inr, refl, ap, ◌∙◌}
use Rattle.std.specs.Prelude.{flat_map}
use Rattle.std.specs.List.{AllByRecursion, list_all, list_any}
use Rattle.cif_system.specs.System.{State, initial}
use Rattle.cif_system.specs.Scan.{with_inputs}
use Rattle.cif_system.specs.Step.{meets_invariants}
use Rattle.cif_system.specs.Words.{Member}
use Rattle.cif_system.proofs.Picks.{append-left, append-right, map-member}
use Rattle.cif_net_expr.specs.Tree.{NetExpr}
use Rattle.cif_net_model.specs.Net.{NetExclusion, NetInvariant, Net}
use Rattle.cif_net_model.specs.Exprs.{alg_exprs, all_edges}
use Rattle.cif_net_model.specs.Interval.{truths}
use Rattle.cif_net_model.specs.Meaning.{alg_values, invariant_in, system_of_net, true_in}
use Rattle.cif_net_model.specs.Reads.{Read, a_var, an_input, an_alg, a_place, the_received, alg_passes, is_input, names_in, names_no_alg, read_of, reads_input}
use Rattle.cif_net_model.specs.Rules.{Evaluated, edge_evaluated, evaluated, invariant_keeps, is_plain, is_plain_expr}
use Rattle.cif_net_model.specs.Unfolding.{at_or}
use Rattle.cif_net_model.specs.Value.{is_true}
use Rattle.cif_net_model.proofs.Passing.{all-member, and-left, and-right, not-true}
use Rattle.cif_net_model.proofs.ValueLaws.{Alike, Setting, value-alike}

-- what the truth of an expression is told from
abbrev pub told_in : Net → State → Setting
told_in n s = record { algs = at_or (pos 0) (alg_values n s (pos 0) (length n.algs)); state = s; received = pos 0 }

module _ (n : Net) (s t : State) where
  -- two states are alike at what is named
  abbrev pub AreAlike : List Read → Type 0
  AreAlike names = AllByRecursion (Alike (told_in n s) (told_in n t)) names

  pub true-alike : (e : NetExpr) → AreAlike (names_in e) → true_in n s e ≡ true_in n t e
  true-alike e h = ap is_true (value-alike (told_in n s) (told_in n t) e h)

  -- where each of them is true in both or in none
  all-alike : (is : List NetInvariant) → ((i : NetInvariant) → Member i is → true_in n s i.pred ≡ true_in n t i.pred)
      → list_all (λ (f : State → Bool). f s) (map (invariant_in n) is) ≡ list_all (λ (f : State → Bool). f t) (map (invariant_in n) is)
  all-alike [] h = refl
  all-alike (i ∷ is) h =
      ap (λ b. b && list_all (λ (f : State → Bool). f s) (map (invariant_in n) is)) (h i (inl refl))
      ∙ ap (λ b. true_in n t i.pred && b) (all-alike is (λ k m. h k (inr m)))

-- ---- inputs

module _ (n : Net) (s : State) (row : List ℤ) where
  -- names that are no inputs and no algebraic variables
  inputs-alike : (f : ℕ → List Read) (xs : List Read) → list_all (alg_passes (λ k. false)) xs ≡ true → list_any is_input (flat_map (read_of f) xs) ≡ false → AreAlike n (with_inputs s row) s xs
  inputs-alike f [] h g = tt
  inputs-alike f (a_var k ∷ xs) h g = (refl, inputs-alike f xs h g)
  inputs-alike f (an_input k ∷ xs) h g = absurd cc
  inputs-alike f (an_alg k ∷ xs) h g = absurd cc
  inputs-alike f (a_place k ∷ xs) h g = (refl, inputs-alike f xs h g)
  inputs-alike f (the_received ∷ xs) h g = (refl, inputs-alike f xs h g)

-- ---- a plain net

module _ (n : Net) (plain : is_plain n ≡ true) where
  pub invariants-keep : list_all (invariant_keeps n) n.invariants ≡ true
  invariants-keep = and-right _ _ (and-left _ _ plain)

  -- the state invariants name no algebraic variable
  pub invariant-names : (i : NetInvariant) → Member i n.invariants → names_no_alg i.pred ≡ true
  invariant-names i m =
      let x : Evaluated = record { value = i.pred; received = truths } in
      let all : list_all (is_plain_expr n) (evaluated n) ≡ true = and-right _ _ (and-left _ _ (and-left _ _ plain)) in
      let among : Member x (evaluated n) =
      append-right x (flat_map (edge_evaluated n) (all_edges n)) _
      (map-member (λ (e : NetExpr). record { value = e; received = truths }) i.pred _
      (append-right i.pred (map (λ (q : NetExclusion). q.pred) n.exclusions) _
      (append-left i.pred (map (λ (q : NetInvariant). q.pred) n.invariants) (flat_map alg_exprs n.algs) (map-member (λ (q : NetInvariant). q.pred) i n.invariants m)))) in
      and-left _ _ (and-left _ _ (all-member (is_plain_expr n) (evaluated n) x all among))

  -- new inputs change none
  pub inputs-keep : (s : State) (row : List ℤ) → meets_invariants (system_of_net n) (with_inputs s row) ≡ meets_invariants (system_of_net n) s
  inputs-keep s row =
      all-alike n (with_inputs s row) s n.invariants
      (λ i m. true-alike n (with_inputs s row) s i.pred
      (inputs-alike n s row _ (names_in i.pred) (invariant-names i m) (not-true (reads_input n i.pred) (and-left _ _ (all-member (invariant_keeps n) n.invariants i invariants-keep m)))))

  pub holds-first : meets_invariants (system_of_net n) (initial (system_of_net n)) ≡ true
  holds-first = each n.invariants invariants-keep
    where
      each : (is : List NetInvariant) → list_all (invariant_keeps n) is ≡ true → list_all (λ (f : State → Bool). f (initial (system_of_net n))) (map (invariant_in n) is) ≡ true
      each [] h = refl
      each (i ∷ is) h =
          ap (λ b. b && list_all (λ (f : State → Bool). f (initial (system_of_net n))) (map (invariant_in n) is)) (and-right _ _ (and-left _ _ h)) ∙ each is (and-right _ _ h)
