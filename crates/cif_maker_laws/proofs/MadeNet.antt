-- The expressions of the net of a made source, and rules on them that it keeps.
use Rattle.std.proofs.Common.{◌≡◌, ℕ, zero, suc, ◌+◌, ◌≤◌, ◌<◌, Bool, true, false, List, [], ◌∷◌, ◌++◌, pos, Some, None, refl, sym, ap, subst, ◌∙◌, arith, codes, inl, inr}
use Rattle.std.specs.Prelude.{map, flat_map, length, option_map, slice_get, if◌then◌else◌}
use Rattle.std.specs.List.{AllByRecursion, cons_option, range_with_len}
use Rattle.std.proofs.lemmas.List.{append-nil, length-append}
use Rattle.std.proofs.lemmas.List.FromFn.{length-range_with_len}
use Rattle.cif_ast.specs.Tree.{Tree}
use Rattle.cif_ast.specs.declared.names.Name.{Name}
use Rattle.cif_system.specs.Words.{Member}
use Rattle.cif_system.proofs.Distinct.{member-append, member-map, member-flat_map}
use Rattle.cif_net_expr.specs.Tree.{lt, NetExpr, net_expr, n_truth, n_number, n_loc, n_var, n_input, n_sum, n_compare, n_and, no_net_exprs, net_exprs, no_net_terms, net_terms}
use Rattle.cif_net_model.specs.Net.{NetAuto, NetExclusion, NetInvariant, Net}
use Rattle.cif_net_model.specs.Exprs.{placed, edge_exprs, alg_exprs, all_edges, other_exprs}
use Rattle.cif_net_model.specs.Facts.{channel_of}
use Rattle.cif_net_model.specs.Interval as interval
use Rattle.cif_net_model.specs.Shown.{channel_range}
use Rattle.cif_net_model.specs.Rules.{Needs, IsAcyclic, Evaluated, edge_evaluated, evaluated}
use Rattle.cif_source.specs.Components.{Component, whole, Entry, location}
use Rattle.cif_source.specs.Lookup.{ScopeEntry, reached, found}
use Rattle.cif_source.specs.Objects.{automaton_number, variables, inputs, number_in}
use Rattle.cif_source.proofs.NameLaws.{follow-met, met, met_at-own, is_parameter}
use Rattle.cif_inst_model.specs.Translation.{net_object, net_name, net_of, net_with}
use Rattle.cif_inst_model.specs.Flat.{net_auto, net_alg, net_exclusions, net_invariants, predicate_at, net_of_source}
use Rattle.cif_inst_model.specs.NetRules.{AlgCycleDue, InvariantReadsInputDue, InvariantFalseDue}
use Rattle.cif_maker.specs.Draws.{has_need, most_of, next_of, numbers_below}
use Rattle.cif_maker.specs.MadeText.{numbered}
use Rattle.cif_maker_laws.specs.MadeTree.{name_at, dotted_at, guard, increased, idle_of_next}
use Rattle.cif_maker_laws.proofs.Bodies.{each_of_all, flat_same, flat_twice, made, at_of, need_at_of, plant_of}
use Rattle.cif_maker_laws.proofs.NoSubject.{no_chain}
use Rattle.cif_maker_laws.proofs.Lookups.{IsShort, sensor_entry}
use Rattle.cif_maker_laws.proofs.Names.{s_found, idle_found, next_small, each_in_range}
use Rattle.cif_maker_laws.proofs.ConstantRanges.{most_small}
use Rattle.cif_maker_laws.proofs.MadeComponents.{made_automata}
use Rattle.cif_maker_laws.proofs.EventNumbers.{member_left, member_right, c_number, c_denoted_above}
use Rattle.cif_maker_laws.proofs.MadeDeclarations.{map_flat, none_each, declared_for, block_declared, plant_declared, by_declared, made_algs}

-- ---- the forms

-- an input, and a variable below m
abbrev pub guard_form : (a b m p q r : ℕ) → NetExpr
guard_form a b m p q r = net_expr (n_and (net_exprs (net_expr (n_input a) p) (net_exprs (net_expr (n_compare (net_expr (n_var b) q) lt (net_expr (n_number (pos m)) r)) q) no_net_exprs))) p

-- a variable and 1
abbrev pub sum_form : (b q r : ℕ) → NetExpr
sum_form b q r = net_expr (n_sum (net_expr (n_var b) q) (net_terms false (net_expr (n_number (pos 1)) r) no_net_terms)) q

-- always true
abbrev pub true_form : ℕ → NetExpr
true_form at = net_expr (n_truth true) at

-- an automaton is in its first location
abbrev pub idle_form : (a at : ℕ) → NetExpr
idle_form a at = net_expr (n_loc a 0) at

-- ---- lists

pub of_member : {A : Type 0} (P : A → Type 0) (x : A) (xs : List A) → AllByRecursion P xs → Member x xs → P x
of_member P x [] h m = absurd m
of_member P x (y ∷ xs) h (inl e) = subst P (sym e) h.0
of_member P x (y ∷ xs) h (inr m) = of_member P x xs h.1 m

member_in_flat : {A B : Type 0} (f : A → List B) (z : B) (y : A) (xs : List A) → Member y xs → Member z (f y) → Member z (flat_map f xs)
member_in_flat f z y [] m h = absurd m
member_in_flat f z y (x ∷ xs) (inl e) h = member_left z (f x) (flat_map f xs) (subst (λ w. Member z (f w)) e h)
member_in_flat f z y (x ∷ xs) (inr m) h = member_right z (f x) (flat_map f xs) (member_in_flat f z y xs m h)

same_in_range : {A : Type 0} (f g : ℕ → List A) (a n : ℕ) → ((i : ℕ) → i < a + n → f i ≡ g i) → flat_map f (range_with_len a n) ≡ flat_map g (range_with_len a n)
same_in_range f g a zero h = refl
same_in_range f g a (suc n) h = ap (λ u. u ++ flat_map f (range_with_len (a + 1) n)) (h a (omega arith)) ∙ ap (λ u. g a ++ u) (same_in_range f g (a + 1) n (λ i l. h i (omega arith)))

module _ (seed size : ℕ) where
  abbrev pub net : Net
  net = net_of_source (made seed size)

  -- ---- no algebraic variables, no state invariants

  pub net_algs : net.algs ≡ []
  net_algs = ap (map net_alg) (made_algs seed size)

  no_needs : (j k : ℕ) → Needs net j k → ⊥
  no_needs j k h = let w : None ≡ Some h.0 = ap (λ xs. slice_get xs j) (sym net_algs) ∙ h.1 in cc

  pub is_acyclic : IsAcyclic net
  is_acyclic k h = no_chain seed size (Needs net) k k (λ j n. no_needs k j n) h

  pub no_alg_cycle : (alg : ℕ) → AlgCycleDue (made seed size) alg → ⊥
  no_alg_cycle alg h = is_acyclic alg h.0

  pub net_no_invariants : net.invariants ≡ []
  net_no_invariants =
      by_declared seed size net_invariants
      ∙ ap (λ u. u ++ flat_map (λ i. flat_map net_invariants (plant_declared seed size i)) (numbers_below size))
      (flat_same (λ i. flat_map net_invariants (block_declared seed size i)) (λ i. []) (numbers_below size) (λ i. block (has_need seed size i) i) ∙ none_each (numbers_below size))
      ∙ none_each (numbers_below size)
    where
      block : (b : Bool) (i : ℕ) → flat_map net_invariants (declared_for seed size b i) ≡ []
      block true i = refl
      block false i = refl

  no_invariant : (i : NetInvariant) → Member i net.invariants → ⊥
  no_invariant i m = subst (Member i) net_no_invariants m

  pub reads_no_input : (at : ℕ) → InvariantReadsInputDue (made seed size) at → ⊥
  reads_no_input at h = no_invariant h.1 h.2

  pub none_false : (at : ℕ) → InvariantFalseDue (made seed size) at → ⊥
  none_false at h = no_invariant h.1 h.2

  pub net_autos : net.autos ≡ flat_map (λ i. net_auto (plant_of seed size i) ∷ []) (numbers_below size)
  net_autos = ap (map net_auto) (made_automata seed size) ∙ map_flat net_auto (λ i. plant_of seed size i ∷ []) (numbers_below size)

  -- ---- what names become

  abbrev becomes : Component → Name → (at : ℕ) → ScopeEntry → Type 0
  becomes c nm at x = net_name c nm at ≡ net_expr (net_object x) at

  found_net : (c : Component) (nm : Name) (at : ℕ) (o : Component) (e : Entry) → is_parameter e ≡ false → found c nm ≡ reached (o, e) → becomes c nm at (o, e)
  found_net c nm at o e own h =
      let thing : ScopeEntry → ℕ → NetExpr = λ x at. net_expr (net_object x) at in
      let nothing : ℕ → NetExpr = λ at. net_expr (n_number (pos 0)) at in
      let argument : (Name → ℕ → NetExpr) → Component → Tree → ℕ → NetExpr = λ name g a at. net_with name a in
      ap (λ f. f at) (follow-met thing nothing argument c nm ∙ ap (met thing nothing argument) h ∙ met_at-own thing nothing argument o e own)

  abbrev n_of : ℕ → ℕ
  n_of i = number_in (variables (made seed size)) (plant_of seed size i) (codes "n")

  abbrev s_of : ℕ → ℕ
  s_of i = number_in (inputs (made seed size)) (whole (made seed size)) (numbered (codes "s") i)

  increased_net : (i : ℕ) → net_of (plant_of seed size i) (increased i (most_of seed i) (at_of seed size i)) ≡ sum_form (n_of i) (at_of seed size i 29) (at_of seed size i 31)
  increased_net i = refl

  module _ (short : IsShort size) where
    guard_net : (i : ℕ) → i < size → net_of (plant_of seed size i) (guard i (most_of seed i) (at_of seed size i))
        ≡ guard_form (s_of i) (n_of i) (most_of seed i) (at_of seed size i 21) (at_of seed size i 23) (at_of seed size i 25)
    guard_net i l =
        let at : ℕ → ℕ = at_of seed size i in
        let below : NetExpr = net_expr (n_compare (net_expr (n_var (n_of i)) (at 23)) lt (net_expr (n_number (pos (most_of seed i))) (at 25))) (at 23) in
        ap (λ e. net_expr (n_and (net_exprs e (net_exprs below no_net_exprs))) (at 21))
        (found_net (plant_of seed size i) (name_at (numbered (codes "s") i) (at 21)) (at 21) (whole (made seed size)) (sensor_entry seed size i) refl (s_found seed size short i (at 21) l))

    idle_net : (i j : ℕ) (at : ℕ → ℕ) → j < size → predicate_at (whole (made seed size)) (idle_of_next i j at) ≡ idle_form (automaton_number (made seed size) (plant_of seed size j)) (at 3)
    idle_net i j at l =
        ap (placed (at 3))
        (found_net (whole (made seed size)) (dotted_at (numbered (codes "A") j) (codes "idle") (at 3) (at 5)) (at 3) (plant_of seed size j) (location 0) refl (idle_found seed size short j (at 3) (at 5) l))

    -- ---- exclusions

    abbrev needing : NetExpr → ℕ → NetExclusion
    needing p e = record { event = e; pred = p; allows = true }

    -- the next plant is in its first location
    abbrev pub exclusion : ℕ → NetExclusion
    exclusion i = needing (idle_form (automaton_number (made seed size) (plant_of seed size (next_of size i))) (need_at_of seed size i 3)) (c_number seed size i)

    abbrev pub exclusions_for : Bool → ℕ → List NetExclusion
    exclusions_for b i = if b then exclusion i ∷ [] else []

    block_exclusions : (b : Bool) (i : ℕ) → i < size → flat_map net_exclusions (declared_for seed size b i) ≡ exclusions_for b i
    block_exclusions true i l =
        let c = whole (made seed size) in
        let predicate : NetExpr = predicate_at c (idle_of_next i (next_of size i) (need_at_of seed size i)) in
        ap (λ o. cons_option (option_map (needing predicate) o) [] ++ []) (c_denoted_above seed size short i l)
        ∙ ap (λ p. needing p (c_number seed size i) ∷ []) (idle_net i (next_of size i) (need_at_of seed size i) (next_small size i l))
    block_exclusions false i l = refl

    net_exclusions_are : net.exclusions ≡ flat_map (λ i. exclusions_for (has_need seed size i) i) (numbers_below size)
    net_exclusions_are =
        by_declared seed size net_exclusions
        ∙ ap (λ u. u ++ flat_map (λ i. flat_map net_exclusions (plant_declared seed size i)) (numbers_below size))
        (same_in_range (λ i. flat_map net_exclusions (block_declared seed size i)) (λ i. exclusions_for (has_need seed size i) i) 0 size (λ i l. block_exclusions (has_need seed size i) i (omega arith)))
        ∙ ap (λ u. flat_map (λ i. exclusions_for (has_need seed size i) i) (numbers_below size) ++ u) (none_each (numbers_below size))
        ∙ append-nil (flat_map (λ i. exclusions_for (has_need seed size i) i) (numbers_below size))

    pub few_exclusions : length net.exclusions ≤ size
    few_exclusions =
        let listed : length net.exclusions ≡ length (flat_map (λ i. exclusions_for (has_need seed size i) i) (numbers_below size)) = ap length net_exclusions_are in
        let few = one_each (numbers_below size) in
        let counted : length (numbers_below size) ≡ size = length-range_with_len 0 size in
        omega arith
      where
        one : (b : Bool) (i : ℕ) → length (exclusions_for b i) ≤ 1
        one true i = omega arith
        one false i = omega arith

        one_each : (is : List ℕ) → length (flat_map (λ i. exclusions_for (has_need seed size i) i) is) ≤ length is
        one_each [] = omega arith
        one_each (i ∷ is) =
            let more = one_each is in
            let here = one (has_need seed size i) i in
            let e = length-append (exclusions_for (has_need seed size i) i) (flat_map (λ i. exclusions_for (has_need seed size i) i) is) in
            omega arith

    -- what holds of the four forms holds of each expression
    module _ (P : NetExpr → Type 0) (guards : (a b m p q r : ℕ) → m ≤ 9 → P (guard_form a b m p q r)) (sums : (b q r : ℕ) → P (sum_form b q r))
        (truths : (at : ℕ) → P (true_form at)) (idles : (a at : ℕ) → P (idle_form a at)) where
      pub plant_exprs : (i : ℕ) → i < size → AllByRecursion P (flat_map edge_exprs (net_auto (plant_of seed size i)).edges)
      plant_exprs i l =
          let at : ℕ → ℕ = at_of seed size i in (
            subst P (sym (guard_net i l)) (guards (s_of i) (n_of i) (most_of seed i) (at 21) (at 23) (at 25) (most_small seed i)),
            (sums (n_of i) (at 29) (at 31), (truths (at 37), tt)),
          )

      edges_listed : all_edges net ≡ flat_map (λ i. (net_auto (plant_of seed size i)).edges) (numbers_below size)
      edges_listed =
          ap (flat_map (λ (a : NetAuto). a.edges)) (net_autos)
          ∙ flat_twice (λ (a : NetAuto). a.edges) (λ i. net_auto (plant_of seed size i) ∷ []) (numbers_below size)

      pub edges_hold : AllByRecursion P (flat_map edge_exprs (all_edges net))
      edges_hold =
          subst (AllByRecursion P) (sym (ap (flat_map edge_exprs) edges_listed ∙ flat_twice edge_exprs (λ i. (net_auto (plant_of seed size i)).edges) (numbers_below size)))
          (each_in_range P (λ i. flat_map edge_exprs (net_auto (plant_of seed size i)).edges) 0 size (λ i l. plant_exprs i (omega arith)))

      one_exclusion : (b : Bool) (i : ℕ) → AllByRecursion P (map (λ (x : NetExclusion). x.pred) (exclusions_for b i))
      one_exclusion true i = (idles (automaton_number (made seed size) (plant_of seed size (next_of size i))) (need_at_of seed size i 3), tt)
      one_exclusion false i = tt

      pub exclusions_hold : AllByRecursion P (map (λ (x : NetExclusion). x.pred) net.exclusions)
      exclusions_hold =
          subst (AllByRecursion P) (sym (ap (map (λ (x : NetExclusion). x.pred)) net_exclusions_are ∙ map_flat (λ (x : NetExclusion). x.pred) (λ i. exclusions_for (has_need seed size i) i) (numbers_below size)))
          (each_of_all P (λ i. map (λ (x : NetExclusion). x.pred) (exclusions_for (has_need seed size i) i)) (numbers_below size) (λ i. one_exclusion (has_need seed size i) i))

      pub others_hold : AllByRecursion P (other_exprs net)
      others_hold =
          let preds : List NetExpr = map (λ (x : NetExclusion). x.pred) net.exclusions in
          let invariants : map (λ (i : NetInvariant). i.pred) net.invariants ≡ [] = ap (map (λ (i : NetInvariant). i.pred)) net_no_invariants in
          let values : flat_map alg_exprs net.algs ≡ [] = ap (flat_map alg_exprs) net_algs in
          subst (AllByRecursion P) (sym (ap (λ es. preds ++ (es ++ flat_map alg_exprs net.algs)) invariants ∙ ap (λ es. preds ++ es) values ∙ append-nil preds)) exclusions_hold

      -- and of each that is evaluated
      pub evaluated_holds : (x : Evaluated) → Member x (evaluated net) → P x.value
      evaluated_holds x m = elim (member-append x (flat_map (edge_evaluated net) (all_edges net)) (map (λ e. record { value = e; received = interval.truths }) (other_exprs net)) m) [
        | inl w ↦
            (let r = member-flat_map (edge_evaluated net) x (all_edges net) w in
            let t = member-map (λ e. record { value = e; received = channel_range (channel_of net r.0.event) }) x (edge_exprs r.0) r.2 in
            subst (λ (y : Evaluated). P y.value) (sym t.2) (of_member P t.0 (flat_map edge_exprs (all_edges net)) edges_hold (member_in_flat edge_exprs t.0 r.0 (all_edges net) r.1 t.1)))
        | inr w ↦
            (let t = member-map (λ e. record { value = e; received = interval.truths }) x (other_exprs net) w in
            subst (λ (y : Evaluated). P y.value) (sym t.2) (of_member P t.0 (other_exprs net) others_hold t.1))
      ]
