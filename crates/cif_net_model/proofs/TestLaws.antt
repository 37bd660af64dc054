-- The test of a choice holds where each automaton does what the choice says that it may do.
use Rattle.std.proofs.Common.{◌≡◌, ◌⊎◌, ⊎_elim, ℕ, zero, suc, ◌+◌, pos, Bool, true, false, not, ◌&&◌, ◌||◌, nat_eq, List, [], ◌∷◌, map, filter, length, flat_map, zip, inl, inr, Option, Some, None, slice_get, slice_index_or, refl, sym, ◌∙◌, ap, if◌then◌else◌, arith}
use Rattle.std.specs.List.{list_all, list_any, enumerate_from}
use Rattle.std.proofs.lemmas.List.Folds.{list_all-append}
use Rattle.std.proofs.lemmas.Bool.Decides.{nat_tests}
use Rattle.cif_system.specs.System.{State, Role, syncing, sending, receiving}
use Rattle.cif_system.specs.Step.{Choice, moves, same_role, is_enabled, passes, fits}
use Rattle.cif_net_expr.specs.Tree.{NetExpr}
use Rattle.cif_net_model.specs.Net.{NetAuto, NetEdge, Net}
use Rattle.cif_net_model.specs.Unfolding.{at_or}
use Rattle.cif_net_model.specs.Value.{of_bool, is_true, net_all}
use Rattle.cif_net_model.specs.Meaning.{alg_values, true_in, edge_meant, automaton_in, system_of_net}
use Rattle.cif_net_model.specs.Listing.{syncs_on, monitors_event, is_edge_for, exprs_of, all_hold, fails, opens, move_test, choice_test}
use Rattle.cif_net_model.proofs.ValueLaws.{ap-two}

truth-of : (b : Bool) → is_true (of_bool b) ≡ b
truth-of true = refl
truth-of false = refl

and-true : (b : Bool) → (b && true) ≡ b
and-true true = refl
and-true false = refl

or-false : (b : Bool) → (b || false) ≡ b
or-false true = refl
or-false false = refl

get-map : {A B : Type 0} (f : A → B) (xs : List A) (k : ℕ) (x : A) → slice_get xs k ≡ Some x → slice_get (map f xs) k ≡ Some (f x)
get-map f [] k x g = absurd cc
get-map f (y ∷ xs) zero x g = let e : y ≡ x = cc in ap (λ z. Some (f z)) e
get-map f (y ∷ xs) (suc k) x g = get-map f xs k x g

regroup : (b c d : Bool) → (b && true && c && d) ≡ (b && (c && d))
regroup true c d = refl
regroup false c d = refl

same-test : (a b : ℕ) → nat_eq a b ≡ nat_eq b a
same-test a b =
    elim (nat_eq a b) as (λ t. nat_eq a b ≡ t → t ≡ nat_eq b a) [
      | true ↦ λ h. let g : nat_eq b a ≡ true = grind (arith, nat_tests) in sym g
      | false ↦ λ h. let g : nat_eq b a ≡ false = grind (arith, nat_tests) in sym g
    ] refl

module _ (n : Net) (s : State) where
  -- a conjunction holds where each member does
  pub all-exprs : (es : List NetExpr) → true_in n s (all_hold es) ≡ list_all (true_in n s) es
  all-exprs es = truth-of (net_all (at_or (pos 0) (alg_values n s (pos 0) (length n.algs))) s (pos 0) (exprs_of es)) ∙ each es
    where
      each : (es : List NetExpr) → net_all (at_or (pos 0) (alg_values n s (pos 0) (length n.algs))) s (pos 0) (exprs_of es) ≡ list_all (true_in n s) es
      each [] = refl
      each (e ∷ es) = ap (λ b. true_in n s e && b) (each es)

  pub all-spread : {A : Type 0} (f : A → List NetExpr) (xs : List A) → list_all (true_in n s) (flat_map f xs) ≡ list_all (λ x. list_all (true_in n s) (f x)) xs
  all-spread f [] = refl
  all-spread f (x ∷ xs) = list_all-append (true_in n s) (f x) (flat_map f xs) ∙ ap (λ b. list_all (true_in n s) (f x) && b) (all-spread f xs)

  -- an edge is open
  abbrev open_edge : ℕ → NetEdge → Bool
  open_edge k x = nat_eq x.from (slice_index_or s.locs k 0) && true_in n s x.guard

  open-test : (k : ℕ) (x : NetEdge) → list_all (true_in n s) (opens k x) ≡ open_edge k x
  open-test k x =
      ap-two (λ b c. b && c)
      (truth-of (nat_eq (slice_index_or s.locs k 0) x.from) ∙ same-test (slice_index_or s.locs k 0) x.from)
      (and-true (true_in n s x.guard))

  fails-test : (e : NetExpr) → true_in n s (fails e) ≡ not (true_in n s e)
  fails-test e = truth-of (not (true_in n s e))

  -- none of the edges is open
  closed-test : (k : ℕ) (xs : List NetEdge) → list_all (true_in n s) (map (λ x. fails (all_hold (opens k x))) xs) ≡ not (list_any (open_edge k) xs)
  closed-test k [] = refl
  closed-test k (x ∷ xs) =
      ap-two (λ b c. b && c) (fails-test (all_hold (opens k x)) ∙ ap not (all-exprs (opens k x) ∙ open-test k x)) (closed-test k xs)
      ∙ both (open_edge k x) (list_any (open_edge k) xs)
    where
      both : (b c : Bool) → (not b && not c) ≡ not (b || c)
      both true c = refl
      both false c = refl

  -- the edges for an event are those of the system's automaton
  any-open : (e k : ℕ) (a : NetAuto) (xs : List NetEdge) → list_any (open_edge k) (filter (is_edge_for syncing e) xs) ≡ list_any (is_enabled syncing e s (k, automaton_in n a)) (map (edge_meant n) xs)
  any-open e k a [] = refl
  any-open e k a (x ∷ xs) = by (is_edge_for syncing e x) (any-open e k a xs)
    where
      by : (b : Bool) → list_any (open_edge k) (filter (is_edge_for syncing e) xs) ≡ list_any (is_enabled syncing e s (k, automaton_in n a)) (map (edge_meant n) xs)
          → list_any (open_edge k) (if b then x ∷ filter (is_edge_for syncing e) xs else filter (is_edge_for syncing e) xs)
          ≡ ((b && nat_eq x.from (slice_index_or s.locs k 0) && true_in n s x.guard) || list_any (is_enabled syncing e s (k, automaton_in n a)) (map (edge_meant n) xs))
      by true h = ap (λ c. open_edge k x || c) h
      by false h = h

  -- what an automaton may do in a listed choice
  abbrev pub InRole : ℕ → NetAuto → Role → Type 0
  InRole e a p = ((p ≡ syncing) × (syncs_on e a ≡ true)) ⊎ (((p ≡ sending) ⊎ (p ≡ receiving)) × (syncs_on e a ≡ false))

  abbrev pub Listed : ℕ → NetAuto → Option ℕ → Type 0
  Listed e a None = (syncs_on e a ≡ false) ⊎ ((syncs_on e a ≡ true) × (monitors_event e a ≡ true))
  Listed e a (Some k) = (x : NetEdge) × (slice_get a.edges k ≡ Some x) × (nat_eq x.event e ≡ true) × InRole e a x.role

  -- its edge is open in the role that it has
  opened : (e k j : ℕ) (a : NetAuto) (x : NetEdge) (p : Role) → slice_get a.edges j ≡ Some x → nat_eq x.event e ≡ true
      → passes (is_enabled p e s (k, automaton_in n a)) (slice_get (map (edge_meant n) a.edges) j) ≡ (same_role p x.role && open_edge k x)
  opened e k j a x p g h =
      ap (passes (is_enabled p e s (k, automaton_in n a))) (get-map (edge_meant n) a.edges j x g)
      ∙ ap (λ b. same_role p x.role && b && nat_eq x.from (slice_index_or s.locs k 0) && true_in n s x.guard) h
      ∙ regroup (same_role p x.role) (nat_eq x.from (slice_index_or s.locs k 0)) (true_in n s x.guard)

  -- the test of a move is that the automaton does what it may
  pub move-test : (e k : ℕ) (a : NetAuto) (o : Option ℕ) → Listed e a o → list_all (true_in n s) (move_test e ((k, a), o)) ≡ fits e s ((k, automaton_in n a), o)
  move-test e k a None (inl h) =
      let none : List NetExpr = map (λ x. fails (all_hold (opens k x))) (filter (is_edge_for syncing e) a.edges) in
      let stay : Bool = false || (true && monitors_event e a && not (list_any (is_enabled syncing e s (k, automaton_in n a)) (map (edge_meant n) a.edges))) in
      ap (λ b. list_all (true_in n s) (if b then none else [])) h ∙ sym (ap (λ b. if b then stay else true) h)
  move-test e k a None (inr h) =
      let none : List NetExpr = map (λ x. fails (all_hold (opens k x))) (filter (is_edge_for syncing e) a.edges) in
      let any : Bool = list_any (is_enabled syncing e s (k, automaton_in n a)) (map (edge_meant n) a.edges) in
      let stay : Bool = false || (true && monitors_event e a && not any) in
      ap (λ b. list_all (true_in n s) (if b then none else [])) h.0
      ∙ closed-test k (filter (is_edge_for syncing e) a.edges)
      ∙ ap not (any-open e k a a.edges)
      ∙ sym (ap (λ b. if b then stay else true) h.0 ∙ ap (λ c. c && not any) h.1)
  move-test e k a (Some j) h =
      let x : NetEdge = h.0 in
      let test : list_all (true_in n s) (move_test e ((k, a), Some j)) ≡ open_edge k x =
      ap (λ o. list_all (true_in n s) (elim o [ None ↦ [] | Some y ↦ opens k y ])) h.1 ∙ open-test k x in
      let q : Role → Bool = λ p. passes (is_enabled p e s (k, automaton_in n a)) (slice_get (map (edge_meant n) a.edges) j) in
      let is : (p : Role) → q p ≡ (same_role p x.role && open_edge k x) = λ p. opened e k j a x p h.1 h.2 in
      test
      ∙ sym
      (⊎_elim
      (λ (r : (x.role ≡ syncing) × (syncs_on e a ≡ true)).
      ap (λ b. if b then (q syncing || (false && monitors_event e a && not (list_any (is_enabled syncing e s (k, automaton_in n a)) (map (edge_meant n) a.edges)))) else (q sending || q receiving || false)) r.1
      ∙ or-false (q syncing) ∙ is syncing ∙ ap (λ p. same_role syncing p && open_edge k x) r.0)
      (λ (r : ((x.role ≡ sending) ⊎ (x.role ≡ receiving)) × (syncs_on e a ≡ false)).
      ap (λ b. if b then (q syncing || (false && monitors_event e a && not (list_any (is_enabled syncing e s (k, automaton_in n a)) (map (edge_meant n) a.edges)))) else (q sending || q receiving || false)) r.1
      ∙ or-false (q sending || q receiving)
      ∙ ⊎_elim
      (λ (t : x.role ≡ sending). ap-two (λ b c. b || c) (is sending ∙ ap (λ p. same_role sending p && open_edge k x) t) (is receiving ∙ ap (λ p. same_role receiving p && open_edge k x) t) ∙ or-false (open_edge k x))
      (λ (t : x.role ≡ receiving). ap-two (λ b c. b || c) (is sending ∙ ap (λ p. same_role sending p && open_edge k x) t) (is receiving ∙ ap (λ p. same_role receiving p && open_edge k x) t))
      r.0)
      h.3)

  -- each automaton may do in a listed choice what the choice says
  abbrev pub AllListed : ℕ → List NetAuto → Choice → Type 0
  AllListed e [] ch = Unit {0}
  AllListed e (a ∷ ds) [] = Unit {0}
  AllListed e (a ∷ ds) (o ∷ ch) = Listed e a o × AllListed e ds ch

  moves-test : (e i : ℕ) (ds : List NetAuto) (ch : Choice) → AllListed e ds ch
      → list_all (λ m. list_all (true_in n s) (move_test e m)) (zip (enumerate_from i ds) ch) ≡ list_all (fits e s) (zip (enumerate_from i (map (automaton_in n) ds)) ch)
  moves-test e i [] ch h = refl
  moves-test e i (a ∷ ds) [] h = refl
  moves-test e i (a ∷ ds) (o ∷ ch) h = ap-two (λ b c. b && c) (move-test e i a o h.0) (moves-test e (i + 1) ds ch h.1)

  -- the test of a choice is that each automaton does what it may
  pub choice-test : (e : ℕ) (ch : Choice) → AllListed e n.autos ch → true_in n s (all_hold (choice_test n e ch)) ≡ list_all (fits e s) (moves (system_of_net n) ch)
  choice-test e ch h = all-exprs (choice_test n e ch) ∙ all-spread (move_test e) (zip (enumerate_from 0 n.autos) ch) ∙ moves-test e 0 n.autos ch h
