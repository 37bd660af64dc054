-- The state after a choice: what it does not change stays, so where all state invariants held before, those that are asked tell
-- whether all hold after.
use Rattle.std.proofs.Common.{◌≡◌, ℕ, zero, suc, ◌+◌, ◌<◌, ◌≤◌, ℤ, pos, Bool, true, false, ◌&&◌, List, [], ◌∷◌, map, filter, filter_map, length, zip, Option, Some, None, option_and_then, cond, inl, inr, refl, sym, ap, subst, ◌∙◌, arith}
use Rattle.std.specs.Prelude.{is_some, option_map, slice_get, slice_index_or}
use Rattle.std.specs.List.{AllByRecursion, cons_option, enumerate_from, list_all, list_any, range_with_len}
use Rattle.std.proofs.lemmas.List.Folds.{list_all-append}
use Rattle.std.proofs.lemmas.Option.{slice_get-map}
use Rattle.cif_system.specs.System.{Automaton, Edge, EndsInside, IsState, State, System}
use Rattle.cif_system.specs.Step.{Choice, after, agrees, assigned, assigned_fits, is_permitted, meets_invariants, new_place, new_value, new_values, sent_fits}
use Rattle.cif_system.specs.Words.{Member}
use Rattle.cif_system.proofs.Lists.{map-length}
use Rattle.cif_system.proofs.Picks.{at-member}
use Rattle.cif_system.proofs.StateLaws.{step-state}
use Rattle.cif_net_expr.specs.Tree.{NetExpr}
use Rattle.cif_net_model.specs.Net.{NetAuto, NetEdge, NetInvariant, Net}
use Rattle.cif_net_model.specs.Facts.{invariant_stands}
use Rattle.cif_net_model.specs.Kinds.{all_fit, bool_kind, fits}
use Rattle.cif_net_model.specs.Listing.{NetChoice, all_hold, edge_at, edge_in, exprs_of}
use Rattle.cif_net_model.specs.Meaning.{automaton_in, edge_meant, invariant_in, net_assigned_all, system_of_net, true_in}
use Rattle.cif_net_model.specs.Reads.{Read, a_var, an_input, an_alg, a_place, the_received, alg_passes, list_names, names_in, names_no_alg}
use Rattle.cif_net_model.proofs.Passing.{all-member}
use Rattle.plc_model.proofs.FaceLaws.{pairwise-length}
use Rattle.plc_frame.proofs.Agreeing.{AreAlike, true-alike}
use Rattle.plc_frame.proofs.Choosing.{all-filter as keep-filter, choice_in}
use Rattle.plc_event_model.specs.Keeps.{asked, depends, invariants_at, may_change, taken_edge}
use Rattle.plc_event_model.specs.Ready.{state_after}
use Rattle.plc_event_model.proofs.Targets.{or-left, or-right, others-stay}

-- ---- lists

-- the value of a variable after pairs are assigned
pub value-assigned : (ws : List (ℕ × ℤ)) (i : ℕ) (zs : List ℤ) (v : ℕ) → v < length zs → slice_index_or (new_values ws i zs) v (pos 0) ≡ new_value ws (i + v) (slice_index_or zs v (pos 0))
value-assigned ws i [] v h = absurd (omega (arith, h))
value-assigned ws i (z ∷ zs) zero h = ap (λ k. new_value ws k z) (omega arith)
value-assigned ws i (z ∷ zs) (suc v) h = value-assigned ws (suc i) zs v (omega (arith, h)) ∙ ap (λ k. new_value ws k (slice_index_or zs v (pos 0))) (omega arith)

value-stays : (ws : List (ℕ × ℤ)) (i : ℕ) (zs : List ℤ) (v : ℕ) → ((z : ℤ) → new_value ws (i + v) z ≡ z) → slice_index_or (new_values ws i zs) v (pos 0) ≡ slice_index_or zs v (pos 0)
value-stays ws i [] v h = refl
value-stays ws i (z ∷ zs) zero h = subst (λ k. new_value ws k z ≡ z) (omega arith) (h z)
value-stays ws i (z ∷ zs) (suc v) h = value-stays ws (suc i) zs v (λ q. subst (λ k. new_value ws k q ≡ q) (omega arith) (h q))

-- what the numbers of all elements tell is told of the elements
all-numbers : {A B : Type 0} (f : ℕ → Option B) (g : A → B) (i : ℕ) (xs : List A) → ((k : ℕ) → f (i + k) ≡ option_map g (slice_get xs k)) → filter_map f (range_with_len i (length xs)) ≡ map g xs
all-numbers f g i [] h = refl
all-numbers f g i (x ∷ xs) h =
    let first : f i ≡ Some (g x) = ap f (omega arith) ∙ h 0 in
    ap (λ o. cons_option o (filter_map f (range_with_len (i + 1) (length xs)))) first
    ∙ ap (λ r. g x ∷ r) (all-numbers f g (i + 1) xs (λ k. ap f (omega arith) ∙ h (suc k)))

-- of a list whose other elements pass
all-filter : {A : Type 0} (p q : A → Bool) (xs : List A) → ((x : A) → Member x xs → q x ≡ false → p x ≡ true) → list_all p (filter q xs) ≡ list_all p xs
all-filter p q [] h = refl
all-filter p q (x ∷ xs) h = go (q x) refl (all-filter p q xs (λ z m. h z (inr m)))
  where
    go : (b : Bool) → q x ≡ b → list_all p (filter q xs) ≡ list_all p xs → list_all p (cond b (x ∷ filter q xs) (filter q xs)) ≡ (p x && list_all p xs)
    go true is rest = ap (λ b. p x && b) rest
    go false is rest = rest ∙ ap (λ b. b && list_all p xs) (sym (h x (inl refl) is))

-- ---- places

-- where an automaton is that was in place l
abbrev pub moved_to : ℕ → Option NetEdge → ℕ
moved_to l None = l
moved_to l (Some x) = x.to

module _ (n : Net) (c : NetChoice) (s : State) where
  place-from : (i : ℕ) (xs : List NetAuto) (ls : List ℕ) → length ls ≡ length xs → ((j : ℕ) → slice_index_or s.locs (i + j) 0 ≡ slice_index_or ls j 0) → (k : ℕ)
      → slice_index_or (map (new_place s) (zip (enumerate_from i (map (automaton_in n) xs)) (map (edge_in c.moves) (range_with_len i (length xs))))) k 0
      ≡ moved_to (slice_index_or ls k 0) (option_and_then (λ (a : NetAuto). edge_at (a, edge_in c.moves (i + k))) (slice_get xs k))
  place-from i [] [] long same k = refl
  place-from i [] (l ∷ ls) long same k = absurd (omega (arith, long))
  place-from i (a ∷ xs) [] long same k = absurd (omega (arith, long))
  place-from i (a ∷ xs) (l ∷ ls) long same zero = go (edge_in c.moves i) ∙ ap (λ j. moved_to l (edge_at (a, edge_in c.moves j))) (omega arith)
    where
      here : slice_index_or s.locs i 0 ≡ l
      here = ap (λ j. slice_index_or s.locs j 0) (omega arith) ∙ same 0

      taken : (o : Option NetEdge) → (elim (option_map (edge_meant n) o) [ None ↦ slice_index_or s.locs i 0 | Some x ↦ x.to ]) ≡ moved_to l o
      taken None = here
      taken (Some x) = refl

      go : (m : Option ℕ) → (elim (option_and_then (slice_get (map (edge_meant n) a.edges)) m) [ None ↦ slice_index_or s.locs i 0 | Some x ↦ x.to ]) ≡ moved_to l (edge_at (a, m))
      go None = here
      go (Some j) = ap (λ (o : Option Edge). elim o [ None ↦ slice_index_or s.locs i 0 | Some x ↦ x.to ]) (slice_get-map (edge_meant n) a.edges j) ∙ taken (slice_get a.edges j)
  place-from i (a ∷ xs) (l ∷ ls) long same (suc k) =
      place-from (i + 1) xs ls (omega (arith, long)) (λ j. ap (λ q. slice_index_or s.locs q 0) (omega arith) ∙ same (suc j)) k
      ∙ ap (λ j. moved_to (slice_index_or ls k 0) (option_and_then (λ (b : NetAuto). edge_at (b, edge_in c.moves j)) (slice_get xs k))) (omega arith)

  pub place-after : IsState (system_of_net n) s → (k : ℕ) → slice_index_or (state_after n c s).locs k 0 ≡ moved_to (slice_index_or s.locs k 0) (taken_edge n c k)
  place-after is_state k =
      let long : length s.locs ≡ length n.autos = sym (pairwise-length (λ (a : Automaton) l. suc l ≤ a.places) (map (automaton_in n) n.autos) s.locs is_state.places) ∙ map-length (automaton_in n) n.autos in
      place-from 0 n.autos s.locs long (λ j. ap (λ q. slice_index_or s.locs q 0) (omega arith)) k
      ∙ ap (λ j. moved_to (slice_index_or s.locs k 0) (option_and_then (λ (a : NetAuto). edge_at (a, edge_in c.moves j)) (slice_get n.autos k))) (omega arith)

  -- ---- what stays

  module _ (is_state : IsState (system_of_net n) s) (r : ℤ) (assigns : net_assigned_all n s r c.writes ≡ assigned (system_of_net n) s (choice_in n c)) where
    stays-alike : (xs : List Read) → list_all (alg_passes (λ k. false)) xs ≡ true → list_any (may_change n c) xs ≡ false → AreAlike n (state_after n c s) s xs
    stays-alike [] h g = tt
    stays-alike (a_var v ∷ xs) h g = (
      value-stays (assigned (system_of_net n) s (choice_in n c)) 0 s.vals v
          (λ z. subst (λ ws. new_value ws (0 + v) z ≡ z) assigns
          (ap (λ k. new_value (net_assigned_all n s r c.writes) k z) (omega arith) ∙ others-stay n s r v c.writes (or-left _ _ g) z)),
      stays-alike xs h (or-right _ _ g),
    )
    stays-alike (an_input k ∷ xs) h g = (refl, stays-alike xs h g)
    stays-alike (an_alg k ∷ xs) h g = absurd cc
    stays-alike (a_place k ∷ xs) h g = (place-after is_state k ∙ go (taken_edge n c k) (or-left _ _ g), stays-alike xs h (or-right _ _ g))
      where
        go : (o : Option NetEdge) → is_some o ≡ false → moved_to (slice_index_or s.locs k 0) o ≡ slice_index_or s.locs k 0
        go None e = refl
        go (Some x) e = absurd cc
    stays-alike (the_received ∷ xs) h g = (refl, stays-alike xs h g)

    stays-true : (e : NetExpr) → names_no_alg e ≡ true → depends n c e ≡ false → true_in n (state_after n c s) e ≡ true_in n s e
    stays-true e names other = true-alike n (state_after n c s) s e (stays-alike (names_in e) names other)

    -- ---- the invariants

    preds : (t : State) (is : List NetInvariant) → list_all (λ (f : State → Bool). f t) (map (invariant_in n) is) ≡ list_all (true_in n t) (map (λ (i : NetInvariant). i.pred) is)
    preds t [] = refl
    preds t (i ∷ is) = ap (λ b. true_in n t i.pred && b) (preds t is)

    names-all : (is : List NetInvariant) → list_all (λ (i : NetInvariant). names_no_alg i.pred) is ≡ true → list_all names_no_alg (map (λ (i : NetInvariant). i.pred) is) ≡ true
    names-all [] h = refl
    names-all (i ∷ is) h = go (names_no_alg i.pred) h (names-all is)
      where
        go : (b : Bool) → (b && list_all (λ (q : NetInvariant). names_no_alg q.pred) is) ≡ true
            → (list_all (λ (q : NetInvariant). names_no_alg q.pred) is ≡ true → list_all names_no_alg (map (λ (q : NetInvariant). q.pred) is) ≡ true)
            → (b && list_all names_no_alg (map (λ (q : NetInvariant). q.pred) is)) ≡ true
        go true h rest = rest h
        go false h rest = absurd cc

    -- those that are asked tell of all
    pub keeps-is : c.invariants ≡ range_with_len 0 (length n.invariants) → list_all (λ (i : NetInvariant). names_no_alg i.pred) n.invariants ≡ true → meets_invariants (system_of_net n) s ≡ true
        → meets_invariants (system_of_net n) (state_after n c s) ≡ list_all (true_in n (state_after n c s)) (asked n c)
    keeps-is all names before =
        let es : List NetExpr = map (λ (i : NetInvariant). i.pred) n.invariants in
        preds (state_after n c s) n.invariants
        ∙ sym (all-filter (true_in n (state_after n c s)) (depends n c) es
        (λ e m other. stays-true e (all-member names_no_alg es e (names-all n.invariants names) m) other ∙ all-member (true_in n s) es e (sym (preds s n.invariants) ∙ before) m))
        ∙ ap (λ is. list_all (true_in n (state_after n c s)) (filter (depends n c) is)) (sym (invariants-are all))
      where
        invariants-are : c.invariants ≡ range_with_len 0 (length n.invariants) → invariants_at n c.invariants ≡ map (λ (i : NetInvariant). i.pred) n.invariants
        invariants-are all =
            ap (invariants_at n) all
            ∙ all-numbers (λ k. option_map (λ (i : NetInvariant). i.pred) (slice_get n.invariants k)) (λ (i : NetInvariant). i.pred) 0 n.invariants
            (λ k. ap (λ j. option_map (λ (i : NetInvariant). i.pred) (slice_get n.invariants j)) (omega arith))

-- ---- what is known of those that are asked

-- each is boolean, and names no algebraic variable
abbrev pub IsPredicate : Net → NetExpr → Type 0
IsPredicate n e = (fits n None bool_kind e ≡ true) × (names_no_alg e ≡ true)

pub conjunction-is : (n : Net) (es : List NetExpr) → AllByRecursion (IsPredicate n) es → IsPredicate n (all_hold es)
conjunction-is n [] h = (refl, refl)
conjunction-is n (e ∷ es) h =
    let rest = conjunction-is n es h.1 in (
      ap (λ b. b && all_fit n None (exprs_of es)) h.0.0 ∙ rest.0,
      list_all-append (alg_passes (λ k. false)) (names_in e) (list_names (exprs_of es))
          ∙ ap (λ b. b && list_all (alg_passes (λ k. false)) (list_names (exprs_of es))) h.0.1 ∙ rest.1,
    )

module _ (n : Net) (stand : list_all (invariant_stands n) n.invariants ≡ true) (free : list_all (λ (i : NetInvariant). names_no_alg i.pred) n.invariants ≡ true) where
  at-are : (ks : List ℕ) → AllByRecursion (IsPredicate n) (invariants_at n ks)
  at-are [] = tt
  at-are (k ∷ ks) = go (slice_get n.invariants k) refl (at-are ks)
    where
      go : (o : Option NetInvariant) → slice_get n.invariants k ≡ o → AllByRecursion (IsPredicate n) (invariants_at n ks)
          → AllByRecursion (IsPredicate n) (cons_option (option_map (λ (i : NetInvariant). i.pred) o) (invariants_at n ks))
      go None at rest = rest
      go (Some i) at rest =
          let m = at-member n.invariants k i at in
          ((all-member (invariant_stands n) n.invariants i stand m, all-member (λ (q : NetInvariant). names_no_alg q.pred) n.invariants i free m), rest)

  pub asked-are : (c : NetChoice) → AllByRecursion (IsPredicate n) (asked n c)
  asked-are c = keep-filter (IsPredicate n) (depends n c) (invariants_at n c.invariants) (at-are c.invariants)

-- ---- the state after

-- where the choice agrees with its event and its values fit, it leads to a state, whatever holds there
pub after-state : (m : System) → EndsInside m → (s : State) (e : ℕ) (ch : Choice) → IsState m s → (agrees m s e ch && sent_fits m s e ch && assigned_fits m s ch && is_permitted m e s) ≡ true → IsState m (after m s ch)
after-state m ends s e ch h makes =
    let free : System = record m { invariants = [] } in
    let t = step-state free ends s e (after m s ch) (record { places = h.places; values = h.values; inputs = h.inputs }) record { choice = ch; makes = ap (λ b. b && true) makes; is_after = refl } in
    record { places = t.places; values = t.values; inputs = t.inputs }
