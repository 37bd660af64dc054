-- The state invariants that are marked are those that are false after some choice that agrees.
use Rattle.std.proofs.Common.{◌≡◌, ℕ, zero, suc, ◌+◌, ◌^◌, ◌<◌, ℤ, pos, Bool, true, false, not, List, [], ◌∷◌, ◌++◌, length, map, filter_map, zip, Option, Some, None, refl, sym, ap, ◌∙◌, arith, if◌then◌else◌, replicate}
use Rattle.std.specs.Prelude.{slice_get, flat_map, option_map, option_to_list, ◌||◌, ◌&&◌, nat_eq}
use Rattle.std.specs.List.{cons_option, enumerate_from, list_all, list_any, range_with_len}
use Rattle.std.proofs.lemmas.Bool.Decides.{nat_tests}
use Rattle.std.proofs.lemmas.Option.{slice_get-map}
use Rattle.cif_system.specs.System.{Edge, IsState, State}
use Rattle.cif_system.specs.Step.{Choice, after, assigned, assigned_fits, edge_taken, fits_variable, sent_fits}
use Rattle.cif_system.proofs.Lists.{map-length}
use Rattle.cif_net_expr.specs.Tree.{NetUpdate, net_set, net_choose, NetUpdates, no_net_updates, net_updates, NetUpdateBranches, no_net_update_branches, net_update_branches}
use Rattle.cif_net_model.proofs.Passing.{and-left}
use Rattle.cif_net_model.proofs.ValueLaws.{ap-two, value-alone}
use Rattle.cif_net_model.specs.Exprs.{updates_exprs, writes_all, writes_by, writes_in}
use Rattle.cif_net_model.specs.Facts.{channel_of}
use Rattle.cif_net_model.specs.Listing.{NetChoice, full_choice, guarded_of, move_if, syncs_on}
use Rattle.cif_net_model.specs.Meaning.{alg_values, automaton_in, edge_meant, event_in, invariant_in, net_assigned_all, net_assigned_by, net_assigned_in, stored_in, system_of_net, value_in}
use Rattle.cif_net_model.specs.Net.{Net, NetAuto, NetEdge, NetInvariant}
use Rattle.cif_net_model.specs.Reads.{names_no_alg}
use Rattle.cif_net_model.specs.Shown.{channel_range}
use Rattle.cif_net_model.specs.Unfolding.{at_or}
use Rattle.cif_net_model.specs.Value.{is_true}
use Rattle.cif_net.specs.View.{choice_tree, event_tree, invariant_tree, net_tree}
use Rattle.cif_net.specs.declared.guarded.Guarded.{Guarded}
use Rattle.cif_net_model.specs.Safe.{IsSafe, Setting}
use Rattle.cif_net_laws.proofs.Sound.{kept, net-of}
use Rattle.cif_net_laws.proofs.Steps.{choices-are, guarded-steps}
use Rattle.cif_eval.specs.Choices.{system_of}
use Rattle.cif_eval.specs.Within.{within}
use Rattle.cif_eval.specs.Writes.{written}
use Rattle.cif_eval.proofs.Chosen.{Chosen, chosen-of}
use Rattle.cif_eval.proofs.Moves.{after-is, written-state}
use Rattle.cif_why_model.specs.Told.{Assigned}
use Rattle.cif_why_model.specs.Telling.{pair_of}
use Rattle.cif_why_model.specs.Reasons.{agreeing, breaks, choice_breaks, each_of, reason_if, received_in}
use Rattle.cif_sim_names.specs.Nets.{net_numbered_all, net_numbered_by, net_numbered_in}
use Rattle.cif_why.specs.Agreeing.{is_agreeing}
use Rattle.cif_why.specs.Breaking.{AreSafePreds, all_stored, assigned_in, choice_falsified, choices_falsified, edge_assigned, falsified, is_in_range, moves_assigned, state_after}
use Rattle.cif_why.specs.Leaving.{sending_of}
use Rattle.cif_why.specs.Lists.{each_from}
use Rattle.cif_why.specs.Marks.{at_place}
use Rattle.cif_why.specs.Numbering.{numbered_all}
use Rattle.cif_why.specs.Openings.{openings_from}
use Rattle.cif_why.specs.Parties.{true_at}
use Rattle.cif_why.proofs.Agreed.{any-agreeing}
use Rattle.cif_why.proofs.Guards.{autos-mean, each-there, invariant-plain, invariant-told}
use Rattle.cif_why.proofs.LeavesLaws.{names-each, none-set, range-length}
use Rattle.cif_why.proofs.Plain.{at-most}
use Rattle.cif_why.proofs.ListLaws.{each-same}
use Rattle.cif_why.proofs.MarkLaws.{one-set, or-assoc, or-false, range-same}
use Rattle.cif_why.proofs.NumberLaws.{all-numbered}
use Rattle.cif_why.proofs.ValueLaws.{fits-same, received-same}
use Rattle.cif_system.proofs.Picks.{append-right}
use Rattle.std.proofs.Common.{inr}

-- ---- what is assigned

map-append : {A B : Type 0} (f : A → B) (xs ys : List A) → map f (xs ++ ys) ≡ map f xs ++ map f ys
map-append f [] ys = refl
map-append f (x ∷ xs) ys = ap (λ zs. f x ∷ zs) (map-append f xs ys)

all-map : {A B : Type 0} (f : A → B) (p : B → Bool) (xs : List A) → list_all (λ x. p (f x)) xs ≡ list_all p (map f xs)
all-map f p [] = refl
all-map f p (x ∷ xs) = ap (λ b. p (f x) && b) (all-map f p xs)

module _ (n : Net) (s : State) (r : ℤ) where
  if-map : (b : Bool) (xs ys : List Assigned) (us vs : List (ℕ × ℤ)) → map pair_of xs ≡ us → map pair_of ys ≡ vs → map pair_of (if b then xs else ys) ≡ (if b then us else vs)
  if-map true xs ys us vs h g = h
  if-map false xs ys us vs h g = g

  mutual
    pairs-all : (us : NetUpdates) (k : ℕ) → map pair_of (net_numbered_all n s r k us) ≡ net_assigned_all n s r us
    pairs-all no_net_updates k = refl
    pairs-all (net_updates u us) k =
        map-append pair_of (net_numbered_by n s r k u) (net_numbered_all n s r (k + length (writes_by u)) us)
        ∙ ap-two (λ xs ys. xs ++ ys) (pairs-by u k) (pairs-all us (k + length (writes_by u)))

    pairs-by : (u : NetUpdate) (k : ℕ) → map pair_of (net_numbered_by n s r k u) ≡ net_assigned_by n s r u
    pairs-by (net_set v e) k = refl
    pairs-by (net_choose bs us) k = pairs-in bs k _ _ (pairs-all us (k + length (writes_in bs)))

    pairs-in : (bs : NetUpdateBranches) (k : ℕ) (xs : List Assigned) (ys : List (ℕ × ℤ)) → map pair_of xs ≡ ys → map pair_of (net_numbered_in n s r k xs bs) ≡ net_assigned_in n s r ys bs
    pairs-in no_net_update_branches k xs ys h = h
    pairs-in (net_update_branches c us bs) k xs ys h =
        if-map (is_true (value_in n s r c)) _ _ _ _ (pairs-all us k) (pairs-in bs (k + length (writes_all us)) xs ys h)

  module _ (e : ℕ) (plain : (k : ℕ) (a : NetAuto) (j : ℕ) (y : NetEdge) → slice_get n.autos k ≡ Some a → slice_get a.edges j ≡ Some y → list_all names_no_alg (updates_exprs y.updates) ≡ true) where
    one-move : (k j : ℕ) (a : NetAuto) (o : Option NetEdge) (rest : List Assigned) (more : List Edge) → slice_get n.autos k ≡ Some a → slice_get a.edges j ≡ o
        → map pair_of rest ≡ flat_map (λ (x : Edge). x.assigned s r) more
        → map pair_of (edge_assigned s r o ++ rest) ≡ flat_map (λ (x : Edge). x.assigned s r) (cons_option (option_map (edge_meant n) o) more)
    one-move k j a None rest more p q later = later
    one-move k j a (Some y) rest more p q later =
        map-append pair_of (numbered_all (within s r) 0 y.updates) rest
        ∙ ap-two (λ xs ys. xs ++ ys) (ap (map pair_of) (all-numbered n s r 0 y.updates (plain k a j y p q)) ∙ pairs-all y.updates 0) later

    moves-from : (k : ℕ) (autos : List NetAuto) (ch : Choice) → ((d : ℕ) (a : NetAuto) → slice_get autos d ≡ Some a → slice_get n.autos (k + d) ≡ Some a)
        → map pair_of (moves_assigned n.autos s r (filter_map (move_if e) (zip (enumerate_from k autos) ch)))
        ≡ flat_map (λ (x : Edge). x.assigned s r) (filter_map edge_taken (zip (enumerate_from k (map (automaton_in n) autos)) ch))
    moves-from k [] ch there = refl
    moves-from k (a ∷ autos) [] there = refl
    moves-from k (a ∷ autos) (None ∷ ch) there = by (syncs_on e a) (moves-from (k + 1) autos ch (λ d b h. ap (slice_get n.autos) (omega arith) ∙ there (suc d) b h))
      where
        by : (b : Bool)
            → map pair_of (moves_assigned n.autos s r (filter_map (move_if e) (zip (enumerate_from (k + 1) autos) ch))) ≡ flat_map (λ (x : Edge). x.assigned s r) (filter_map edge_taken (zip (enumerate_from (k + 1) (map (automaton_in n) autos)) ch))
            → map pair_of (moves_assigned n.autos s r (cons_option (if b then Some (record { auto = k; edge = None }) else None) (filter_map (move_if e) (zip (enumerate_from (k + 1) autos) ch))))
            ≡ flat_map (λ (x : Edge). x.assigned s r) (filter_map edge_taken (zip (enumerate_from (k + 1) (map (automaton_in n) autos)) ch))
        by true later = later
        by false later = later
    moves-from k (a ∷ autos) (Some y ∷ ch) there =
        let here : slice_get n.autos k ≡ Some a = ap (slice_get n.autos) (omega arith) ∙ there 0 a refl in
        ap (λ (o : Option NetAuto). map pair_of (edge_assigned s r (elim o [ None ↦ None | Some b ↦ slice_get b.edges y ]) ++ moves_assigned n.autos s r (filter_map (move_if e) (zip (enumerate_from (k + 1) autos) ch)))) here
        ∙ one-move k y a (slice_get a.edges y) (moves_assigned n.autos s r (filter_map (move_if e) (zip (enumerate_from (k + 1) autos) ch))) (filter_map edge_taken (zip (enumerate_from (k + 1) (map (automaton_in n) autos)) ch)) here refl
        (moves-from (k + 1) autos ch (λ d b h. ap (slice_get n.autos) (omega arith) ∙ there (suc d) b h))
        ∙ ap (λ o. flat_map (λ (x : Edge). x.assigned s r) (cons_option o (filter_map edge_taken (zip (enumerate_from (k + 1) (map (automaton_in n) autos)) ch)))) (sym (slice_get-map (edge_meant n) a.edges y))

module _ (n : Net) (c : NetChoice) (s : State) (v : Chosen n c s) where
  updates-plain : (k : ℕ) (a : NetAuto) (j : ℕ) (y : NetEdge) → slice_get n.autos k ≡ Some a → slice_get a.edges j ≡ Some y → list_all names_no_alg (updates_exprs y.updates) ≡ true
  updates-plain k a j y p q =
      let w = kept n v.plain k a j y p q in
      names-each n (channel_range (channel_of n y.event)) (updates_exprs y.updates) (λ f m. w.plain f (inr (append-right f (option_to_list y.sent) (updates_exprs y.updates) m)))

  pairs-are : map pair_of (assigned_in n s c) ≡ assigned (system_of_net n) s (full_choice n c).1
  pairs-are =
      ap (λ z. map pair_of (moves_assigned n.autos s z c.moves)) (received-same n c s v)
      ∙ ap (λ ms. map pair_of (moves_assigned n.autos s (received_in (system_of_net n) s (full_choice n c).1) ms)) v.parties
      ∙ moves-from n s (received_in (system_of_net n) s (full_choice n c).1) c.event updates-plain 0 n.autos (full_choice n c).1 (λ d a h. ap (slice_get n.autos) (omega arith) ∙ h)

  stored-are : all_stored n.vars (assigned_in n s c) ≡ assigned_fits (system_of_net n) s (full_choice n c).1
  stored-are =
      all-map pair_of (λ (w : ℕ × ℤ). fits_variable (slice_get (map stored_in n.vars) w.0) w.1) (assigned_in n s c)
      ∙ ap (list_all (λ (w : ℕ × ℤ). fits_variable (slice_get (map stored_in n.vars) w.0) w.1)) pairs-are

  in-range-is : is_in_range n s c ≡ (sent_fits (system_of_net n) s c.event (full_choice n c).1 && assigned_fits (system_of_net n) s (full_choice n c).1)
  in-range-is = ap-two (λ a b. a && b) (fits-same n c s v) stored-are

  after-same : state_after n s c ≡ after (system_of_net n) s (full_choice n c).1
  after-same = ap (λ ws. written n.autos c.moves ws s) pairs-are ∙ after-is n c s v.state v.parties

  -- it is a state, where the values are in range
  pub after-state : all_stored n.vars (assigned_in n s c) ≡ true → IsState (system_of_net n) (state_after n s c)
  after-state fit =
      written-state n (net-of n v.plain) c.moves (map pair_of (assigned_in n s c)) s
      (sym (all-map pair_of (λ (w : ℕ × ℤ). fits_variable (slice_get (map stored_in n.vars) w.0) w.1) (assigned_in n s c)) ∙ fit) v.state

  pub preds-safe : all_stored n.vars (assigned_in n s c) ≡ true → AreSafePreds (within (state_after n s c) (pos 0)) n.invariants
  preds-safe fit = each-there (λ (i : NetInvariant). IsSafe (within (state_after n s c) (pos 0)) i.pred) n.invariants (λ k i at. (invariant-told n (state_after n s c) v.plain (after-state fit) k i at).safe)

-- ---- marks

module _ (x : Setting) where
  abbrev false_at : (k : ℕ) → List NetInvariant → (l : ℕ) → Bool
  false_at k [] l = false
  false_at k (i ∷ is) l = (not (true_at x i.pred) && nat_eq l k) || false_at (k + 1) is l

  one-falsified : (b : Bool) (f : ℕ → Bool) (k c : ℕ) → (if b then map f (range_with_len 0 c) else at_place (λ z. true) k (map f (range_with_len 0 c))) ≡ map (λ l. f l || (not b && nat_eq l k)) (range_with_len 0 c)
  one-falsified true f k c = range-same _ _ 0 c (λ l p q. sym (or-false (f l)))
  one-falsified false f k c = one-set f 0 c k ∙ range-same _ _ 0 c (λ l p q. ap (λ j. f l || nat_eq l j) (omega arith))

  falsified-is : (k : ℕ) (is : List NetInvariant) (f : ℕ → Bool) (c : ℕ) → falsified x k is (map f (range_with_len 0 c)) ≡ map (λ l. f l || false_at k is l) (range_with_len 0 c)
  falsified-is k [] f c = range-same _ _ 0 c (λ l p q. sym (or-false (f l)))
  falsified-is k (i ∷ is) f c =
      ap (falsified x (k + 1) is) (one-falsified (true_at x i.pred) f k c)
      ∙ falsified-is (k + 1) is (λ l. f l || (not (true_at x i.pred) && nat_eq l k)) c
      ∙ range-same _ _ 0 c (λ l p q. or-assoc (f l) (not (true_at x i.pred) && nat_eq l k) (false_at (k + 1) is l))

  none-later : (k : ℕ) (is : List NetInvariant) (l : ℕ) → l < k → false_at k is l ≡ false
  none-later k [] l h = refl
  none-later k (i ∷ is) l h =
      let no : nat_eq l k ≡ false = grind (arith, nat_tests) in
      ap-two (λ a b. (not (true_at x i.pred) && a) || b) no (none-later (k + 1) is l (omega (arith, h))) ∙ nothing (not (true_at x i.pred))
    where
      nothing : (b : Bool) → ((b && false) || false) ≡ false
      nothing true = refl
      nothing false = refl

  at-false : (k : ℕ) (is : List NetInvariant) (d : ℕ) (i : NetInvariant) → slice_get is d ≡ Some i → false_at k is (k + d) ≡ not (true_at x i.pred)
  at-false k [] d i h = absurd cc
  at-false k (j ∷ is) zero i h =
      let own : nat_eq (k + 0) k ≡ true = grind (arith, nat_tests) in
      ap-two (λ a b. (not (true_at x j.pred) && a) || b) own (none-later (k + 1) is (k + 0) (omega arith))
      ∙ both (not (true_at x j.pred))
      ∙ ap (λ (o : Option NetInvariant). elim o [ None ↦ false | Some z ↦ not (true_at x z.pred) ]) h
    where
      both : (b : Bool) → ((b && true) || false) ≡ b
      both true = refl
      both false = refl
  at-false k (j ∷ is) (suc d) i h =
      let other : nat_eq (k + suc d) k ≡ false = grind (arith, nat_tests) in
      ap (λ a. (not (true_at x j.pred) && a) || false_at (k + 1) is (k + suc d)) other
      ∙ skip (not (true_at x j.pred))
      ∙ ap (false_at (k + 1) is) (omega arith)
      ∙ at-false (k + 1) is d i h
    where
      skip : (b : Bool) → ((b && false) || false_at (k + 1) is (k + suc d)) ≡ false_at (k + 1) is (k + suc d)
      skip true = refl
      skip false = refl

module _ (n : Net) (s : State) where
  abbrev falsifies : ℕ → NetChoice → Bool
  falsifies l c = is_in_range n s c && false_at (within (state_after n s c) (pos 0)) 0 n.invariants l

  one-choice : (b : Bool) (c : NetChoice) (f : ℕ → Bool) (m : ℕ) → (if b then choice_falsified n s c (map f (range_with_len 0 m)) else map f (range_with_len 0 m)) ≡ map (λ l. f l || (b && falsifies l c)) (range_with_len 0 m)
  one-choice false c f m = range-same _ _ 0 m (λ l p q. sym (or-false (f l)))
  one-choice true c f m = by (sending_of n.events s c).fits (all_stored n.vars (assigned_in n s c))
    where
      by : (a b : Bool) → (if a then (if b then falsified (within (state_after n s c) (pos 0)) 0 n.invariants (map f (range_with_len 0 m)) else map f (range_with_len 0 m)) else map f (range_with_len 0 m))
          ≡ map (λ l. f l || ((a && b) && false_at (within (state_after n s c) (pos 0)) 0 n.invariants l)) (range_with_len 0 m)
      by true true = falsified-is (within (state_after n s c) (pos 0)) 0 n.invariants f m
      by true false = range-same _ _ 0 m (λ l p q. sym (or-false (f l)))
      by false b = range-same _ _ 0 m (λ l p q. sym (or-false (f l)))

  choices-falsified : (p : NetChoice → Bool) (cs : List NetChoice) (f : ℕ → Bool) (m : ℕ)
      → choices_falsified p n s cs (map f (range_with_len 0 m)) ≡ map (λ l. f l || list_any (λ c. p c && falsifies l c) cs) (range_with_len 0 m)
  choices-falsified p [] f m = range-same _ _ 0 m (λ l q r. sym (or-false (f l)))
  choices-falsified p (c ∷ cs) f m =
      ap (choices_falsified p n s cs) (one-choice (p c) c f m)
      ∙ choices-falsified p cs (λ l. f l || (p c && falsifies l c)) m
      ∙ range-same _ _ 0 m (λ l q r. or-assoc (f l) (p c && falsifies l c) (list_any (λ z. p z && falsifies l z) cs))

-- ---- reasons

each-numbered : {A : Type 0} (f : ℕ → Bool) (i : ℕ) (xs : List A) → each_from breaks (λ k b. b) i (map f (range_with_len i (length xs))) ≡ each_from breaks (λ k y. f k) i xs
each-numbered f i [] = refl
each-numbered f i (x ∷ xs) = ap (λ rs. reason_if (f i) (breaks i) ++ rs) (each-numbered f (i + 1) xs)

module _ (g : Guarded) (s : State) (e : ℕ) (below : e < length g.plain.net.events) (state : IsState (system_of g) s) where
  abbrev n : Net
  n = net_tree g.plain.net

  abbrev passes : NetChoice → Bool
  passes = is_agreeing (openings_from (within s (pos 0)) e 0 n.autos) e

  abbrev cs : List NetChoice
  cs = map choice_tree g.choices

  abbrev broken : ℕ → Bool
  broken l = list_any (λ c. passes c && falsifies n s l c) cs

  chosen : (k : ℕ) (c : NetChoice) → slice_get cs k ≡ Some c → Chosen n c s
  chosen k c at = chosen-of n cs g.plain.plain (guarded-steps g) k c at s state

  event-below : e < length (system_of_net n).events
  event-below =
      let r = map-length event_tree g.plain.net.events in
      let q = map-length event_in (map event_tree g.plain.net.events) in
      omega (arith, below, r, q)

  one-broken : (d : ℕ) (i : NetInvariant) → slice_get n.invariants d ≡ Some i → (k : ℕ) (c : NetChoice) → slice_get (guarded_of n) k ≡ Some c
      → falsifies n s d c ≡ choice_breaks (system_of_net n) s c.event (full_choice n c).1 (invariant_in n i)
  one-broken d i p k c at =
      let v = chosen k c (ap (λ xs. slice_get xs k) (choices-are g) ∙ at) in
      let t : State = state_after n s c in
      let now : false_at (within t (pos 0)) 0 n.invariants d ≡ not (true_at (within t (pos 0)) i.pred) = ap (false_at (within t (pos 0)) 0 n.invariants) (omega arith) ∙ at-false (within t (pos 0)) 0 n.invariants d i p in
      ap-two (λ a b. a && b) (in-range-is n c s v)
      (now
      ∙ ap (λ z. not (is_true z)) (value-alone (λ j. pos 0) (at_or (pos 0) (alg_values n t (pos 0) (length n.algs))) t (pos 0) i.pred (and-left _ _ (and-left _ _ (invariant-plain n s g.plain.plain state d i p))))
      ∙ ap (λ u. not (invariant_in n i u)) (after-same n c s v))

  invariant-broken : (d : ℕ) (i : NetInvariant) → slice_get n.invariants d ≡ Some i → broken d ≡ list_any (λ ch. choice_breaks (system_of_net n) s e ch (invariant_in n i)) (agreeing (system_of_net n) s e)
  invariant-broken d i p =
      ap (list_any (λ c. passes c && falsifies n s d c)) (choices-are g)
      ∙ any-agreeing n s (within s (pos 0)) e g.plain.plain refl (autos-mean n s g.plain.plain state) event-below (falsifies n s d)
      (λ ch. choice_breaks (system_of_net n) s e ch (invariant_in n i))
      (λ k c at own agree. one-broken d i p k c at ∙ ap (λ f. choice_breaks (system_of_net n) s f (full_choice n c).1 (invariant_in n i)) own)

  marks-are : choices_falsified passes n s cs (replicate (length g.plain.net.invariants) false) ≡ map broken (range_with_len 0 (length n.invariants))
  marks-are =
      let long = map-length invariant_tree g.plain.net.invariants in
      ap (λ m. choices_falsified passes n s cs (replicate m false)) (sym long)
      ∙ ap (choices_falsified passes n s cs) (none-set 0 (length n.invariants))
      ∙ choices-falsified n s passes cs (λ l. false) (length n.invariants)

  pub few-broken : length (choices_falsified passes n s cs (replicate (length g.plain.net.invariants) false)) < 2 ^ 32
  few-broken =
      let size : length (choices_falsified passes n s cs (replicate (length g.plain.net.invariants) false)) ≡ length n.invariants =
      ap length marks-are ∙ map-length broken (range_with_len 0 (length n.invariants)) ∙ range-length 0 (length n.invariants) in
      let most = at-most n (net-of n g.plain.plain) in
      omega (arith, size, most)

  -- the reasons of the marks
  pub breaks-told : each_from breaks (λ k b. b) 0 (choices_falsified passes n s cs (replicate (length g.plain.net.invariants) false))
      ≡ each_of breaks (λ z. list_any (λ ch. choice_breaks (system_of g) s e ch z.1) (agreeing (system_of g) s e)) (system_of g).invariants
  breaks-told =
      ap (each_from breaks (λ k b. b) 0) marks-are
      ∙ each-numbered broken 0 n.invariants
      ∙ each-same breaks (λ k i. broken k) (λ z. list_any (λ ch. choice_breaks (system_of_net n) s e ch z.1) (agreeing (system_of_net n) s e)) (invariant_in n) 0 n.invariants
      (λ k i p. ap broken (omega arith) ∙ invariant-broken k i p)
