-- Whether a choice makes a step hangs on that alone which it and the state invariants name.
use Rattle.std.proofs.Common.{◌≡◌, ℕ, suc, ◌≤◌, ℤ, pos, Bool, true, false, ◌&&◌, List, [], ◌∷◌, ◌++◌, length, map, flat_map, Option, Some, None, refl, sym, ap, ◌∙◌, if◌then◌else◌}
use Rattle.std.specs.Prelude.{option_map, option_to_list, slice_get, unwrap_or}
use Rattle.std.specs.List.{AllByRecursion, list_all}
use Rattle.cif_system.specs.System.{Automaton, IsState, State, Stored, in_range}
use Rattle.cif_system.specs.Step.{after, agrees, assigned_fits, fits_channel, fits_variable, is_permitted, makes_step, meets_invariants, sent_fits}
use Rattle.cif_net_expr.specs.Tree.{NetExpr, NetUpdate, net_set, net_choose, NetUpdates, no_net_updates, net_updates, NetUpdateBranches, no_net_update_branches, net_update_branches}
use Rattle.cif_net_model.specs.Exprs.{updates_exprs, update_exprs, branches_exprs}
use Rattle.cif_net_model.specs.Interval.{truths}
use Rattle.cif_net_model.specs.Listing.{NetChoice, NetMove, full_choice}
use Rattle.cif_net_model.specs.Meaning.{alg_values, event_in, net_assigned_by, net_assigned_in, system_of_net, true_in}
use Rattle.cif_net_model.specs.Net.{NetInvariant, Net}
use Rattle.cif_net_model.specs.Reads.{Read, a_var, an_input, an_alg, a_place, the_received, names_in, names_no_alg}
use Rattle.cif_net_model.specs.Rules.{is_plain, is_plain_expr}
use Rattle.cif_net_model.specs.Unfolding.{at_or}
use Rattle.cif_net_model.specs.Value.{is_true}
use Rattle.cif_net_model.proofs.Passing.{and-left, and-right}
use Rattle.cif_net_model.proofs.ValueLaws.{Alike, Setting, all-parts, ap-two, value-alike, value-alone}
use Rattle.cif_net_model.specs.Safe.{value_at}
use Rattle.cif_eval.specs.Within.{within}
use Rattle.cif_eval.specs.Writes.{assigned_all, nothing, written}
use Rattle.cif_eval.proofs.Chosen.{Chosen, after-written, assigned-are, sent-fits, test-is}
use Rattle.cif_eval.proofs.Facts.{invariants-plain}
use Rattle.cif_eval.proofs.Lists.{zip-length}
use Rattle.cif_eval.proofs.Moves.{moved-alike, values-alike}
use Rattle.cif_eval.proofs.Worked.{meets-are}
use Rattle.cif_sim.specs.Named.{SameAt, choice_names, invariant_names}

abbrev setting : State → ℤ → Setting
setting s r = record { algs = λ k. pos 0; state = s; received = r }

pub joined : {A : Type 0} (P : A → Type 0) (xs ys : List A) → AllByRecursion P xs → AllByRecursion P ys → AllByRecursion P (xs ++ ys)
joined P [] ys f g = g
joined P (x ∷ xs) ys f g = (f.0, joined P xs ys f.1 g)

both-named : (P : Read → Type 0) (xs ys : List NetExpr) → AllByRecursion P (flat_map names_in (xs ++ ys)) → AllByRecursion P (flat_map names_in xs) × AllByRecursion P (flat_map names_in ys)
both-named P [] ys h = (tt, h)
both-named P (x ∷ xs) ys h =
    let q = all-parts P (names_in x) (flat_map names_in (xs ++ ys)) h in
    let p = both-named P xs ys q.1 in
    (joined P (names_in x) (flat_map names_in xs) q.0 p.0, p.1)

module _ (s t : State) (r : ℤ) where
  one-alike : (x : Read) → SameAt s t x → Alike (setting s r) (setting t r) x
  one-alike (a_var k) h = h
  one-alike (an_input k) h = h
  one-alike (an_alg k) h = refl
  one-alike (a_place k) h = h
  one-alike the_received h = refl

  all-alike : (xs : List Read) → AllByRecursion (SameAt s t) xs → AllByRecursion (Alike (setting s r) (setting t r)) xs
  all-alike [] h = tt
  all-alike (x ∷ xs) h = (one-alike x h.0, all-alike xs h.1)

  value-same : (e : NetExpr) → AllByRecursion (SameAt s t) (names_in e) → value_at (within s r) e ≡ value_at (within t r) e
  value-same e h = value-alike (setting s r) (setting t r) e (all-alike (names_in e) h)

  mutual
    updates-same : (us : NetUpdates) → AllByRecursion (SameAt s t) (flat_map names_in (updates_exprs us)) → assigned_all s r us ≡ assigned_all t r us
    updates-same no_net_updates h = refl
    updates-same (net_updates u us) h = let q = both-named (SameAt s t) (update_exprs u) (updates_exprs us) h in ap-two (λ xs ys. xs ++ ys) (update-same u q.0) (updates-same us q.1)

    update-same : (u : NetUpdate) → AllByRecursion (SameAt s t) (flat_map names_in (update_exprs u)) → net_assigned_by nothing s r u ≡ net_assigned_by nothing t r u
    update-same (net_set v e) h = ap (λ z. (v, z) ∷ []) (value-same e (all-parts (SameAt s t) (names_in e) [] h).0)
    update-same (net_choose bs us) h = let q = both-named (SameAt s t) (branches_exprs bs) (updates_exprs us) h in branches-same bs q.0 _ _ (updates-same us q.1)

    branches-same : (bs : NetUpdateBranches) → AllByRecursion (SameAt s t) (flat_map names_in (branches_exprs bs)) → (xs ys : List (ℕ × ℤ)) → xs ≡ ys → net_assigned_in nothing s r xs bs ≡ net_assigned_in nothing t r ys bs
    branches-same no_net_update_branches h xs ys same = same
    branches-same (net_update_branches c us bs) h xs ys same =
        let p = all-parts (SameAt s t) (names_in c) (flat_map names_in (updates_exprs us ++ branches_exprs bs)) h in
        let q = both-named (SameAt s t) (updates_exprs us) (branches_exprs bs) p.1 in
        ap (λ z. if is_true z then assigned_all s r us else net_assigned_in nothing s r xs bs) (value-same c p.0)
        ∙ ap-two (λ ws vs. if is_true (value_at (within t r) c) then ws else vs) (updates-same us q.0) (branches-same bs q.1 xs ys same)

-- ---- invariants

module _ (n : Net) (plain : is_plain n ≡ true) (s t : State) (of_s : IsState (system_of_net n) s) (of_t : IsState (system_of_net n) t) where
  vals-long : length s.vals ≡ length t.vals
  vals-long = sym (zip-length (λ (v : Stored) z. in_range v.range z ≡ true) (system_of_net n).variables s.vals of_s.values) ∙ zip-length (λ (v : Stored) z. in_range v.range z ≡ true) (system_of_net n).variables t.vals of_t.values

  locs-long : length s.locs ≡ length t.locs
  locs-long = sym (zip-length (λ (a : Automaton) l. suc l ≤ a.places) (system_of_net n).automata s.locs of_s.places) ∙ zip-length (λ (a : Automaton) l. suc l ≤ a.places) (system_of_net n).automata t.locs of_t.places

  module _ (ms : List NetMove) (ws : List (ℕ × ℤ)) where
    one-written : (x : Read) → SameAt s t x → SameAt (written n.autos ms ws s) (written n.autos ms ws t) x
    one-written (a_var k) same = values-alike ws 0 s.vals t.vals k vals-long same
    one-written (an_input k) same = same
    one-written (an_alg k) same = tt
    one-written (a_place k) same = moved-alike n.autos ms s.locs t.locs k locs-long same
    one-written the_received same = tt

    all-written : (xs : List Read) → AllByRecursion (SameAt s t) xs → AllByRecursion (SameAt (written n.autos ms ws s) (written n.autos ms ws t)) xs
    all-written [] h = tt
    all-written (x ∷ xs) h = (one-written x h.0, all-written xs h.1)

  abbrev PlainExprs : List NetInvariant → Type 0
  PlainExprs is = list_all (is_plain_expr n) (map (λ e. record { value = e; received = truths }) (map (λ (i : NetInvariant). i.pred) is)) ≡ true

  true-is : (u : State) (e : NetExpr) → names_no_alg e ≡ true → true_in n u e ≡ is_true (value_at (within u (pos 0)) e)
  true-is u e names = ap is_true (sym (value-alone (λ k. pos 0) (at_or (pos 0) (alg_values n u (pos 0) (length n.algs))) u (pos 0) e names))

  preds-same : (u w : State) (is : List NetInvariant) → PlainExprs is → AllByRecursion (SameAt u w) (flat_map (λ (i : NetInvariant). names_in i.pred) is)
      → list_all (true_in n u) (map (λ (i : NetInvariant). i.pred) is) ≡ list_all (true_in n w) (map (λ (i : NetInvariant). i.pred) is)
  preds-same u w [] p h = refl
  preds-same u w (i ∷ is) p h =
      let q = all-parts (SameAt u w) (names_in i.pred) (flat_map (λ (j : NetInvariant). names_in j.pred) is) h in
      let names : names_no_alg i.pred ≡ true = and-left _ _ (and-left _ _ (and-left _ _ p)) in
      ap-two (λ a b. a && b) (true-is u i.pred names ∙ ap is_true (value-same u w (pos 0) i.pred q.0) ∙ sym (true-is w i.pred names)) (preds-same u w is (and-right _ _ p) q.1)

  pub invariants-alike : (ms : List NetMove) (ws : List (ℕ × ℤ)) → AllByRecursion (SameAt s t) (invariant_names n)
      → meets_invariants (system_of_net n) (written n.autos ms ws s) ≡ meets_invariants (system_of_net n) (written n.autos ms ws t)
  invariants-alike ms ws h =
      meets-are n plain (written n.autos ms ws s)
      ∙ preds-same (written n.autos ms ws s) (written n.autos ms ws t) n.invariants (invariants-plain n plain) (all-written ms ws (invariant_names n) h)
      ∙ sym (meets-are n plain (written n.autos ms ws t))

-- ---- a choice

regrouped : (a x w p m : Bool) → (a && x && w && p && m) ≡ ((a && p) && x && w && m)
regrouped false x w p m = refl
regrouped true false w true m = refl
regrouped true false w false m = refl
regrouped true true false true m = refl
regrouped true true false false m = refl
regrouped true true true true m = refl
regrouped true true true false m = refl

module _ (n : Net) (c : NetChoice) (s t : State) (v : Chosen n c s) (w : Chosen n c t) (names : AllByRecursion (SameAt s t) (choice_names c)) (kept : AllByRecursion (SameAt s t) (invariant_names n)) where
  test-names : AllByRecursion (SameAt s t) (names_in c.test)
  test-names = (all-parts (SameAt s t) (names_in c.test) (flat_map names_in (option_to_list c.sent ++ updates_exprs c.writes)) names).0

  other-names : AllByRecursion (SameAt s t) (flat_map names_in (option_to_list c.sent)) × AllByRecursion (SameAt s t) (flat_map names_in (updates_exprs c.writes))
  other-names = both-named (SameAt s t) (option_to_list c.sent) (updates_exprs c.writes) (all-parts (SameAt s t) (names_in c.test) (flat_map names_in (option_to_list c.sent ++ updates_exprs c.writes)) names).1

  tests-same : (agrees (system_of_net n) s c.event (full_choice n c).1 && is_permitted (system_of_net n) c.event s) ≡ (agrees (system_of_net n) t c.event (full_choice n c).1 && is_permitted (system_of_net n) c.event t)
  tests-same = sym (test-is n c s v) ∙ ap is_true (value-same s t (pos 0) c.test test-names) ∙ test-is n c t w

  sent-same : option_map (value_at (within s (pos 0))) c.sent ≡ option_map (value_at (within t (pos 0))) c.sent
  sent-same = go c.sent other-names.0
    where
      go : (o : Option NetExpr) → AllByRecursion (SameAt s t) (flat_map names_in (option_to_list o)) → option_map (value_at (within s (pos 0))) o ≡ option_map (value_at (within t (pos 0))) o
      go None h = refl
      go (Some e) h = ap Some (value-same s t (pos 0) e (all-parts (SameAt s t) (names_in e) [] h).0)

  fits-same : sent_fits (system_of_net n) s c.event (full_choice n c).1 ≡ sent_fits (system_of_net n) t c.event (full_choice n c).1
  fits-same = sym (sent-fits n c s v) ∙ ap (λ o. list_all (fits_channel (slice_get (map event_in n.events) c.event)) (option_to_list o)) sent-same ∙ sent-fits n c t w

  pairs-same : assigned_all s (unwrap_or (option_map (value_at (within s (pos 0))) c.sent) (pos 0)) c.writes ≡ assigned_all t (unwrap_or (option_map (value_at (within t (pos 0))) c.sent) (pos 0)) c.writes
  pairs-same = ap (λ o. assigned_all s (unwrap_or o (pos 0)) c.writes) sent-same ∙ updates-same s t (unwrap_or (option_map (value_at (within t (pos 0))) c.sent) (pos 0)) c.writes other-names.1

  written-same : assigned_fits (system_of_net n) s (full_choice n c).1 ≡ assigned_fits (system_of_net n) t (full_choice n c).1
  written-same = ap (list_all (λ (x : ℕ × ℤ). fits_variable (slice_get (system_of_net n).variables x.0) x.1)) (sym (assigned-are n c s v) ∙ pairs-same ∙ assigned-are n c t w)

  kept-same : meets_invariants (system_of_net n) (after (system_of_net n) s (full_choice n c).1) ≡ meets_invariants (system_of_net n) (after (system_of_net n) t (full_choice n c).1)
  kept-same =
      ap (meets_invariants (system_of_net n)) (sym (after-written n c s v))
      ∙ invariants-alike n v.plain s t v.state w.state c.moves (assigned_all s (unwrap_or (option_map (value_at (within s (pos 0))) c.sent) (pos 0)) c.writes) kept
      ∙ ap (λ ws. meets_invariants (system_of_net n) (written n.autos c.moves ws t)) pairs-same
      ∙ ap (meets_invariants (system_of_net n)) (after-written n c t w)

  -- it makes a step in both or in neither
  pub makes-alike : makes_step (system_of_net n) s c.event (full_choice n c).1 ≡ makes_step (system_of_net n) t c.event (full_choice n c).1
  makes-alike =
      regrouped (agrees (system_of_net n) s c.event (full_choice n c).1) (sent_fits (system_of_net n) s c.event (full_choice n c).1) (assigned_fits (system_of_net n) s (full_choice n c).1) (is_permitted (system_of_net n) c.event s)
      (meets_invariants (system_of_net n) (after (system_of_net n) s (full_choice n c).1))
      ∙ ap-two (λ a b. a && b) (ap-two (λ a b. a && b) (ap-two (λ a b. a && b) tests-same fits-same) written-same) kept-same
      ∙ sym
      (regrouped (agrees (system_of_net n) t c.event (full_choice n c).1) (sent_fits (system_of_net n) t c.event (full_choice n c).1) (assigned_fits (system_of_net n) t (full_choice n c).1) (is_permitted (system_of_net n) c.event t)
      (meets_invariants (system_of_net n) (after (system_of_net n) t (full_choice n c).1)))
