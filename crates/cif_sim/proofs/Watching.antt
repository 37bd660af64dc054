-- Marks that are off stay true of the events after a state has changed and the readers of what changed were marked.
use Rattle.std.proofs.Common.{◌≡◌, ℕ, ◌<◌, ◌≢◌, ◌⊎◌, inl, inr, ℤ, pos, Bool, true, false, List, [], ◌∷◌, ◌++◌, length, map, flat_map, nat_eq, Option, Some, None, replicate, refl, sym, ap, subst, ◌∙◌, arith, length-set, get_or-set_other}
use Rattle.std.specs.Prelude.{is_some, option_map, option_to_list, slice_get, slice_set, unwrap_or}
use Rattle.std.specs.List.{AllByRecursion}
use Rattle.cif_system.specs.System.{IsState, State}
use Rattle.std.proofs.lemmas.Bool.Decides.{eqb_tells}
use Rattle.std.proofs.lemmas.Option.{get_or_from_slice_get}
use Rattle.cif_system.specs.Step.{after}
use Rattle.cif_system.specs.Step as step
use Rattle.cif_system.specs.Choices.{first_step}
use Rattle.cif_net_expr.specs.Tree.{NetExpr, NetUpdate, net_set, net_choose, NetUpdates, no_net_updates, net_updates, NetUpdateBranches, no_net_update_branches, net_update_branches}
use Rattle.cif_net_model.specs.Exprs.{branches_exprs, update_exprs, updates_exprs}
use Rattle.cif_net_model.specs.Listing.{NetChoice, NetMove, full_choice}
use Rattle.cif_net_model.specs.Reads.{Read, a_var, an_input, an_alg, a_place, the_received, names_in}
use Rattle.cif_net_model.proofs.ValueLaws.{all-parts}
use Rattle.cif_net.specs.View.{choice_tree, net_tree}
use Rattle.cif_net.specs.declared.guarded.Guarded.{Guarded}
use Rattle.cif_net.specs.declared.listing.Choice.{Choice}
use Rattle.cif_net_laws.proofs.Steps.{guarded-steps}
use Rattle.cif_eval.specs.Choices.{choice_at, system_of}
use Rattle.cif_eval.specs.Within.{within}
use Rattle.cif_eval.specs.Writes.{assigned_all, written}
use Rattle.cif_eval.proofs.Chosen.{Chosen, after-written, chosen-of}
use Rattle.cif_eval.proofs.Reading.{at_mapped}
use Rattle.cif_net_model.specs.Safe.{value_at}
use Rattle.cif_sim_model.specs.Runs.{with_input}
use Rattle.cif_sim.specs.Marks.{is_on, woken}
use Rattle.cif_sim.specs.Named.{SameAt, choice_names, invariant_names}
use Rattle.cif_sim.specs.Names.{branches_names, choice_reads, sent_names, update_names, updates_names}
use Rattle.cif_sim.specs.Readers.{AreReaders, IsReadAt, is_read, list_at}
use Rattle.cif_sim.specs.Tried.{Fires, after_at, has_step}
use Rattle.cif_sim.specs.Waking.{AreIdle, Woke, woken_branches, woken_by, woken_move, woken_moves, woken_update, woken_updates}
use Rattle.cif_sim.specs.Watched.{IsWatched}
use Rattle.cif_sim.specs.declared.readers.Readers.{Readers}
use Rattle.cif_sim.proofs.Alike.{joined}
use Rattle.cif_sim.proofs.Firsts.{get-some}
use Rattle.cif_sim.proofs.Idle.{stays-idle}
use Rattle.cif_sim.proofs.Listed.{all_of, event-at}
use Rattle.cif_sim.proofs.Listing.{all-change}
use Rattle.cif_sim.proofs.Marked.{all-long, all-on, woken-long, woken-off, woken-past}
use Rattle.cif_sim.proofs.Untouched.{Untouched, moved_name, moved_names, targets, targets_by, targets_in, touched, written-same}

-- the names of a choice are those of its expressions
module _ (P : Read → Type 0) where
  names-joined : (xs ys : List NetExpr) → AllByRecursion P (flat_map names_in xs) → AllByRecursion P (flat_map names_in ys) → AllByRecursion P (flat_map names_in (xs ++ ys))
  names-joined [] ys f g = g
  names-joined (x ∷ xs) ys f g =
      let q = all-parts P (names_in x) (flat_map names_in xs) f in
      joined P (names_in x) (flat_map names_in (xs ++ ys)) q.0 (names-joined xs ys q.1 g)

  alone : (xs : List Read) → AllByRecursion P xs → AllByRecursion P (xs ++ [])
  alone xs h = joined P xs [] h tt

  mutual
    updates-named : (us : NetUpdates) → AllByRecursion P (updates_names us) → AllByRecursion P (flat_map names_in (updates_exprs us))
    updates-named no_net_updates h = tt
    updates-named (net_updates u us) h =
        let q = all-parts P (update_names u) (updates_names us) h in
        names-joined (update_exprs u) (updates_exprs us) (update-named u q.0) (updates-named us q.1)

    update-named : (u : NetUpdate) → AllByRecursion P (update_names u) → AllByRecursion P (flat_map names_in (update_exprs u))
    update-named (net_set v e) h = alone (names_in e) h
    update-named (net_choose bs us) h =
        let q = all-parts P (branches_names bs) (updates_names us) h in
        names-joined (branches_exprs bs) (updates_exprs us) (branches-named bs q.0) (updates-named us q.1)

    branches-named : (bs : NetUpdateBranches) → AllByRecursion P (branches_names bs) → AllByRecursion P (flat_map names_in (branches_exprs bs))
    branches-named no_net_update_branches h = tt
    branches-named (net_update_branches c us bs) h =
        let p = all-parts P (names_in c) (updates_names us ++ branches_names bs) h in
        let q = all-parts P (updates_names us) (branches_names bs) p.1 in
        joined P (names_in c) (flat_map names_in (updates_exprs us ++ branches_exprs bs)) p.0
        (names-joined (updates_exprs us) (branches_exprs bs) (updates-named us q.0) (branches-named bs q.1))

  sent-named : (o : Option NetExpr) → AllByRecursion P (sent_names o) → AllByRecursion P (flat_map names_in (option_to_list o))
  sent-named None h = tt
  sent-named (Some e) h = alone (names_in e) h

  choice-named : (c : NetChoice) → AllByRecursion P (choice_reads c) → AllByRecursion P (choice_names c)
  choice-named c h =
      let p = all-parts P (names_in c.test) (sent_names c.sent ++ updates_names c.writes) h in
      let q = all-parts P (sent_names c.sent) (updates_names c.writes) p.1 in
      joined P (names_in c.test) (flat_map names_in (option_to_list c.sent ++ updates_exprs c.writes)) p.0
      (names-joined (option_to_list c.sent) (updates_exprs c.writes) (sent-named c.sent q.0) (updates-named c.writes q.1))

-- ---- marks of readers

-- neither event e nor the number behind the last event reads this
abbrev Missed : Readers → (n e : ℕ) → Read → Type 0
Missed t n e x = (is_read t x e ≡ false) × (is_read t x n ≡ false)

abbrev Off : Readers → (n e : ℕ) → List Bool → List Read → Type 0
Off t n e marks names = (is_on marks e ≡ false) × AllByRecursion (Missed t n e) names

module _ (t : Readers) where
  mutual
    updates-long : (us : NetUpdates) (m : List Bool) → length (woken_updates t.vars us m) ≡ length m
    updates-long no_net_updates m = refl
    updates-long (net_updates u us) m = updates-long us (woken_update t.vars u m) ∙ update-long u m

    update-long : (u : NetUpdate) (m : List Bool) → length (woken_update t.vars u m) ≡ length m
    update-long (net_set v e) m = woken-long (list_at t.vars v) m
    update-long (net_choose bs us) m = updates-long us (woken_branches t.vars bs m) ∙ branches-long bs m

    branches-long : (bs : NetUpdateBranches) (m : List Bool) → length (woken_branches t.vars bs m) ≡ length m
    branches-long no_net_update_branches m = refl
    branches-long (net_update_branches c us bs) m = branches-long bs (woken_updates t.vars us m) ∙ updates-long us m

  move-long : (auto : ℕ) (edge : Option ℕ) (m : List Bool) → length (woken_move t.places auto edge m) ≡ length m
  move-long auto None m = refl
  move-long auto (Some edge) m = woken-long (list_at t.places auto) m

  moves-long : (ms : List NetMove) (m : List Bool) → length (woken_moves t.places ms m) ≡ length m
  moves-long [] m = refl
  moves-long (x ∷ ms) m = moves-long ms (woken_move t.places x.auto x.edge m) ∙ move-long x.auto x.edge m

  module _ (n e : ℕ) (inside : e < n) where
    mutual
      updates-off : (us : NetUpdates) (m : List Bool) → length m ≡ n → is_on (woken_updates t.vars us m) e ≡ false → Off t n e m (targets us)
      updates-off no_net_updates m long h = (h, tt)
      updates-off (net_updates u us) m long h =
          let rest = updates-off us (woken_update t.vars u m) (update-long u m ∙ long) h in
          let one = update-off u m long rest.0 in
          (one.0, joined (Missed t n e) (targets_by u) (targets us) one.1 rest.1)

      update-off : (u : NetUpdate) (m : List Bool) → length m ≡ n → is_on (woken_update t.vars u m) e ≡ false → Off t n e m (targets_by u)
      update-off (net_set v x) m long h = let one = woken-off n e inside (list_at t.vars v) m long h in (one.0, ((one.1, one.2), tt))
      update-off (net_choose bs us) m long h =
          let rest = updates-off us (woken_branches t.vars bs m) (branches-long bs m ∙ long) h in
          let one = branches-off bs m long rest.0 in
          (one.0, joined (Missed t n e) (targets_in bs) (targets us) one.1 rest.1)

      branches-off : (bs : NetUpdateBranches) (m : List Bool) → length m ≡ n → is_on (woken_branches t.vars bs m) e ≡ false → Off t n e m (targets_in bs)
      branches-off no_net_update_branches m long h = (h, tt)
      branches-off (net_update_branches c us bs) m long h =
          let rest = branches-off bs (woken_updates t.vars us m) (updates-long us m ∙ long) h in
          let one = updates-off us m long rest.0 in
          (one.0, joined (Missed t n e) (targets us) (targets_in bs) one.1 rest.1)

    move-off : (auto : ℕ) (edge : Option ℕ) (m : List Bool) (names : List Read) → length m ≡ n → Off t n e (woken_move t.places auto edge m) names → Off t n e m (moved_name auto edge names)
    move-off auto None m names long h = h
    move-off auto (Some edge) m names long h = let one = woken-off n e inside (list_at t.places auto) m long h.0 in (one.0, ((one.1, one.2), h.1))

    moves-off : (ms : List NetMove) (m : List Bool) → length m ≡ n → is_on (woken_moves t.places ms m) e ≡ false → Off t n e m (moved_names ms)
    moves-off [] m long h = (h, tt)
    moves-off (x ∷ ms) m long h =
        move-off x.auto x.edge m (moved_names ms) long (moves-off ms (woken_move t.places x.auto x.edge m) (move-long x.auto x.edge m ∙ long) h)

    choice-off : (c : NetChoice) (m : List Bool) → length m ≡ n → is_on (woken_by t c m) e ≡ false → Off t n e m (touched c)
    choice-off c m long h =
        let rest = updates-off c.writes (woken_moves t.places c.moves m) (moves-long c.moves m ∙ long) h in
        let first = moves-off c.moves m long rest.0 in
        (first.0, joined (Missed t n e) (moved_names c.moves) (targets c.writes) first.1 rest.1)

-- ---- events stay idle

not-both : (b : Bool) → b ≡ true → b ≡ false → ⊥
not-both b h g = cc

module _ (g : Guarded) (s t : State) (readers : Readers) (reads : AreReaders g readers) (names : List Read) (of_s : IsState (system_of g) s) (of_t : IsState (system_of g) t)
    (same : (x : Read) → Untouched x names → SameAt s t x) where
  abbrev n : ℕ
  n = length g.plain.net.events

  read-same : (j : ℕ) (missed : AllByRecursion (λ y. is_read readers y j ≡ false) names) (x : Read) → IsReadAt readers j x → SameAt s t x
  read-same j missed x h = same x (all-change (λ y. is_read readers y j ≡ false) (λ y. y ≡ x → ⊥) names (λ y off is. not-both (is_read readers x j) h (ap (λ z. is_read readers z j) (sym is) ∙ off)) missed)

  pub remain : (old new : List Bool) → AreIdle g s old → length new ≡ length old → ((e : ℕ) → e < n → is_on new e ≡ false → Off readers n e old names) → AreIdle g t new
  remain old new idle long off = record {
    long = long ∙ idle.long;
    none = λ e inside mark.
        let was = off e inside mark in
        let mine : AllByRecursion (λ y. is_read readers y e ≡ false) names = all-change (Missed readers n e) (λ y. is_read readers y e ≡ false) names (λ y h. h.0) was.1 in
        let all : AllByRecursion (λ y. is_read readers y n ≡ false) names = all-change (Missed readers n e) (λ y. is_read readers y n ≡ false) names (λ y h. h.1) was.1 in
        stays-idle g s t e of_s of_t inside
        (λ k c at is.
        let by : AllByRecursion (IsReadAt readers e) (choice_reads (choice_tree c)) = subst (λ j. AllByRecursion (IsReadAt readers j) (choice_reads (choice_tree c))) is (reads.choices k c at) in
        all-change (IsReadAt readers e) (SameAt s t) (choice_names (choice_tree c)) (read-same e mine) (choice-named (IsReadAt readers e) (choice_tree c) by))
        (all-change (IsReadAt readers n) (SameAt s t) (invariant_names (net_tree g.plain.net)) (read-same n all) reads.invariants)
        (idle.none e inside was.0);
  }

-- ---- all marks are on

pub all-watched : (g : Guarded) (s : State) (readers : Readers) (count : ℕ) → IsState (system_of g) s → AreReaders g readers → count ≡ length g.plain.net.events → IsWatched g s readers (replicate count true)
all-watched g s readers count of_s reads counted = record {
  valid = of_s;
  reads = reads;
  idle = record { long = all-long count ∙ counted; none = λ e inside off. absurd (not-both (is_on (replicate count true) e) (all-on count e (omega (arith, inside, counted))) off) };
}

-- ---- an input that is set

input-same : (s : State) (k : ℕ) (z : ℤ) (x : Read) → Untouched x (an_input k ∷ []) → SameAt s (with_input s k z) x
input-same s k z (a_var j) h = refl
input-same s k z (an_input j) h = sym (get_or-set_other s.ins k j z (pos 0) (λ is. h.0 (ap an_input (sym is))))
input-same s k z (an_alg j) h = tt
input-same s k z (a_place j) h = refl
input-same s k z the_received h = tt

pub set-watched : (g : Guarded) (s t : State) (readers : Readers) (old new : List Bool) (k : ℕ) (z : ℤ) → IsWatched g s readers old → IsState (system_of g) t → t ≡ with_input s k z
    → new ≡ woken (list_at readers.inputs k) old → IsWatched g t readers new
set-watched g s t readers old new k z w of_t is marked = record {
  valid = of_t;
  reads = w.reads;
  idle =
      remain g s t readers w.reads (an_input k ∷ []) w.valid of_t (λ x h. subst (λ u. SameAt s u x) (sym is) (input-same s k z x h)) old new w.idle
      (ap length marked ∙ woken-long (list_at readers.inputs k) old)
      (λ e inside off.
      let one = woken-off (length g.plain.net.events) e inside (list_at readers.inputs k) old w.idle.long (ap (λ m. is_on m e) (sym marked) ∙ off) in
      (one.0, ((one.1, one.2), tt)));
}

-- ---- a choice that fires

pub fired-same : (g : Guarded) (s t : State) (e k : ℕ) → Fires g s e k t → (c : Choice) → slice_get g.choices k ≡ Some c → (x : Read) → Untouched x (touched (choice_tree c)) → SameAt s t x
unfolding after_at
fired-same g s t e k fires c at x h =
    let n = net_tree g.plain.net in
    let ch = choice_tree c in
    let v : Chosen (net_tree g.plain.net) (choice_tree c) s =
    chosen-of (net_tree g.plain.net) (map choice_tree g.choices) g.plain.plain (guarded-steps g) k (choice_tree c) (at_mapped choice_tree g.choices k ∙ ap (option_map choice_tree) at) s fires.valid in
    let r : ℤ = unwrap_or (option_map (value_at (within s (pos 0))) ch.sent) (pos 0) in
    let is : choice_at g k ≡ full_choice (net_tree g.plain.net) (choice_tree c) = get_or_from_slice_get (all_of g) k (full_choice (net_tree g.plain.net) (choice_tree c)) (0, []) (event-at g k c at) in
    let leads : t ≡ written n.autos ch.moves (assigned_all s r ch.writes) s =
    fires.after ∙ ap (λ (p : ℕ × step.Choice). after (system_of g) s p.1) is ∙ sym (after-written (net_tree g.plain.net) (choice_tree c) s v) in
    subst (λ u. SameAt s u x) (sym leads) (written-same n.autos ch s r x h)

watched-by : (g : Guarded) (s t : State) (e k : ℕ) (readers : Readers) (old new : List Bool) → IsWatched g s readers old → IsState (system_of g) t → Fires g s e k t → (c : Choice)
    → slice_get g.choices k ≡ Some c → new ≡ woken_by readers (choice_tree c) old → IsWatched g t readers new
watched-by g s t e k readers old new w of_t fires c at is = record {
  valid = of_t;
  reads = w.reads;
  idle =
      remain g s t readers w.reads (touched (choice_tree c)) w.valid of_t (fired-same g s t e k fires c at) old new w.idle
      (ap length is ∙ updates-long readers (choice_tree c).writes (woken_moves readers.places (choice_tree c).moves old) ∙ moves-long readers (choice_tree c).moves old)
      (λ i inside off. choice-off readers (length g.plain.net.events) i inside (choice_tree c) old w.idle.long (ap (λ m. is_on m i) (sym is) ∙ off));
}

pub fired-watched : (g : Guarded) (s t : State) (e k : ℕ) (readers : Readers) (old new : List Bool) → IsWatched g s readers old → IsState (system_of g) t → Fires g s e k t
    → ((c : Choice) → slice_get g.choices k ≡ Some c → Woke readers (choice_tree c) old new) → IsWatched g t readers new
fired-watched g s t e k readers old new w of_t fires marked =
    let c = get-some g.choices k fires.makes.listed in
    elim (marked c.0 c.1) [
      | inl is ↦ watched-by g s t e k readers old new w of_t fires c.0 c.1 is
      | inr is ↦ subst (IsWatched g t readers) (sym (is ∙ woken-past (length old) old (omega arith))) (all-watched g t readers (length old) of_t w.reads w.idle.long)
    ]

-- ---- events that were tried

no-step : (o : Option State) → is_some o ≡ false → o ≡ None
no-step None h = refl
no-step (Some s) h = absurd cc

pub has-none : (g : Guarded) (s : State) (e : ℕ) → has_step g s e ≡ false → first_step (system_of g) s e ≡ None
unfolding has_step
has-none g s e h = no-step (first_step (system_of g) s e) h

pub none-has : (g : Guarded) (s : State) (e : ℕ) → first_step (system_of g) s e ≡ None → has_step g s e ≡ false
unfolding has_step
none-has g s e h = ap is_some h

pub asleep : (g : Guarded) (s : State) (old new : List Bool) (e : ℕ) → AreIdle g s old → has_step g s e ≡ false → new ≡ slice_set old e false → AreIdle g s new
asleep g s old new e idle none is = record {
  long = ap length is ∙ length-set old e false ∙ idle.long;
  none = λ k inside off. go k inside off (eqb_tells k e);
}
  where
    go : (k : ℕ) → k < length g.plain.net.events → is_on new k ≡ false → ((nat_eq k e ≡ true) × (k ≡ e)) ⊎ ((nat_eq k e ≡ false) × (k ≢ e)) → first_step (system_of g) s k ≡ None
    go k inside off (inl h) = ap (first_step (system_of g) s) h.1 ∙ has-none g s e none
    go k inside off (inr h) = idle.none k inside (sym (get_or-set_other old e k false false h.1) ∙ ap (λ m. is_on m k) (sym is) ∙ off)
