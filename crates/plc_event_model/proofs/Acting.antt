-- What a choice does whose test holds, and whose sent value is in the range of the channel: where all new values are
-- in range it leads to the state after its step, and where one is not it leaves the state as it is.
use Rattle.std.proofs.Common.{◌≡◌, ℕ, zero, suc, ◌+◌, ◌^◌, ◌<◌, ◌≤◌, ℤ, pos, Bool, true, false, not, ◌&&◌, List, [], ◌∷◌, ◌++◌, map, find, length, Option, Some, None, Ok, nat_eq, cond, refl, sym, ap, subst, ◌∙◌, arith, eqb-true, unwrap_or, if◌then◌else◌}
use Rattle.std.specs.Prelude.{slice_get, slice_index_or, slice_set, option_map, option_to_list}
use Rattle.std.specs.List.{AllZip, list_all, enumerate_from, range_with_len}
use Rattle.std.proofs.lemmas.List.{get_or-set_same}
use Rattle.std.proofs.lemmas.Map.Views.{any-filter_same}
use Rattle.grammar.specs.Pieces.{Text}
use Rattle.cif_base.specs.declared.types.Ty.{Ty}
use Rattle.cif_system.specs.System.{EndsInside, IsState, State, Stored, in_range, value_channel}
use Rattle.cif_system.specs.Step.{after, assigned, assigned_fits, fits_channel, makes_step, meets_invariants, new_value, new_values, sent_fits}
use Rattle.cif_system.proofs.Lists.{map-length}
use Rattle.cif_system.proofs.StateLaws.{step-state}
use Rattle.cif_net_expr.specs.Tree.{NetExpr}
use Rattle.cif_net_model.specs.Net.{NetChan, no_net_chan, void_net_chan, net_chan_of, NetAuto, NetEvent, NetInvariant, NetStored, Net}
use Rattle.cif_net_model.specs.Exprs.{targets}
use Rattle.cif_net_model.specs.Facts.{has, is_type, stored_stands}
use Rattle.cif_net_model.specs.Listing.{NetChoice, all_hold, edge_in}
use Rattle.cif_net_model.specs.Meaning.{channel_in, event_in, net_assigned_all, stored_in, system_of_net, true_in, type_range}
use Rattle.cif_net_model.specs.Reads.{names_no_alg}
use Rattle.cif_net_model.specs.Shown.{channel_type}
use Rattle.cif_net_model.specs.Table.{MovesParties, SendsAndAssigns, agrees_in, carried_type, permitted_in}
use Rattle.cif_net_model.proofs.Passing.{and-left, and-right}
use Rattle.st_ast.specs.Tree.{Expr, Program, Stms, append, assign, branches, choice, named, no_branches, no_other, no_stms, stms, stms_of, truth}
use Rattle.st_ast.specs.Names.{place_of}
use Rattle.st_ast.specs.Values.{Memory, is_true, of_bool, value_of, with_value}
use Rattle.st_ast.specs.Exec.{Outcome, Ended, Faulted, exec}
use Rattle.st_ast.proofs.Runs.{append_runs, assign_runs, cons_runs}
use Rattle.plc_model.specs.declared.letter.Letter.{Letter}
use Rattle.plc_model.specs.declared.letter.Letter.TheVariants as letter
use Rattle.plc_model.specs.Names.{name_for}
use Rattle.plc_model.specs.Face.{HoldsAt, IsDeclared, StateOf, places_of}
use Rattle.plc_model.specs.Frame.{Stands, fired, names_of, writable}
use Rattle.plc_model.proofs.NameLaws.{letters-differ}
use Rattle.plc_model.proofs.FaceLaws.{Kept, Typed, get_or-of, hold-kept, pairwise-length}
use Rattle.plc_frame.specs.Faces.{face_of_net, st_type, stored_face}
use Rattle.plc_frame.specs.Events.{moves_text, tested}
use Rattle.plc_frame.proofs.Choosing.{choice_in}
use Rattle.plc_frame.proofs.Making.{Closed, Does, Ready, range-length}
use Rattle.plc_frame.proofs.Moving.{Moved, all-moved, faces}
use Rattle.plc_frame.proofs.Writing.{AllAmong, among-left, names-among, writes-then}
use Rattle.plc_expr.specs.Texts.{Naming, before, temps, text}
use Rattle.cif_net_model.specs.Safe.{IsTruth, Setting, value_at}
use Rattle.plc_expr.specs.Held.{held_at}
use Rattle.plc_event_model.specs.Writes.{NewNames, any_tested, chosen, updates_temps, writes}
use Rattle.plc_event_model.specs.Acts.{act, assigned_vars, computed, copy, may_stay, stored, store, surely_set}
use Rattle.plc_event_model.specs.Asked.{setting_of, AllUpdates, CanTake, IsSafeSet, IsSafeCondition, Promises, Receives}
use Rattle.plc_event_model.specs.Sends.{carries, received_in, sends_fit, sent_in}
use Rattle.plc_event_model.specs.Declared.{OwnStand}
use Rattle.plc_event_model.specs.Keeps.{after_naming, asked, kept_temps, where_hold, where_kept}
use Rattle.plc_event_model.specs.Own.{variable_name}
use Rattle.plc_event_model.specs.Ready.{IsReadyAfter, state_after}
use Rattle.plc_event_model.proofs.Asking.{after-state, keeps-is, value-assigned}
use Rattle.plc_event_model.proofs.Pairs.{all_fit, fits_pair, fit-one}
use Rattle.plc_event_model.proofs.Writing.{Grounds, same-at, updates-wrote}
use Rattle.plc_event_model.proofs.Targets.{all-updates, assigned-has, decides, others-stay, untested-fit}
use Rattle.plc_event_model.proofs.Memories.{IsLater, IsReady, grounds, later-kept, later-state, writes-own, Assigned, Tested, fired-other}
use Rattle.plc_event_model.proofs.Testing.{Asks, all-value, asks-run}
use Rattle.plc_event_model.proofs.Taking.{Copied, copies-run, old, old-in, variable-at}
use Rattle.plc_event_model.proofs.Storing.{HaveNew, Stored as Storage, stores-run}

-- ---- new values

-- a new value is in range, be it assigned or the old one
fit-new : (n : Net) (pairs : List (ℕ × ℤ)) (v : ℕ) (d : NetStored) (z : ℤ) → slice_get n.vars v ≡ Some d → all_fit n pairs ≡ true → in_range (type_range d.type_of) z ≡ true
    → in_range (type_range d.type_of) (new_value pairs v z) ≡ true
fit-new n [] v d z at all fit = fit
fit-new n ((k, q) ∷ pairs) v d z at all fit = go (nat_eq k v) refl (fit-new n pairs v d z at (second (fits_pair n (k, q)) (all_fit n pairs) all) fit)
  where
    first : (a b : Bool) → (a && b) ≡ true → a ≡ true
    first true b h = refl
    first false b h = absurd cc

    second : (a b : Bool) → (a && b) ≡ true → b ≡ true
    second true b h = h
    second false b h = absurd cc

    go : (b : Bool) → nat_eq k v ≡ b → in_range (type_range d.type_of) (new_value pairs v z) ≡ true
        → in_range (type_range d.type_of) (unwrap_or (option_map (λ (c : ℕ × ℤ). c.1) (cond b (Some (k, q)) (find (λ (c : ℕ × ℤ). nat_eq c.0 v) pairs))) z) ≡ true
    go true is rest =
        sym (fit-one n k d q (ap (slice_get n.vars) (eqb-true k v is) ∙ at)) ∙ ap (λ b. b && true) (first (fits_pair n (k, q)) (all_fit n pairs) all)
    go false is rest = rest

-- the variables hold new values
hold-new : (p : Program) (m end : Memory) (pairs : List (ℕ × ℤ)) (i : ℕ) (ds : List NetStored) (zs : List ℤ) → AllZip (HoldsAt p m letter.V) (enumerate_from i (map stored_face ds)) zs
    → ((j : ℕ) (d : NetStored) (z : ℤ) → slice_get ds j ≡ Some d → slice_get zs j ≡ Some z → slice_get end (place_of p.vars (name_for letter.V (i + j) d.path)) ≡ Some (new_value pairs (i + j) z))
    → AllZip (HoldsAt p end letter.V) (enumerate_from i (map stored_face ds)) (new_values pairs i zs)
hold-new p m end pairs i [] [] hold new = tt
hold-new p m end pairs i [] (z ∷ zs) hold new = absurd hold
hold-new p m end pairs i (d ∷ ds) [] hold new = absurd hold
hold-new p m end pairs i (d ∷ ds) (z ∷ zs) hold new = (
  record {
    is_declared = hold.0.is_declared;
    holds = subst (λ j. slice_get end (place_of p.vars (name_for letter.V j d.path)) ≡ Some (new_value pairs j z)) (omega arith) (new 0 d z refl refl);
  },
  subst (λ j. AllZip (HoldsAt p end letter.V) (enumerate_from (i + 1) (map stored_face ds)) (new_values pairs j zs)) (omega arith)
      (hold-new p m end pairs (i + 1) ds zs hold.1
      (λ j e q at_d at_z. subst (λ k. slice_get end (place_of p.vars (name_for letter.V k e.path)) ≡ Some (new_value pairs k q)) (omega arith) (new (suc j) e q at_d at_z))),
)

-- ---- choices

-- What is known of a choice in the table.
pub record IsGuardedChoice (n : Net) (c : NetChoice) : Type 0 where
  pub parties : MovesParties n c
  pub tests : (s : State) → true_in n s c.test ≡ (agrees_in n s c && permitted_in n s c)
  pub values : (s : State) → SendsAndAssigns n s c
  pub carried : (t : Ty) → carried_type n c ≡ Some t → is_type t ≡ true
  pub all : c.invariants ≡ range_with_len 0 (length n.invariants)
  pub free : list_all (λ (i : NetInvariant). names_no_alg i.pred) n.invariants ≡ true

abbrev pub pairs_of : Net → NetChoice → State → List (ℕ × ℤ)
pairs_of n c s = net_assigned_all n s (received_in n s c) c.writes

-- the new values are in their ranges, and the state invariants hold after
abbrev pub allowed : Net → NetChoice → State → Bool
allowed n c s = all_fit n (pairs_of n c s) && meets_invariants (system_of_net n) (state_after n c s)

five : (a sf af q mi : Bool) → (a && sf && af && q && mi) ≡ ((a && q) && (sf && (af && mi)))
five true true true q mi = refl
five true true false true mi = refl
five true true false false mi = refl
five true false af true mi = refl
five true false af false mi = refl
five false sf af q mi = refl

four : (a b d e : Bool) → a ≡ true → b ≡ true → d ≡ true → e ≡ true → (a && b && d && e) ≡ true
four a b d e p q r t = ap (λ z. z && b && d && e) p ∙ ap (λ z. z && d && e) q ∙ ap (λ z. z && e) r ∙ t

-- a step needs the test
pub after-test : (t : State) (b f mk : Bool) → mk ≡ (b && f) → (if b then (if mk then Some t else None) else None) ≡ (if mk then Some t else None)
after-test t true f mk e = refl
after-test t false f mk e = rw e refl

-- and of two both
both-tests : (t : State) (b f mk : Bool) → mk ≡ (b && f) → (if b then (if f then Some t else None) else None) ≡ (if mk then Some t else None)
both-tests t true f mk e = ap (λ z. if z then Some t else None) (sym e)
both-tests t false f mk e = rw e refl

-- what is sent is in the range of the channel, by the system and by the net
sent-fits : (events : List NetEvent) (e : ℕ) (o : Option ℤ)
    → list_all (fits_channel (slice_get (map event_in events) e)) (option_to_list o) ≡ carries (channel_type (elim (slice_get events e) [ None ↦ no_net_chan | Some x ↦ x.chan ])) o
sent-fits [] e None = refl
sent-fits [] e (Some z) = refl
sent-fits (x ∷ events) (suc e) o = sent-fits events e o
sent-fits (x ∷ events) zero o = go x.chan o
  where
    go : (k : NetChan) (o : Option ℤ) → list_all (λ z. elim (channel_in k) [ value_channel r ↦ in_range r z | _ ↦ true ]) (option_to_list o) ≡ carries (channel_type k) o
    go no_net_chan None = refl
    go no_net_chan (Some z) = refl
    go void_net_chan None = refl
    go void_net_chan (Some z) = refl
    go (net_chan_of t) None = refl
    go (net_chan_of t) (Some z) = one (in_range (type_range t) z)
      where
        one : (b : Bool) → (b && true) ≡ b
        one true = refl
        one false = refl

module _ (n : Net) (c : NetChoice) (s : State) (h : IsGuardedChoice n c) where
  pub pairs-are : pairs_of n c s ≡ assigned (system_of_net n) s (choice_in n c)
  pairs-are = (h.values s).1

  sent-is : sent_fits (system_of_net n) s c.event (choice_in n c) ≡ sends_fit n s c
  sent-is = ap (list_all (fits_channel (slice_get (system_of_net n).events c.event))) (sym (h.values s).0) ∙ sent-fits n.events c.event (sent_in n s c)

  -- it makes a step where its test holds, what it sends is in the channel's range, its new values are in their ranges, and the
  -- invariants hold after
  pub makes-is : makes_step (system_of_net n) s c.event (choice_in n c) ≡ (true_in n s c.test && (sends_fit n s c && allowed n c s))
  makes-is =
      five (agrees_in n s c) (sent_fits (system_of_net n) s c.event (choice_in n c)) (assigned_fits (system_of_net n) s (choice_in n c)) (permitted_in n s c)
      (meets_invariants (system_of_net n) (state_after n c s))
      ∙ ap (λ b. b && (sent_fits (system_of_net n) s c.event (choice_in n c) && (assigned_fits (system_of_net n) s (choice_in n c) && meets_invariants (system_of_net n) (state_after n c s)))) (sym (h.tests s))
      ∙ ap (λ b. true_in n s c.test && (b && (assigned_fits (system_of_net n) s (choice_in n c) && meets_invariants (system_of_net n) (state_after n c s)))) sent-is
      ∙ ap (λ ws. true_in n s c.test && (sends_fit n s c && (all_fit n ws && meets_invariants (system_of_net n) (state_after n c s)))) (sym pairs-are)

  -- those that are asked tell whether the invariants hold after
  pub asked-is : IsState (system_of_net n) s → meets_invariants (system_of_net n) s ≡ true → meets_invariants (system_of_net n) (state_after n c s) ≡ list_all (true_in n (state_after n c s)) (asked n c)
  asked-is is_state before = keeps-is n c s is_state (received_in n s c) pairs-are h.all h.free before

  -- where the test holds and the values are in range, it leads to a state
  pub leads : EndsInside (system_of_net n) → IsState (system_of_net n) s → true_in n s c.test ≡ true → sends_fit n s c ≡ true → all_fit n (pairs_of n c s) ≡ true → IsState (system_of_net n) (state_after n c s)
  leads inside is_state test sent fit =
      after-state (system_of_net n) inside s c.event (choice_in n c) is_state
      (four (agrees_in n s c) (sent_fits (system_of_net n) s c.event (choice_in n c)) (assigned_fits (system_of_net n) s (choice_in n c)) (permitted_in n s c)
      (and-left _ _ (sym (h.tests s) ∙ test)) (sent-is ∙ sent) (ap (all_fit n) (sym pairs-are) ∙ fit) (and-right _ _ (sym (h.tests s) ∙ test)))

-- ---- the stores and the moves

module _ (n : Net) (p : Program) (own : List Text) (w : Naming) (y : NewNames) (base low count : ℕ) (c : NetChoice) (o : OwnStand n p own w y base low count (carried_type n c) c.writes)
    (named_so : (v : ℕ) → w.variable v ≡ variable_name n v) (stored_stand : list_all stored_stands n.vars ≡ true) (few : length n.vars < 2 ^ 32) (h : IsGuardedChoice n c) (ready : Ready n p)
    (s : State) (m0 : Memory) (st : Stands (face_of_net n) (system_of_net n) p m0 s) where
  abbrev pub IsAfter : Memory → Type 0
  IsAfter m = IsLater n p own w y base low count c.writes m0 m

  -- the new value of a variable
  abbrev pub new_of : ℕ → ℤ
  new_of v = new_value (pairs_of n c s) v (old n p s v)

  abbrev pub next_state : State
  next_state = after (system_of_net n) s (choice_in n c)

  pub new-in : all_fit n (pairs_of n c s) ≡ true → (v : ℕ) (d : NetStored) → slice_get n.vars v ≡ Some d → in_range (type_range d.type_of) (new_of v) ≡ true
  new-in fit v d at = fit-new n (pairs_of n c s) v d (old n p s v) at fit (old-in n p s m0 v d at st.state)

  choice-length : length (choice_in n c) ≡ length n.autos
  choice-length = map-length (edge_in c.moves) (range_with_len 0 (length n.autos)) ∙ range-length 0 (length n.autos)

  faces-length : (xs : List NetAuto) → length (faces xs) ≡ length xs
  faces-length [] = refl
  faces-length (a ∷ xs) = ap suc (faces-length xs)

  places-among : AllAmong letter.L (writable (face_of_net n) own) 0 (faces n.autos)
  places-among =
      names-among letter.L (faces n.autos) (writable (face_of_net n) own)
      (λ x a. among-left x (names_of letter.L (places_of (face_of_net n)) ++ names_of letter.V (face_of_net n).variables) (fired ∷ own)
      (among-left x (names_of letter.L (places_of (face_of_net n))) (names_of letter.V (face_of_net n).variables) a))

  -- What is known of the memory after the updates, where all new values are in range.
  module _ (fit : all_fit n (pairs_of n c s) ≡ true) (turns : ℕ) (a : Memory) (later : IsAfter a) (new : HaveNew n p own w y base low count c.writes (carried_type n c) o named_so few s m0 st.state new_of (new-in fit) a) (ss : Stms) where
    state-a : StateOf (face_of_net n) (system_of_net n) p a s
    state-a = later-state n p own w y base low count c.writes (carried_type n c) o m0 a s later st.state

    pub storage : Storage n p own w y base low count c.writes (carried_type n c) o named_so few s m0 st.state new_of (new-in fit) (assigned_vars c.writes) turns a
    storage =
        stores-run n p own w y base low count c.writes (carried_type n c) o named_so few s m0 st.state new_of (new-in fit) (assigned_vars c.writes)
        (λ v e. sym (assigned-has c.writes v) ∙ e) turns a later.typed new

    -- variables of other letters than those that are stored
    kept-b : (l : Letter) → (letter.V ≡ l → ⊥) → Kept p a storage.after l
    kept-b l other i path t is = storage.others (name_for l i path) (λ k way. letters-differ letter.V l k i way path other)

    pub moved : Moved n p s c.event ss (writable (face_of_net n) own) 0 n.autos (choice_in n c) turns storage.after
    moved =
        let long = faces-length n.autos in
        let small = ready.few in
        all-moved n p s c.event ss (writable (face_of_net n) own) ready.within (choice_in n c) turns storage.after choice-length (omega (arith, long, small)) places-among
        (hold-kept p a storage.after letter.L (kept-b letter.L (λ e. cc)) 0 (places_of (face_of_net n)) (map pos s.locs) state-a.places) storage.typed

    module _ (closed : Closed n p ready own ss turns moved.after) where
      kept-c : (l : Letter) → (letter.L ≡ l → ⊥) → (l ≡ letter.T → ⊥) → Kept p storage.after closed.after l
      kept-c l other_l other_t i path t is =
          closed.kept l other_t i path t is
          ∙ moved.others (name_for l i path) (λ k way above small. letters-differ letter.L l k i way path other_l)

      -- each variable holds its new value
      new-at : (v : ℕ) (d : NetStored) → slice_get n.vars v ≡ Some d → slice_get storage.after (place_of p.vars (variable_name n v)) ≡ Some (new_of v)
      new-at v d at = storage.taken v d at ∙ go (has (assigned_vars c.writes) v) refl
        where
          go : (b : Bool) → has (assigned_vars c.writes) v ≡ b → (if b then Some (new_of v) else slice_get a (place_of p.vars (variable_name n v))) ≡ Some (new_of v)
          go true is = refl
          go false is =
              (variable-at n p s a v d at state-a).holds
              ∙ ap Some (sym (others-stay n s (received_in n s c) v c.writes (sym (assigned-has c.writes v) ∙ is) (old n p s v)))

      new-held : (j : ℕ) (d : NetStored) (z : ℤ) → slice_get n.vars j ≡ Some d → slice_get s.vals j ≡ Some z
          → slice_get closed.after (place_of p.vars (name_for letter.V (0 + j) d.path)) ≡ Some (new_value (pairs_of n c s) (0 + j) z)
      new-held j d z at at_z =
          let zero-plus : 0 + j ≡ j = omega arith in
          let x = variable-at n p s m0 j d at st.state in
          subst (λ i. slice_get closed.after (place_of p.vars (name_for letter.V i d.path)) ≡ Some (new_value (pairs_of n c s) i z)) (sym zero-plus)
          (kept-c letter.V (λ e. cc) (λ e. cc) j d.path (st_type d.type_of) (subst (λ q. IsDeclared p.vars q (st_type d.type_of)) x.name x.is_declared)
          ∙ ap (λ q. slice_get storage.after (place_of p.vars q)) (sym x.name)
          ∙ new-at j d at
          ∙ ap (λ q. Some (new_value (pairs_of n c s) j q)) (get_or-of s.vals j z (pos 0) at_z))

      state-after : makes_step (system_of_net n) s c.event (choice_in n c) ≡ true → StateOf (face_of_net n) (system_of_net n) p closed.after next_state
      state-after makes = record {
        places = hold-kept p moved.after closed.after letter.L (closed.kept letter.L (λ e. cc)) 0 _ _ moved.hold;
        values = subst (λ ws. AllZip (HoldsAt p closed.after letter.V) (enumerate_from 0 (face_of_net n).variables) (new_values ws 0 s.vals)) (pairs-are n c s h)
            (hold-new p m0 closed.after (pairs_of n c s) 0 n.vars s.vals st.state.values new-held);
        inputs = hold-kept p m0 closed.after letter.H
            (λ i path t is. kept-c letter.H (λ e. cc) (λ e. cc) i path t is ∙ kept-b letter.H (λ e. cc) i path t is ∙ later-kept n p own w y base low count c.writes (carried_type n c) o m0 a later letter.H (λ e. cc) i path t is)
            0 _ _ st.state.inputs;
        is_state = step-state (system_of_net n) ready.inside s c.event next_state st.state.is_state record { choice = choice_in n c; makes = makes; is_after = refl };
      }

      -- the stores, the moves, and what follows them
      pub took : makes_step (system_of_net n) s c.event (choice_in n c) ≡ true → Does n p own (Some next_state) (exec p.vars (stored w y c.writes (moves_text n c.moves ss)) turns a) turns m0 s
      took makes = record {
        after = closed.after;
        ends = append_runs p.vars (stms_of (map (store w y) (assigned_vars c.writes))) (moves_text n c.moves ss) turns turns a storage.after storage.ends
            ∙ ap (λ ms. exec p.vars (moves_text n ms ss) turns storage.after) h.parties ∙ moved.ends ∙ closed.ends;
        writes = writes-then (writable (face_of_net n) own) p.vars m0 a closed.after (writes-own n p own w y base low count c.writes (carried_type n c) o m0 a later)
            (writes-then (writable (face_of_net n) own) p.vars a storage.after closed.after storage.writes
            (writes-then (writable (face_of_net n) own) p.vars storage.after moved.after closed.after moved.writes closed.writes));
        typed = closed.typed;
        follows = (state-after makes, closed.mark);
      }

      pub took-last : (makes : makes_step (system_of_net n) s c.event (choice_in n c) ≡ true) → (took makes).after ≡ closed.after
      unfolding took
      took-last makes = refl

  -- ---- the whole

  -- how a choice leaves the memory: after a step as Q says, and else only its own variables have changed
  abbrev pub Leaves : (Q : Memory → Type 0) → Option State → Memory → Type 0
  Leaves Q None end = IsAfter end
  Leaves Q (Some t) end = Q end

  pub record Acts (Q : Memory → Type 0) (d : Option State) (out : Outcome) (turns : ℕ) : Type 0 where
    pub does : Does n p own d out turns m0 s
    pub leaves : Leaves Q d does.after

  same-act : (Q : Memory → Type 0) (d : Option State) (out from : Outcome) (turns : ℕ) → out ≡ from → Acts Q d from turns → Acts Q d out turns
  same-act Q d out from turns same a = record {
    does = record { after = a.does.after; ends = same ∙ a.does.ends; writes = a.does.writes; typed = a.does.typed; follows = a.does.follows };
    leaves = a.leaves;
  }

  -- nothing that is seen has changed
  quiet : (Q : Memory → Type 0) (turns : ℕ) (a : Memory) → IsAfter a → Acts Q None (Ended turns a) turns
  quiet Q turns a later = record {
    does = record {
      after = a;
      ends = refl;
      writes = writes-own n p own w y base low count c.writes (carried_type n c) o m0 a later;
      typed = later.typed;
      follows = (
        later-state n p own w y base low count c.writes (carried_type n c) o m0 a s later st.state,
        same-at a m0 (place_of p.vars fired) (pos 0) (later.others (place_of p.vars fired) (fired-other n p own w y base low count c.writes (carried_type n c) o ready.mark)),
      );
    };
    leaves = later;
  }

  may-stay-has : (v : ℕ) → has (may_stay c.writes) v ≡ (not (has (surely_set c.writes) v) && has (assigned_vars c.writes) v)
  may-stay-has v =
      any-filter_same (nat_eq v) (λ u. not (has (surely_set c.writes) u)) (not (has (surely_set c.writes) v))
      (λ k e. ap (λ u. not (has (surely_set c.writes) u)) (sym (eqb-true v k e))) (assigned_vars c.writes)

  module _ (got : Receives p.vars w (carried_type n c) (received_in n s c) m0) (promised : (v : Naming) (x : Setting) → v.own ≡ w.own → Promises p.vars v x base low count) where
    abbrev now : Promises p.vars w (setting_of n s (received_in n s c)) base low count
    now = promised w (setting_of n s (received_in n s c)) refl

    -- the premises of an assignment and of a condition
    abbrev pub Ready_at : ℕ → NetExpr → Type 0
    Ready_at k e = IsReady n p own w y base low count c.writes (carried_type n c) o s (carried_type n c) (received_in n s c) m0 st.state got (λ t e. e) stored_stand now k e

    abbrev pub ReadySet : ℕ → ℕ → NetExpr → Type 0
    ReadySet k v e = Ready_at k e × CanTake (slice_get n.vars v) (value_at (setting_of n s (received_in n s c)) e)

    abbrev pub ReadyCondition : ℕ → NetExpr → Type 0
    ReadyCondition k e = Ready_at k e × IsTruth (value_at (setting_of n s (received_in n s c)) e)

    abbrev g : Grounds n s (received_in n s c) p.vars w y base low count IsAfter Ready_at (Assigned n p own w y base low count c.writes) (Tested n p own w y base low count c.writes)
    g = grounds n p own w y base low count c.writes (carried_type n c) o s (carried_type n c) (received_in n s c) m0 st.state got (λ t e. e) stored_stand now

    module _ (k turns : ℕ) (all : AllUpdates ReadySet ReadyCondition k c.writes) (room : (low ≤ k) × (k + updates_temps c.writes + kept_temps n c ≤ count)) where
      room_updates : (low ≤ k) × (k + updates_temps c.writes ≤ count)
      room_updates = let few = room.1 in (room.0, omega (arith, few))

      record Computed (m1 : Memory) : Type 0 where
        pub after : Memory
        pub ends : exec p.vars (computed n w y k c.writes) turns m1 ≡ Ended turns after
        pub later : IsAfter after
        pub new : (v : ℕ) → has (targets c.writes) v ≡ true → held_at p.vars after (y.next v) ≡ new_of v
        pub mark : any_tested n c.writes ≡ true → (b : Bool) → held_at p.vars m1 y.in_range ≡ of_bool b → held_at p.vars after y.in_range ≡ of_bool (b && all_fit n (pairs_of n c s))

      computed-run : (m1 : Memory) → IsAfter m1 → Computed m1
      computed-run m1 later =
          let copies = copies-run n p own w y base low count c.writes (carried_type n c) o named_so stored_stand s m0 st.state (received_in n s c) got now (may_stay c.writes) may-stay-in turns m1 later in
          let wrote = updates-wrote n s (received_in n s c) p.vars w y base low count IsAfter Ready_at (Assigned n p own w y base low count c.writes) (Tested n p own w y base low count c.writes) g c.writes k turns copies.after
          (all-updates ReadySet (λ i v e. (has (targets c.writes) v ≡ true) × Ready_at i e × CanTake (slice_get n.vars v) (value_at (setting_of n s (received_in n s c)) e)) ReadyCondition ReadyCondition
          (λ v. has (targets c.writes) v ≡ true) (λ i v e in_it q. (in_it, q.0, q.1)) (λ i e q. q) c.writes k (λ v e. e) all) room_updates copies.later in
          record {
            after = wrote.after;
            ends = append_runs p.vars (stms_of (map (copy w y) (may_stay c.writes))) (writes n w y k c.writes) turns turns m1 copies.after copies.ends ∙ wrote.ends;
            later = wrote.keeps;
            new = λ v i. wrote.news v i ∙ told v i copies (has (may_stay c.writes) v) refl;
            mark = λ t b e. wrote.mark t b (copies.mark t ∙ e);
          }
        where
          may-stay-in : (v : ℕ) → has (may_stay c.writes) v ≡ true → has (targets c.writes) v ≡ true
          may-stay-in v e = sym (assigned-has c.writes v) ∙ second (not (has (surely_set c.writes) v)) (has (assigned_vars c.writes) v) (sym (may-stay-has v) ∙ e)
            where
              second : (a b : Bool) → (a && b) ≡ true → b ≡ true
              second true b h = h
              second false b h = absurd cc

          told : (v : ℕ) → has (targets c.writes) v ≡ true → (q : Copied n p own w y base low count c.writes (carried_type n c) o named_so stored_stand s m0 st.state (may_stay c.writes) turns m1)
              → (b : Bool) → has (may_stay c.writes) v ≡ b → new_value (pairs_of n c s) v (held_at p.vars q.after (y.next v)) ≡ new_of v
          told v i q true e = ap (new_value (pairs_of n c s) v) (q.copied v i e)
          told v i q false e = decides n s (received_in n s c) v c.writes (sure (has (surely_set c.writes) v) (has (assigned_vars c.writes) v) (sym (may-stay-has v) ∙ e) (assigned-has c.writes v ∙ i)) _ _
            where
              sure : (a b : Bool) → (not a && b) ≡ false → b ≡ true → a ≡ true
              sure true b h e = refl
              sure false b h e = absurd cc

      module _ (Q : Memory → Type 0) (ss : Stms) (close : (b : Memory) → Typed p.vars b → (z : Closed n p ready own ss turns b) × Q z.after) where
        abbrev rest : Stms
        rest = stored w y c.writes (moves_text n c.moves ss)

        -- the values are in range, so it makes a step
        taking : (a : Memory) → IsAfter a → ((v : ℕ) → has (targets c.writes) v ≡ true → held_at p.vars a (y.next v) ≡ new_of v) → (fit : all_fit n (pairs_of n c s) ≡ true)
            → makes_step (system_of_net n) s c.event (choice_in n c) ≡ true → Acts Q (Some next_state) (exec p.vars rest turns a) turns
        taking a later new fit makes =
            let all_moved = moved fit turns a later new ss in
            let z = close all_moved.after all_moved.typed in
            record { does = took fit turns a later new ss z.0 makes; leaves = subst Q (sym (took-last fit turns a later new ss z.0 makes)) z.1 }

        -- an IF with a test that has a value
        if-tested : (a : Memory) (test : Expr) (body : Stms) (b : Bool) (d : Option State) → IsAfter a → value_of p.vars test a ≡ Ok (of_bool b) → (b ≡ true → Acts Q d (exec p.vars body turns a) turns)
            → Acts Q (if b then d else None) (exec p.vars (tested test body) turns a) turns
        if-tested a test body true d later e inside =
            same-act Q d (exec p.vars (tested test body) turns a) (exec p.vars body turns a) turns
            (cons_runs p.vars (choice (branches test body no_branches) no_other) no_stms turns turns a (inside refl).does.after
            (ap (λ r. with_value r Faulted (λ z. if is_true z then exec p.vars body turns a else Ended turns a)) e ∙ (inside refl).does.ends) ∙ sym (inside refl).does.ends)
            (inside refl)
        if-tested a test body false d later e inside =
            same-act Q None (exec p.vars (tested test body) turns a) (Ended turns a) turns
            (cons_runs p.vars (choice (branches test body no_branches) no_other) no_stms turns turns a a
            (ap (λ r. with_value r Faulted (λ z. if is_true z then exec p.vars body turns a else Ended turns a)) e))
            (quiet Q turns a later)

        abbrev from_kept : ℕ
        from_kept = k + updates_temps c.writes

        abbrev keeps : Bool
        keeps = list_all (true_in n (state_after n c s)) (asked n c)

        -- The new values are there and in range: the invariants that are asked hold after, and it makes a step, or one of them doesn't.
        keeping : (a : Memory) → IsAfter a → ((v : ℕ) → has (targets c.writes) v ≡ true → held_at p.vars a (y.next v) ≡ new_of v) → (fit : all_fit n (pairs_of n c s) ≡ true)
            → makes_step (system_of_net n) s c.event (choice_in n c) ≡ keeps → IsReadyAfter n p w y base c s from_kept (all_hold (asked n c))
            → Acts Q (if keeps then Some next_state else None) (exec p.vars (where_kept n w y from_kept c rest) turns a) turns
        keeping a later new fit makes ready_after = go (asked n c) refl ready_after room.1
          where
            is-new : (v : ℕ) → v < length n.vars → new_of v ≡ slice_index_or (state_after n c s).vals v (pos 0)
            is-new v below =
                let long = pairwise-length (λ (d : Stored) z. in_range d.range z ≡ true) (map stored_in n.vars) s.vals st.state.is_state.values in
                let same = map-length stored_in n.vars in
                ap (λ ws. new_value ws v (old n p s v)) (pairs-are n c s h)
                ∙ ap (λ i. new_value (assigned (system_of_net n) s (choice_in n c)) i (old n p s v)) (omega arith)
                ∙ sym (value-assigned (assigned (system_of_net n) s (choice_in n c)) 0 s.vals v (omega (arith, below, long, same)))

            asked-then : (es : List NetExpr) → asked n c ≡ es
                → Asks n p own w y base low count c o named_so s m0 st.state (promised (after_naming n w y c) (setting_of n (state_after n c s) (pos 0)) refl) new_of is-new
                (λ v h. sym (others-stay n s (received_in n s c) v c.writes h (old n p s v))) from_kept (all_hold es) turns a
                → Acts Q (if list_all (true_in n (state_after n c s)) es then Some next_state else None)
                (exec p.vars (append (before (after_naming n w y c) from_kept (all_hold es)) (tested (text (after_naming n w y c) from_kept (all_hold es)) rest)) turns a) turns
            asked-then es is q =
                same-act Q (if list_all (true_in n (state_after n c s)) es then Some next_state else None)
                (exec p.vars (append (before (after_naming n w y c) from_kept (all_hold es)) (tested (text (after_naming n w y c) from_kept (all_hold es)) rest)) turns a)
                (exec p.vars (tested (text (after_naming n w y c) from_kept (all_hold es)) rest) turns q.after) turns
                (append_runs p.vars (before (after_naming n w y c) from_kept (all_hold es)) (tested (text (after_naming n w y c) from_kept (all_hold es)) rest) turns turns a q.after q.ends)
                (if-tested q.after (text (after_naming n w y c) from_kept (all_hold es)) rest (list_all (true_in n (state_after n c s)) es) (Some next_state) q.later
                (q.value ∙ ap Ok (all-value n (state_after n c s) es)) (λ hold. taking q.after q.later q.new fit (makes ∙ ap (list_all (true_in n (state_after n c s))) is ∙ hold)))

            go : (es : List NetExpr) → asked n c ≡ es → IsReadyAfter n p w y base c s from_kept (all_hold es) → from_kept + temps (all_hold es) ≤ count
                → Acts Q (if list_all (true_in n (state_after n c s)) es then Some next_state else None) (exec p.vars (where_hold (after_naming n w y c) from_kept es rest) turns a) turns
            go [] is is_ready few = taking a later new fit (makes ∙ ap (list_all (true_in n (state_after n c s))) is)
            go (e ∷ es) is is_ready few =
                asked-then (e ∷ es) is
                (asks-run n p own w y base low count c o named_so s m0 st.state (promised (after_naming n w y c) (setting_of n (state_after n c s) (pos 0)) refl) new_of is-new
                (λ v h. sym (others-stay n s (received_in n s c) v c.writes h (old n p s v))) from_kept (all_hold (e ∷ es)) is_ready (omega (arith, room.0)) few turns a later new)

        abbrev body : Stms
        body = where_kept n w y from_kept c rest

        -- The choice makes its step where all new values are in range and the invariants hold after, and else nothing that is seen
        -- has changed.
        pub act-does : true_in n s c.test ≡ true → sends_fit n s c ≡ true → (IsState (system_of_net n) (state_after n c s) → IsReadyAfter n p w y base c s (k + updates_temps c.writes) (all_hold (asked n c)))
            → Acts Q (if makes_step (system_of_net n) s c.event (choice_in n c) then Some next_state else None)
            (exec p.vars (act n w y k c.writes (where_kept n w y (k + updates_temps c.writes) c (stored w y c.writes (moves_text n c.moves ss)))) turns m0) turns
        act-does test sent ready_after = go (any_tested n c.writes) refl
          where
            start : IsAfter m0
            start = record { typed = st.typed; others = λ j apart. refl }

            makes-both : makes_step (system_of_net n) s c.event (choice_in n c) ≡ (all_fit n (pairs_of n c s) && keeps)
            makes-both =
                makes-is n c s h ∙ ap (λ b. b && (sends_fit n s c && allowed n c s)) test ∙ ap (λ b. b && allowed n c s) sent
                ∙ ap (λ b. all_fit n (pairs_of n c s) && b) (asked-is n c s h st.state.is_state st.keeps)

            kept-then : (a : Memory) → IsAfter a → ((v : ℕ) → has (targets c.writes) v ≡ true → held_at p.vars a (y.next v) ≡ new_of v) → all_fit n (pairs_of n c s) ≡ true
                → Acts Q (if keeps then Some next_state else None) (exec p.vars body turns a) turns
            kept-then a later new fit =
                keeping a later new fit (makes-both ∙ ap (λ b. b && keeps) fit) (ready_after (leads n c s h ready.inside st.state.is_state test sent fit))

            go : (b : Bool) → any_tested n c.writes ≡ b
                → Acts Q (if makes_step (system_of_net n) s c.event (choice_in n c) then Some next_state else None)
                (exec p.vars (if b then stms (assign y.in_range (truth true)) (append (computed n w y k c.writes) (chosen (branches (named y.in_range) body no_branches) no_stms))
                else append (computed n w y k c.writes) body) turns m0) turns
            go true t =
                let m1 : Memory = slice_set m0 (place_of p.vars y.in_range) (pos 1) in
                let later : IsAfter m1 = g.mark_kept true m0 t start in
                let q = computed-run m1 later in
                same-act Q (if makes_step (system_of_net n) s c.event (choice_in n c) then Some next_state else None)
                (exec p.vars (stms (assign y.in_range (truth true)) (append (computed n w y k c.writes) (chosen (branches (named y.in_range) body no_branches) no_stms))) turns m0)
                (exec p.vars (tested (named y.in_range) body) turns q.after) turns
                (cons_runs p.vars (assign y.in_range (truth true)) (append (computed n w y k c.writes) (chosen (branches (named y.in_range) body no_branches) no_stms)) turns turns m0 m1
                (assign_runs p.vars y.in_range (truth true) (place_of p.vars y.in_range) (pos 1) turns m0 refl refl (g.mark_type true t))
                ∙ append_runs p.vars (computed n w y k c.writes) (chosen (branches (named y.in_range) body no_branches) no_stms) turns turns m1 q.after q.ends)
                (subst (λ d. Acts Q d (exec p.vars (tested (named y.in_range) body) turns q.after) turns)
                (both-tests next_state (all_fit n (pairs_of n c s)) keeps (makes_step (system_of_net n) s c.event (choice_in n c)) makes-both)
                (if-tested q.after (named y.in_range) body (all_fit n (pairs_of n c s)) (if keeps then Some next_state else None) q.later
                (ap Ok (q.mark t true (get_or-set_same m0 (place_of p.vars y.in_range) (pos 1) (pos 0) (g.mark_room m0 t start))))
                (λ fit. kept-then q.after q.later q.new fit)))
            go false t =
                let q = computed-run m0 start in
                let fit : all_fit n (pairs_of n c s) ≡ true = untested-fit n s (received_in n s c) c.writes k t
                (all-updates ReadySet (λ i v e. IsSafeSet n (setting_of n s (received_in n s c)) v e) ReadyCondition (λ i e. IsSafeCondition (setting_of n s (received_in n s c)) e)
                (λ v. has (targets c.writes) v ≡ true) (λ i v e in_it r. (r.0.0, r.1)) (λ i e r. (r.0.0, r.1)) c.writes k (λ v e. e) all) in
                same-act Q (if makes_step (system_of_net n) s c.event (choice_in n c) then Some next_state else None) (exec p.vars (append (computed n w y k c.writes) body) turns m0) (exec p.vars body turns q.after) turns
                (append_runs p.vars (computed n w y k c.writes) body turns turns m0 q.after q.ends)
                (subst (λ b. Acts Q (if b then Some next_state else None) (exec p.vars body turns q.after) turns) (sym (makes-both ∙ ap (λ b. b && keeps) fit)) (kept-then q.after q.later q.new fit))
