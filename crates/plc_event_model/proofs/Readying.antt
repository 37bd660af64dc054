-- The expressions of a choice are ready in each state, from what a table of choices keeps and where they are safe.
use Rattle.std.proofs.Common.{◌≡◌, ℕ, zero, suc, ◌+◌, ◌≤◌, ℤ, pos, negsuc, true, false, ◌&&◌, List, [], ◌∷◌, ◌++◌, map, length, flat_map, Option, Some, None, refl, sym, subst, arith}
use Rattle.std.specs.Prelude.{IsTrue, is_some, option_map, option_to_list, slice_get, slice_index_or}
use Rattle.std.specs.List.{AllByRecursion, list_all}
use Rattle.std.proofs.lemmas.Int.{ints}
use Rattle.std.proofs.lemmas.Bool.Decides.{nat_tests}
use Rattle.grammar.specs.Pieces.{Text}
use Rattle.cif_base.specs.declared.types.Ty.{Ty}
use Rattle.cif_base.specs.declared.types.Ty.TheVariants as cif_ty
use Rattle.cif_system.specs.System.{IsState, Range, State, in_range}
use Rattle.cif_system.proofs.Lists.{none-some, some-same}
use Rattle.cif_system.proofs.Picks.{at-member}
use Rattle.cif_net_expr.specs.Tree.{NetExpr, NetUpdate, net_set, net_choose, NetUpdates, no_net_updates, net_updates, NetUpdateBranches, no_net_update_branches, net_update_branches}
use Rattle.cif_net_model.specs.Net.{NetInvariant, NetStored, Net}
use Rattle.cif_net_model.specs.Exprs.{updates_exprs, update_exprs, branches_exprs}
use Rattle.cif_net_model.specs.Facts.{assigns_kind, branches_stand, channel_of, is_type, literals_fit, stored_stands, update_stands, updates_stand, var_kind}
use Rattle.cif_net_model.specs.Interval.{stored_range}
use Rattle.cif_net_model.specs.Kinds.{Kind, bool_kind, enum_kind, int_kind, fits, has_type, is_bool, is_int, kind_of, kinds_in}
use Rattle.cif_net_model.specs.Listing.{NetChoice, all_hold, exprs_of}
use Rattle.cif_net_model.specs.Meaning.{system_of_net, type_range, value_in}
use Rattle.cif_net_model.specs.Reads.{names_in, names_no_alg}
use Rattle.cif_net_model.specs.Rules.{is_plain_expr}
use Rattle.cif_net_model.specs.Shown.{channel_range}
use Rattle.cif_net_model.specs.Table.{carried_type, choice_exprs, choice_stands, sent_stands}
use Rattle.cif_net_model.proofs.Orders.{Lies, lies-from_test, test-from_lies}
use Rattle.cif_net_model.proofs.Passing.{all-member, and-left, and-right}
use Rattle.cif_net_model.proofs.PlainLaws.{fit-at, never}
use Rattle.cif_net_model.proofs.ValueLaws.{all-parts}
use Rattle.cif_net_model.proofs.KindLaws.{kind_range, lies-type, value-kind}
use Rattle.st_ast.specs.Tree.{Program}
use Rattle.st_ast.specs.declared.tree.StTy.{StTy}
use Rattle.st_ast.specs.declared.tree.StTy.TheVariants as ty
use Rattle.plc_model.specs.Face.{range_of}
use Rattle.plc_frame.specs.Small.{are_small, is_small}
use Rattle.plc_frame.proofs.Facts.{Standing}
use Rattle.plc_expr.specs.Texts.{Naming, temps}
use Rattle.plc_expr.specs.Sorts.{is_boolean, own_types}
use Rattle.cif_net_model.specs.Safe.{AreSafeTruths, HasBits, IsSafe, IsTruth, Setting, value_at}
use Rattle.plc_expr.specs.Held.{IsThere}
use Rattle.plc_event_model.specs.Writes.{NewNames, is_tested, conditions_temps, updates_temps, bodies_temps}
use Rattle.plc_event_model.specs.Sends.{carries, received_in, sent_temps}
use Rattle.plc_event_model.specs.Asked.{AllUpdates, OfUpdate, OfBranches, CanSend, CanTake, IsFit, setting_of}
use Rattle.plc_event_model.specs.Keeps.{after_naming, asked}
use Rattle.plc_event_model.specs.Own.{choice_temps, choice_types, conditions_types, sent_types, updates_types, update_types, bodies_types, net_naming}
use Rattle.plc_event_model.specs.Ready.{AllFrom, IsReady, IsReadySent, IsReadySet, IsReadyTest, IsReadyAfter, IsReadyChoice, IsSafeChoice, state_after}
use Rattle.plc_event_model.proofs.Asking.{IsPredicate, asked-are, conjunction-is}
use Rattle.plc_event_model.proofs.Keeping.{Passes, own-typed, some-kind, value-bits}
use Rattle.plc_event_model.proofs.Kept.{Declares, declares-parts, typed-beside}
use Rattle.plc_event_model.proofs.Parts.{choice-length, conditions-length, sent-length, updates-length, bodies-length}
use Rattle.plc_event_model.proofs.Reading.{reads-after, reads-named}

-- ---- numbers

range-bits : (t : Ty) (z : ℤ) → is_type t ≡ true → is_small t ≡ true → in_range (type_range t) z ≡ true → HasBits z
range-bits cif_ty.Bool z h s g = grind (arith, ints)
range-bits (cif_ty.Int lo hi) z h s g = grind (arith, ints)
range-bits (cif_ty.Enum size) z h s g = let most : size ≤ 4294967295 = grind (arith, nat_tests) in grind (arith, ints)

truth-lies : (z : ℤ) → in_range (type_range cif_ty.Bool) z ≡ true → IsTruth z
truth-lies (pos zero) h = refl
truth-lies (pos (suc zero)) h = refl
truth-lies (pos (suc (suc n))) h = absurd (grind (arith, ints))
truth-lies (negsuc n) h = absurd (grind (arith, ints))

stored-bits : (vs : List NetStored) (zs : List ℤ) (k : ℕ) → list_all stored_stands vs ≡ true → are_small vs ≡ true → ((o : Option NetStored) → slice_get vs k ≡ o → Lies (stored_range o) (slice_index_or zs k (pos 0)))
    → HasBits (slice_index_or zs k (pos 0))
stored-bits vs zs k stand small lies = go (slice_get vs k) refl
  where
    go : (o : Option NetStored) → slice_get vs k ≡ o → HasBits (slice_index_or zs k (pos 0))
    go None at = let l : Lies (stored_range None) (slice_index_or zs k (pos 0)) = lies None at in grind (arith, ints)
    go (Some d) at =
        let m = at-member vs k d at in
        range-bits d.type_of (slice_index_or zs k (pos 0)) (and-left _ _ (and-left _ _ (all-member stored_stands vs d stand m))) (all-member (λ (q : NetStored). is_small q.type_of) vs d small m)
        (test-from_lies (type_range d.type_of) (slice_index_or zs k (pos 0)) (lies (Some d) at))

literals-of : (vs : List NetStored) → list_all stored_stands vs ≡ true → (k : ℕ) (d : NetStored) → slice_get vs k ≡ Some d → literals_fit d.type_of d.literals ≡ true
literals-of vs h k d at = and-right _ _ (and-left _ _ (all-member stored_stands vs d h (at-member vs k d at)))

-- ---- in a state

module _ (n : Net) (net : Standing n) (small_vars : are_small n.vars ≡ true) (small_inputs : are_small n.inputs ≡ true) (p : Program) (received : Text) (base : ℕ)
    (own_length : (r : Option Ty) (e : NetExpr) → length (own_types n r e) ≡ temps e)
    (told : (r : Option Ty) (k : Kind) (e : NetExpr) → fits n r k e ≡ true → Passes (names_in e) → is_boolean n r e ≡ is_bool k)
    (named : (r : Option Ty) (k : Kind) (e : NetExpr) → fits n r k e ≡ true → Passes (names_in e) → AllByRecursion (IsThere n r) (names_in e)) where
  abbrev w : Naming
  w = net_naming n received

  abbrev Declared : ℕ → List StTy → Type 0
  Declared k ts = Declares p.vars w base k ts

  -- where z is received, over an event of the type t
  module _ (s : State) (is_state : IsState (system_of_net n) s) (t : Option Ty) (z : ℤ) (z_bits : HasBits z) (z_typed : (u : Ty) → t ≡ Some u → in_range (type_range u) z ≡ true) where
    abbrev x : Setting
    x = setting_of n s z

    pub bits : (e : NetExpr) → Passes (names_in e) → IsSafe x e → HasBits (value_at x e)
    bits e passes safe =
        value-bits x (λ k. stored-bits n.vars s.vals k net.vars small_vars (λ o at. subst (λ q. Lies (stored_range q) (slice_index_or s.vals k (pos 0))) at (fit-at n.vars s.vals k is_state.values)))
        (λ k. stored-bits n.inputs s.ins k net.inputs small_inputs (λ o at. subst (λ q. Lies (stored_range q) (slice_index_or s.ins k (pos 0))) at (fit-at n.inputs s.ins k is_state.inputs))) z_bits e passes safe

    -- what is no integer lies in the range of its kind
    kind-value : (k : Kind) → is_int k ≡ false → (e : NetExpr) → Passes (names_in e) → fits n t k e ≡ true → Lies (kind_range k) (value_at x e)
    kind-value k other e passes fit =
        value-kind n x.algs s t z (λ j. fit-at n.vars s.vals j is_state.values) (λ j. fit-at n.inputs s.ins j is_state.inputs) (λ u h. lies-from_test (type_range u) z (z_typed u h))
        (literals-of n.vars net.vars) (literals-of n.inputs net.inputs) k other e passes fit

    pub truths : (e : NetExpr) → Passes (names_in e) → fits n t bool_kind e ≡ true → IsTrue (in_range (range_of ty.Bool) (value_at x e))
    truths e passes fit = test-from_lies (type_range cif_ty.Bool) (value_at x e) (kind-value bool_kind refl e passes fit)

    abbrev Fine : NetExpr → Type 0
    Fine e = Passes (names_in e) × IsSafe x e

    pub ready-expr : (kind : Kind) (k : ℕ) (e : NetExpr) → Declared k (own_types n t e) → fits n t kind e ≡ true → Fine e → IsReady n p w base s t z k e
    ready-expr kind k e d fit fine = (
      fine.1,
      (λ m st got. reads-named n p received s z m st t got e (named t kind e fit fine.0)),
      (λ turns m typed reads q.
          typed-beside p.vars w base q.after k (temps e) (own_types n t e) m (own_length t e) typed q.beside d
          (own-typed n t p.vars w x q.after (own_length t) bits truths (told t) kind e k fit fine.0 fine.1 q.held)),
    )

    ready-test : (k : ℕ) (e : NetExpr) → Declared k (own_types n t e) → fits n t bool_kind e ≡ true → Fine e → IsReadyTest n p w base s t z k e
    ready-test k e d fit fine = (ready-expr bool_kind k e d fit fine, truth-lies (value_at x e) (truths e fine.0 fit))

    fit-typed : (u : Ty) (ls : List (List ℕ)) (e : NetExpr) → literals_fit u ls ≡ true → fits n t (kind_of u ls) e ≡ true → Fine e → IsFit (is_tested u) (type_range u) (value_at x e)
    fit-typed cif_ty.Bool ls e l fit fine = truths e fine.0 fit
    fit-typed (cif_ty.Int lo hi) ls e l fit fine = bits e fine.0 fine.1
    fit-typed (cif_ty.Enum size) ls e l fit fine =
        test-from_lies (type_range (cif_ty.Enum size)) (value_at x e) (lies-type (enum_kind ls) (cif_ty.Enum size) (value_at x e) refl l (kind-value (enum_kind ls) refl e fine.0 fit))

    ready-set : (k i : ℕ) (e : NetExpr) → Declared k (own_types n t e) → assigns_kind n t (var_kind (slice_get n.vars i)) e ≡ true → Fine e → IsReadySet n p w base s t z k i e
    ready-set k i e d h fine = go (slice_get n.vars i) refl h
      where
        go : (o : Option NetStored) → slice_get n.vars i ≡ o → assigns_kind n t (var_kind o) e ≡ true → IsReady n p w base s t z k e × CanTake o (value_at x e)
        go None at h = never h
        go (Some q) at h = (ready-expr (kind_of q.type_of q.literals) k e d h fine, fit-typed q.type_of q.literals e (literals-of n.vars net.vars i q at) h fine)

    -- ---- updates

    parts-of : (k : ℕ) (ts us : List StTy) (c : ℕ) → length ts ≡ c → Declared k (ts ++ us) → Declared k ts × Declared (k + c) us
    parts-of k ts us c e d = let r = declares-parts p.vars w base k ts us d in (r.0, subst (λ l. Declared (k + l) us) e r.1)

    mutual
      ready-updates : (us : NetUpdates) (k : ℕ) → Declared k (updates_types n t us) → updates_stand n t us ≡ true → AllByRecursion Fine (updates_exprs us)
          → AllUpdates (IsReadySet n p w base s t z) (IsReadyTest n p w base s t z) k us
      ready-updates no_net_updates k d h all = tt
      ready-updates (net_updates u us) k d h all =
          let a = all-parts Fine (update_exprs u) (updates_exprs us) all in
          let q = parts-of k (updates_types n t us) (update_types n t u) (updates_temps us) (updates-length n t (own_length t) us) d in (
            ready-update u (k + updates_temps us) q.1 (and-left _ _ (and-left _ _ h)) a.0,
            ready-updates us k q.0 (and-right _ _ h) a.1,
          )

      ready-update : (u : NetUpdate) (k : ℕ) → Declared k (update_types n t u) → update_stands n t u ≡ true → AllByRecursion Fine (update_exprs u)
          → OfUpdate (IsReadySet n p w base s t z) (IsReadyTest n p w base s t z) k u
      ready-update (net_set i e) k d h all = ready-set k i e d h all.0
      ready-update (net_choose bs us) k d h all =
          let a = all-parts Fine (branches_exprs bs) (updates_exprs us) all in
          let q = parts-of k (conditions_types n t bs) (bodies_types n t bs ++ updates_types n t us) (conditions_temps bs) (conditions-length n t (own_length t) bs) d in
          let r = parts-of (k + conditions_temps bs) (bodies_types n t bs) (updates_types n t us) (bodies_temps bs) (bodies-length n t (own_length t) bs) q.1 in (
            ready-branches bs k (k + conditions_temps bs) q.0 r.0 (and-left _ _ h) a.0,
            ready-updates us (k + conditions_temps bs + bodies_temps bs) r.1 (and-right _ _ h) a.1,
          )

      ready-branches : (bs : NetUpdateBranches) (k i : ℕ) → Declared k (conditions_types n t bs) → Declared i (bodies_types n t bs) → branches_stand n t bs ≡ true → AllByRecursion Fine (branches_exprs bs)
          → OfBranches (IsReadySet n p w base s t z) (IsReadyTest n p w base s t z) k i bs
      ready-branches no_net_update_branches k i d g h all = tt
      ready-branches (net_update_branches c us bs) k i d g h all =
          let a = all-parts Fine (updates_exprs us) (branches_exprs bs) all.1 in
          let q = parts-of k (own_types n t c) (conditions_types n t bs) (temps c) (own_length t c) d in
          let r = parts-of i (updates_types n t us) (bodies_types n t bs) (updates_temps us) (updates-length n t (own_length t) us) g in (
            ready-test k c q.0 (and-left _ _ (and-left _ _ h)) all.0,
            ready-updates us i r.0 (and-right _ _ (and-left _ _ h)) a.0,
            ready-branches bs (k + temps c) (i + updates_temps us) q.1 r.1 (and-right _ _ h) a.1,
          )

  -- ---- choices

  plain-passes : (r : Range) (es : List NetExpr) → list_all (is_plain_expr n) (map (λ e. record { value = e; received = r }) es) ≡ true → AllByRecursion (λ e. Passes (names_in e)) es
  plain-passes r [] h = tt
  plain-passes r (e ∷ es) h = (and-left _ _ (and-left _ _ (and-left _ _ h)), plain-passes r es (and-right _ _ h))

  both-all : (A B : NetExpr → Type 0) (es : List NetExpr) → AllByRecursion A es → AllByRecursion B es → AllByRecursion (λ e. A e × B e) es
  both-all A B [] a b = tt
  both-all A B (e ∷ es) a b = ((a.0, b.0), both-all A B es a.1 b.1)

  none-typed : (u : Ty) → None ≡ Some u → in_range (type_range u) (pos 0) ≡ true
  none-typed u h = absurd (none-some u h)

  module _ (s : State) (is_state : IsState (system_of_net n) s) where
    sent-bits : (e : NetExpr) → Passes (names_in e) → IsSafe (setting_of n s (pos 0)) e → HasBits (value_at (setting_of n s (pos 0)) e)
    sent-bits e passes safe = bits s is_state None (pos 0) refl none-typed e passes safe

    fit-sent : (t : Ty) (k : Kind) (e : NetExpr) → has_type t k ≡ true → fits n None k e ≡ true → Passes (names_in e) → IsSafe (setting_of n s (pos 0)) e → CanSend t (value_at (setting_of n s (pos 0)) e)
    fit-sent cif_ty.Bool bool_kind e has fit passes safe = let q = truths s is_state None (pos 0) refl none-typed e passes fit in (q, q)
    fit-sent cif_ty.Bool int_kind e has fit passes safe = never has
    fit-sent cif_ty.Bool (enum_kind ls) e has fit passes safe = never has
    fit-sent (cif_ty.Int lo hi) k e has fit passes safe = let q = sent-bits e passes safe in (q, q)
    fit-sent (cif_ty.Enum size) bool_kind e has fit passes safe = never has
    fit-sent (cif_ty.Enum size) int_kind e has fit passes safe = never has
    fit-sent (cif_ty.Enum size) (enum_kind ls) e has fit passes safe = (
      test-from_lies (type_range (cif_ty.Enum size)) (value_at (setting_of n s (pos 0)) e)
          (lies-type (enum_kind ls) (cif_ty.Enum size) (value_at (setting_of n s (pos 0)) e) refl has (kind-value s is_state None (pos 0) refl none-typed (enum_kind ls) refl e passes fit)),
      sent-bits e passes safe,
    )

    sent-ready : (k : ℕ) (t : Option Ty) (e : Option NetExpr) → Declared k (sent_types n e) → sent_stands n t e ≡ true → is_some e ≡ is_some t → AllByRecursion (λ d. Passes (names_in d)) (option_to_list e)
        → AllByRecursion (IsSafe (setting_of n s (pos 0))) (option_to_list e) → IsReadySent n p w base s k t e
    sent-ready k None None d stands same passes safe = tt
    sent-ready k None (Some e) d stands same passes safe = never (sym same)
    sent-ready k (Some t) None d stands same passes safe = never same
    sent-ready k (Some t) (Some e) d stands same passes safe =
        let q = some-kind (λ k. has_type t k && fits n None k e) (kinds_in n) stands in (
          ready-expr s is_state None (pos 0) refl none-typed q.0 k e d (and-right _ _ q.1) (passes.0, safe.0),
          fit-sent t q.0 e (and-left _ _ q.1) (and-right _ _ q.1) passes.0 safe.0,
        )

    -- what is received has 64 bits, and is of the type of the event
    received-bits : (e : Option NetExpr) → AllByRecursion (λ d. Passes (names_in d)) (option_to_list e) → AllByRecursion (IsSafe (setting_of n s (pos 0))) (option_to_list e)
        → HasBits (elim (option_map (value_in n s (pos 0)) e) [ None ↦ pos 0 | Some z ↦ z ])
    received-bits None passes safe = refl
    received-bits (Some e) passes safe = sent-bits e passes.0 safe.0

    received-typed : (e : Option NetExpr) (t : Option Ty) → is_some e ≡ is_some t → carries t (option_map (value_in n s (pos 0)) e) ≡ true
        → (u : Ty) → t ≡ Some u → in_range (type_range u) (elim (option_map (value_in n s (pos 0)) e) [ None ↦ pos 0 | Some z ↦ z ]) ≡ true
    received-typed e None same fit u is = absurd (none-some u is)
    received-typed None (Some t) same fit u is = never same
    received-typed (Some e) (Some t) same fit u is = subst (λ v. in_range (type_range v) (value_in n s (pos 0) e) ≡ true) (some-same t u is) fit

  -- ---- the invariants that are asked

  module _ (free : list_all (λ (i : NetInvariant). names_no_alg i.pred) n.invariants ≡ true) (y : NewNames) where
    -- own variables are named after a choice as before it
    declares-after : (c : NetChoice) (k : ℕ) (ts : List StTy) → Declared k ts → Declares p.vars (after_naming n w y c) base k ts
    declares-after c k [] d = tt
    declares-after c k (t ∷ ts) d = (d.0, declares-after c (k + 1) ts d.1)

    safe-truths : (t : State) → IsState (system_of_net n) t → (es : List NetExpr) → AllByRecursion (IsPredicate n) es → AllByRecursion (IsSafe (setting_of n t (pos 0))) es → AreSafeTruths (setting_of n t (pos 0)) (exprs_of es)
    safe-truths t is_t [] are safe = tt
    safe-truths t is_t (e ∷ es) are safe = (
      safe.0,
      truth-lies (value_at (setting_of n t (pos 0)) e) (truths t is_t None (pos 0) refl none-typed e are.0.1 are.0.0),
      safe-truths t is_t es are.1 safe.1,
    )

    kept-ready : (c : NetChoice) (k : ℕ) → Declared k (own_types n None (all_hold (asked n c))) → IsSafeChoice n c → (s : State) → IsState (system_of_net n) (state_after n c s)
        → IsReadyAfter n p w y base c s k (all_hold (asked n c))
    kept-ready c k d safe s is_t =
        let e : NetExpr = all_hold (asked n c) in
        let t : State = state_after n c s in
        let is = conjunction-is n (asked n c) (asked-are n net.invariants free c) in
        let fine : IsSafe (setting_of n t (pos 0)) e = safe-truths t is_t (asked n c) (asked-are n net.invariants free c) (safe t is_t).keeps in (
          fine,
          (λ m st holds. reads-after n p received y c s m st holds e (named None bool_kind e is.0 is.1)),
          (λ turns m typed reads q.
              typed-beside p.vars (after_naming n w y c) base q.after k (temps e) (own_types n None e) m (own_length None e) typed q.beside (declares-after c k (own_types n None e) d)
              (own-typed n None p.vars (after_naming n w y c) (setting_of n t (pos 0)) q.after (own_length None) (bits t is_t None (pos 0) refl none-typed) (truths t is_t None (pos 0) refl none-typed) (told None)
              bool_kind e k is.0 is.1 fine q.held)),
        )

    -- ---- the whole

    pub ready-choice : (c : NetChoice) (k : ℕ) → choice_stands n c ≡ true → Declared k (choice_types n c) → IsSafeChoice n c → IsReadyChoice n p w y base k c
    ready-choice c k stands d safe =
        let plain = plain-passes (channel_range (channel_of n c.event)) (choice_exprs c) (and-right _ _ (and-left _ _ stands)) in
        let others = all-parts (λ e. Passes (names_in e)) (option_to_list c.sent) (updates_exprs c.writes) plain.1 in
        let up : updates_stand n (carried_type n c) c.writes ≡ true = and-right _ _ (and-left _ _ (and-left _ _ stands)) in
        let sends : sent_stands n (carried_type n c) c.sent ≡ true = and-right _ _ (and-left _ _ (and-left _ _ (and-left _ _ stands))) in
        let us : List StTy = updates_types n (carried_type n c) c.writes in
        let ks : List StTy = own_types n None (all_hold (asked n c)) in
        let q = declares-parts p.vars w base k (own_types n None c.test) (sent_types n c.sent ++ (us ++ ks)) d in
        let o = declares-parts p.vars w base (k + temps c.test) (sent_types n c.sent) (us ++ ks)
        (subst (λ l. Declared (k + l) (sent_types n c.sent ++ (us ++ ks))) (own_length None c.test) q.1) in
        let u = declares-parts p.vars w base (k + temps c.test + sent_temps c.sent) us ks
        (subst (λ l. Declared (k + temps c.test + l) (us ++ ks)) (sent-length n own_length c.sent) o.1) in
        record {
          test = λ s is_state.
              ready-test s is_state None (pos 0) refl none-typed k c.test q.0 (and-left _ _ (and-left _ _ (and-left _ _ (and-left _ _ stands)))) (plain.0, (safe s is_state).test);
          sent = λ s is_state holds.
              let a = safe s is_state in sent-ready s is_state (k + temps c.test) (carried_type n c) c.sent o.0 sends (a.sends holds) others.0 (a.sent holds);
          updates = λ s is_state holds fit.
              let a = safe s is_state in
              ready-updates s is_state (carried_type n c) (received_in n s c) (received-bits s is_state c.sent others.0 (a.sent holds)) (received-typed s is_state c.sent (carried_type n c) (a.sends holds) fit)
              c.writes (k + temps c.test + sent_temps c.sent) u.0 up
              (both-all (λ e. Passes (names_in e)) (IsSafe (setting_of n s (received_in n s c))) (updates_exprs c.writes) others.1 (a.updates holds fit));
          keeps = λ s is_state is_t.
              kept-ready c (k + temps c.test + sent_temps c.sent + updates_temps c.writes)
              (subst (λ l. Declared (k + temps c.test + sent_temps c.sent + l) ks) (updates-length n (carried_type n c) (own_length (carried_type n c)) c.writes) u.1) safe s is_t;
        }

    pub all-ready : (cs : List NetChoice) (k : ℕ) → AllByRecursion (λ (c : NetChoice). choice_stands n c ≡ true) cs → AllByRecursion (IsSafeChoice n) cs → Declared k (flat_map (choice_types n) cs)
        → AllFrom n (IsReadyChoice n p w y base) k cs
    all-ready [] k stands safe d = tt
    all-ready (c ∷ cs) k stands safe d =
        let q = declares-parts p.vars w base k (choice_types n c) (flat_map (choice_types n) cs) d in (
          ready-choice c k stands.0 q.0 safe.0,
          all-ready cs (k + choice_temps n c) stands.1 safe.1 (subst (λ l. Declared (k + l) (flat_map (choice_types n) cs)) (choice-length n own_length c) q.1),
        )
