-- The variables that updates assign: what the updates leave to others, and what they decide alone.
use Rattle.std.proofs.Common.{◌≡◌, ℕ, ℤ, Bool, true, false, not, ◌&&◌, ◌||◌, ◌+◌, List, [], ◌∷◌, ◌++◌, map, find, Option, Some, None, nat_eq, cond, refl, sym, ap, subst, ◌∙◌, eq-eqb, eqb-true, unwrap_or}
use Rattle.std.specs.Prelude.{slice_get, option_map, if◌then◌else◌}
use Rattle.std.proofs.lemmas.Bool.{eqb-false, ne_eqb}
use Rattle.std.proofs.lemmas.List.Folds.{list_any-append}
use Rattle.cif_system.specs.System.{State}
use Rattle.cif_system.specs.Step.{new_value}
use Rattle.cif_net_expr.specs.Tree.{NetExpr, NetUpdate, net_set, net_choose, NetUpdates, no_net_updates, net_updates, NetUpdateBranches, no_net_update_branches, net_update_branches}
use Rattle.cif_net_model.specs.Value.{is_true}
use Rattle.cif_net_model.specs.Net.{NetStored, Net}
use Rattle.cif_net_model.specs.Meaning.{type_range, value_in, net_assigned_all, net_assigned_by, net_assigned_in}
use Rattle.cif_net_model.specs.Exprs.{Written, writes_all, writes_by, writes_in, targets}
use Rattle.cif_net_model.specs.Facts.{assigns_kind, branches_stand, has, update_stands, updates_stand, var_kind}
use Rattle.cif_net_model.proofs.Passing.{and-left, and-right}
use Rattle.cif_base.specs.declared.types.Ty.{Ty}
use Rattle.plc_event_model.specs.Writes.{tests_stored, tests, any_tested, update_tested, branches_tested, conditions_temps, updates_temps, bodies_temps}
use Rattle.plc_expr.specs.Texts.{temps}
use Rattle.plc_event_model.specs.Acts.{once, assigned_vars, surely_set}
use Rattle.plc_event_model.specs.Asked.{setting_of, AllUpdates, OfUpdate, OfBranches, IsFit, CanTake, IsSafeSet, IsSafeCondition}
use Rattle.plc_event_model.proofs.Pairs.{new_value-append, all_fit, fit-append, fit-one}

-- ---- tests

pub or-left : (a b : Bool) → (a || b) ≡ false → a ≡ false
or-left false b h = refl
or-left true b h = h

pub or-right : (a b : Bool) → (a || b) ≡ false → b ≡ false
or-right false b h = h
or-right true b h = absurd cc

in-left : (a b : Bool) → a ≡ true → (a || b) ≡ true
in-left true b h = refl
in-left false b h = absurd cc

in-right : (a b : Bool) → b ≡ true → (a || b) ≡ true
in-right true b h = refl
in-right false b h = h

or-rest : (a b : Bool) → a ≡ false → (a || b) ≡ true → b ≡ true
or-rest true b e h = absurd cc
or-rest false b e h = h

-- ---- lists of variables

abbrev mutual
  -- the variables that are assigned, put together from the parts
  pub all_vars : NetUpdates → List ℕ
  all_vars no_net_updates = []
  all_vars (net_updates u us) = by_vars u ++ all_vars us

  pub by_vars : NetUpdate → List ℕ
  by_vars (net_set v e) = v ∷ []
  by_vars (net_choose bs us) = in_vars bs ++ all_vars us

  pub in_vars : NetUpdateBranches → List ℕ
  in_vars no_net_update_branches = []
  in_vars (net_update_branches c us bs) = all_vars us ++ in_vars bs

map-append : (xs ys : List Written) → map (λ (w : Written). w.var) (xs ++ ys) ≡ map (λ (w : Written). w.var) xs ++ map (λ (w : Written). w.var) ys
map-append [] ys = refl
map-append (x ∷ xs) ys = ap (λ r. x.var ∷ r) (map-append xs ys)

two : (xs ys : List Written) (a b : List ℕ) → map (λ (w : Written). w.var) xs ≡ a → map (λ (w : Written). w.var) ys ≡ b → map (λ (w : Written). w.var) (xs ++ ys) ≡ a ++ b
two xs ys a b p q = map-append xs ys ∙ ap (λ r. r ++ map (λ (w : Written). w.var) ys) p ∙ ap (λ r. a ++ r) q

mutual
  pub targets-are : (us : NetUpdates) → targets us ≡ all_vars us
  targets-are no_net_updates = refl
  targets-are (net_updates u us) = two (writes_by u) (writes_all us) (by_vars u) (all_vars us) (by-are u) (targets-are us)

  by-are : (u : NetUpdate) → map (λ (w : Written). w.var) (writes_by u) ≡ by_vars u
  by-are (net_set v e) = refl
  by-are (net_choose bs us) = two (writes_in bs) (writes_all us) (in_vars bs) (all_vars us) (in-are bs) (targets-are us)

  in-are : (bs : NetUpdateBranches) → map (λ (w : Written). w.var) (writes_in bs) ≡ in_vars bs
  in-are no_net_update_branches = refl
  in-are (net_update_branches c us bs) = two (writes_all us) (writes_in bs) (all_vars us) (in_vars bs) (targets-are us) (in-are bs)

pub has-append : (xs ys : List ℕ) (v : ℕ) → has (xs ++ ys) v ≡ (has xs v || has ys v)
has-append xs ys v = list_any-append (nat_eq v) xs ys

kept-once : (c h q : Bool) → (c ≡ true → h ≡ true) → (not h && q) ≡ (not h && (c || q))
kept-once true true q e = refl
kept-once true false q e = absurd (false-not-true (e refl))
  where
    false-not-true : false ≡ true → ⊥
    false-not-true h = cc
kept-once false h q e = refl

fresh-once : (c h q : Bool) → (c ≡ true → h ≡ false) → (c || (not (c || h) && q)) ≡ (not h && (c || q))
fresh-once true false q e = refl
fresh-once true true q e = absurd (true-not-false (e refl))
  where
    true-not-false : true ≡ false → ⊥
    true-not-false h = cc
fresh-once false h q e = refl

-- each variable stands once, and none is lost
once-has : (seen xs : List ℕ) (v : ℕ) → has (once seen xs) v ≡ (not (has seen v) && has xs v)
once-has seen [] v = go (has seen v)
  where
    go : (b : Bool) → false ≡ (not b && false)
    go true = refl
    go false = refl
once-has seen (x ∷ xs) v = go (has seen x) refl (once-has seen xs v) (once-has (x ∷ seen) xs v)
  where
    go : (b : Bool) → has seen x ≡ b → has (once seen xs) v ≡ (not (has seen v) && has xs v) → has (once (x ∷ seen) xs) v ≡ (not (has (x ∷ seen) v) && has xs v)
        → has (if b then once seen xs else x ∷ once (x ∷ seen) xs) v ≡ (not (has seen v) && has (x ∷ xs) v)
    go true is old new = old ∙ kept-once (nat_eq v x) (has seen v) (has xs v) (λ e. ap (has seen) (eqb-true v x e) ∙ is)
    go false is old new =
        ap (λ r. nat_eq v x || r) new ∙ fresh-once (nat_eq v x) (has seen v) (has xs v) (λ e. ap (has seen) (eqb-true v x e) ∙ is)

pub once-all : (xs : List ℕ) (v : ℕ) → has (once [] xs) v ≡ has xs v
once-all xs v = once-has [] xs v

pub assigned-has : (us : NetUpdates) (v : ℕ) → has (assigned_vars us) v ≡ has (targets us) v
assigned-has us v = once-has [] (targets us) v

-- ---- what is left to others

-- a variable that is no target is assigned nothing
module _ (n : Net) (s : State) (r : ℤ) (v : ℕ) where
  abbrev Leaves : List (ℕ × ℤ) → Type 0
  Leaves pairs = (z : ℤ) → new_value pairs v z ≡ z

  leaves-both : (xs ys : List (ℕ × ℤ)) → Leaves xs → Leaves ys → Leaves (xs ++ ys)
  leaves-both xs ys a b z = new_value-append xs ys v z ∙ ap (new_value xs v) (b z) ∙ a z

  leaves-if : (b : Bool) (xs ys : List (ℕ × ℤ)) → Leaves xs → Leaves ys → Leaves (if b then xs else ys)
  leaves-if true xs ys a c = a
  leaves-if false xs ys a c = c

  mutual
    leaves : (us : NetUpdates) → has (all_vars us) v ≡ false → Leaves (net_assigned_all n s r us)
    leaves no_net_updates h = λ z. refl
    leaves (net_updates u us) h =
        let q = sym (has-append (by_vars u) (all_vars us) v) ∙ h in
        leaves-both (net_assigned_by n s r u) (net_assigned_all n s r us) (leaves-by u (or-left _ _ q)) (leaves us (or-right _ _ q))

    leaves-by : (u : NetUpdate) → has (by_vars u) v ≡ false → Leaves (net_assigned_by n s r u)
    leaves-by (net_set k e) h = λ z. go (nat_eq k v) refl z
      where
        go : (b : Bool) → nat_eq k v ≡ b → (z : ℤ) → unwrap_or (option_map (λ (c : ℕ × ℤ). c.1) (cond b (Some (k, value_in n s r e)) None)) z ≡ z
        go true is z = absurd (eqb-false v k (or-left _ _ h) (sym (eqb-true k v is)))
        go false is z = refl
    leaves-by (net_choose bs us) h =
        let q = sym (has-append (in_vars bs) (all_vars us) v) ∙ h in
        leaves-in bs (net_assigned_all n s r us) (or-left _ _ q) (leaves us (or-right _ _ q))

    leaves-in : (bs : NetUpdateBranches) (other_pairs : List (ℕ × ℤ)) → has (in_vars bs) v ≡ false → Leaves other_pairs → Leaves (net_assigned_in n s r other_pairs bs)
    leaves-in no_net_update_branches other_pairs h a = a
    leaves-in (net_update_branches c us bs) other_pairs h a =
        let q = sym (has-append (all_vars us) (in_vars bs) v) ∙ h in
        leaves-if (is_true (value_in n s r c)) (net_assigned_all n s r us) (net_assigned_in n s r other_pairs bs) (leaves us (or-left _ _ q)) (leaves-in bs other_pairs (or-right _ _ q) a)

  pub others-stay : (us : NetUpdates) → has (targets us) v ≡ false → (z : ℤ) → new_value (net_assigned_all n s r us) v z ≡ z
  others-stay us h z = leaves us (subst (λ vs. has vs v ≡ false) (targets-are us) h) z

  -- ---- what is decided alone

  -- the new value of a variable that is assigned under no condition is told by the updates alone
  abbrev Decides : List (ℕ × ℤ) → Type 0
  Decides pairs = (z old : ℤ) → new_value pairs v z ≡ new_value pairs v old

  decides-both : (xs ys : List (ℕ × ℤ)) → Decides ys → Decides (xs ++ ys)
  decides-both xs ys a z old = new_value-append xs ys v z ∙ ap (new_value xs v) (a z old) ∙ sym (new_value-append xs ys v old)

  pub decides : (us : NetUpdates) → has (surely_set us) v ≡ true → Decides (net_assigned_all n s r us)
  decides no_net_updates h z old = absurd cc
  decides (net_updates (net_set k e) us) h z old = go (nat_eq k v) refl (λ q. decides us (or-rest (nat_eq v k) (has (surely_set us) v) q h) z old)
    where
      go : (b : Bool) → nat_eq k v ≡ b → (nat_eq v k ≡ false → new_value (net_assigned_all n s r us) v z ≡ new_value (net_assigned_all n s r us) v old)
          → unwrap_or (option_map (λ (c : ℕ × ℤ). c.1) (cond b (Some (k, value_in n s r e)) (find (λ (c : ℕ × ℤ). nat_eq c.0 v) (net_assigned_all n s r us)))) z
          ≡ unwrap_or (option_map (λ (c : ℕ × ℤ). c.1) (cond b (Some (k, value_in n s r e)) (find (λ (c : ℕ × ℤ). nat_eq c.0 v) (net_assigned_all n s r us)))) old
      go true is rest = refl
      go false is rest = rest (ne_eqb v k (λ q. eqb-false k v is (sym q)))
  decides (net_updates (net_choose bs other) us) h z old = decides-both (net_assigned_by n s r (net_choose bs other)) (net_assigned_all n s r us) (decides us h) z old

-- ---- what holds of each update

module _ (S T : ℕ → ℕ → NetExpr → Type 0) (C D : ℕ → NetExpr → Type 0) (V : ℕ → Type 0)
    (sets : (k v : ℕ) (e : NetExpr) → V v → S k v e → T k v e) (tells : (k : ℕ) (c : NetExpr) → C k c → D k c) where
  mutual
    each-update : (us : NetUpdates) (k : ℕ) → ((v : ℕ) → has (all_vars us) v ≡ true → V v) → AllUpdates S C k us → AllUpdates T D k us
    each-update no_net_updates k is all = tt
    each-update (net_updates u us) k is all = (
      each-by u (k + updates_temps us) (λ v h. is v (has-append (by_vars u) (all_vars us) v ∙ in-left _ _ h)) all.0,
      each-update us k (λ v h. is v (has-append (by_vars u) (all_vars us) v ∙ in-right _ _ h)) all.1,
    )

    each-by : (u : NetUpdate) (k : ℕ) → ((v : ℕ) → has (by_vars u) v ≡ true → V v) → OfUpdate S C k u → OfUpdate T D k u
    each-by (net_set v e) k is all = sets k v e (is v (in-left _ _ (eq-eqb v v refl))) all
    each-by (net_choose bs us) k is all = (
      each-in bs k (k + conditions_temps bs) (λ v h. is v (has-append (in_vars bs) (all_vars us) v ∙ in-left _ _ h)) all.0,
      each-update us (k + conditions_temps bs + bodies_temps bs) (λ v h. is v (has-append (in_vars bs) (all_vars us) v ∙ in-right _ _ h)) all.1,
    )

    each-in : (bs : NetUpdateBranches) (k j : ℕ) → ((v : ℕ) → has (in_vars bs) v ≡ true → V v) → OfBranches S C k j bs → OfBranches T D k j bs
    each-in no_net_update_branches k j is all = tt
    each-in (net_update_branches c us bs) k j is all = (
      tells k c all.0,
      each-update us j (λ v h. is v (has-append (all_vars us) (in_vars bs) v ∙ in-left _ _ h)) all.1,
      each-in bs (k + temps c) (j + updates_temps us) (λ v h. is v (has-append (all_vars us) (in_vars bs) v ∙ in-right _ _ h)) all.2,
    )

  -- what is known of the variables is known at each assignment
  pub all-updates : (us : NetUpdates) (k : ℕ) → ((v : ℕ) → has (targets us) v ≡ true → V v) → AllUpdates S C k us → AllUpdates T D k us
  all-updates us k is all = each-update us k (λ v h. is v (subst (λ vs. has vs v ≡ true) (sym (targets-are us)) h)) all

-- ---- without a test

module _ (n : Net) (s : State) (r : ℤ) where
  fit-both : (xs ys : List (ℕ × ℤ)) → all_fit n xs ≡ true → all_fit n ys ≡ true → all_fit n (xs ++ ys) ≡ true
  fit-both xs ys a b = sym (fit-append n true xs ys) ∙ ap (λ c. c && all_fit n xs) b ∙ a

  fit-if : (b : Bool) (xs ys : List (ℕ × ℤ)) → all_fit n xs ≡ true → all_fit n ys ≡ true → all_fit n (if b then xs else ys) ≡ true
  fit-if true xs ys a c = a
  fit-if false xs ys a c = c

  abbrev SafeSet : ℕ → ℕ → NetExpr → Type 0
  SafeSet k v e = IsSafeSet n (setting_of n s r) v e

  abbrev SafeCondition : ℕ → NetExpr → Type 0
  SafeCondition k c = IsSafeCondition (setting_of n s r) c

  mutual
    -- values that aren't tested are in range
    pub untested-fit : (us : NetUpdates) (k : ℕ) → any_tested n us ≡ false → AllUpdates SafeSet SafeCondition k us → all_fit n (net_assigned_all n s r us) ≡ true
    untested-fit no_net_updates k h all = refl
    untested-fit (net_updates u us) k h all =
        fit-both (net_assigned_by n s r u) (net_assigned_all n s r us) (fit-by u (k + updates_temps us) (or-left _ _ h) all.0) (untested-fit us k (or-right _ _ h) all.1)

    fit-by : (u : NetUpdate) (k : ℕ) → update_tested n u ≡ false → OfUpdate SafeSet SafeCondition k u → all_fit n (net_assigned_by n s r u) ≡ true
    fit-by (net_set v e) k h all = go (slice_get n.vars v) refl h all.1
      where
        go : (o : Option NetStored) → slice_get n.vars v ≡ o → tests_stored o ≡ false → CanTake o (value_in n s r e) → all_fit n ((v, value_in n s r e) ∷ []) ≡ true
        go None at q fit = absurd fit
        go (Some d) at q fit = fit-one n v d (value_in n s r e) at ∙ subst (λ b. IsFit b (type_range d.type_of) (value_in n s r e)) q fit
    fit-by (net_choose bs us) k h all =
        fit-in bs k (k + conditions_temps bs) (net_assigned_all n s r us) (or-left _ _ h) all.0
        (untested-fit us (k + conditions_temps bs + bodies_temps bs) (or-right _ _ h) all.1)

    fit-in : (bs : NetUpdateBranches) (k j : ℕ) (other_pairs : List (ℕ × ℤ)) → branches_tested n bs ≡ false → OfBranches SafeSet SafeCondition k j bs
        → all_fit n other_pairs ≡ true → all_fit n (net_assigned_in n s r other_pairs bs) ≡ true
    fit-in no_net_update_branches k j other_pairs h all a = a
    fit-in (net_update_branches c us bs) k j other_pairs h all a =
        fit-if (is_true (value_in n s r c)) (net_assigned_all n s r us) (net_assigned_in n s r other_pairs bs)
        (untested-fit us j (or-left _ _ h) all.1) (fit-in bs (k + temps c) (j + updates_temps us) other_pairs (or-right _ _ h) all.2 a)

-- a test of one of the variables is a test of the updates
module _ (n : Net) (v : ℕ) (is : tests n v ≡ true) where
  one-of : (xs ys : List ℕ) (a b : Bool) → (has xs v ≡ true → a ≡ true) → (has ys v ≡ true → b ≡ true) → has (xs ++ ys) v ≡ true → (a || b) ≡ true
  one-of xs ys a b f g h = go (has xs v) refl
    where
      go : (c : Bool) → has xs v ≡ c → (a || b) ≡ true
      go true e = in-left a b (f e)
      go false e = in-right a b (g (or-rest (has xs v) (has ys v) e (sym (has-append xs ys v) ∙ h)))

  mutual
    tested-all : (us : NetUpdates) → has (all_vars us) v ≡ true → any_tested n us ≡ true
    tested-all no_net_updates h = absurd cc
    tested-all (net_updates u us) h = one-of (by_vars u) (all_vars us) (update_tested n u) (any_tested n us) (tested-by u) (tested-all us) h

    tested-by : (u : NetUpdate) → has (by_vars u) v ≡ true → update_tested n u ≡ true
    tested-by (net_set k e) h = ap (tests n) (sym (eqb-true v k (only (nat_eq v k) h))) ∙ is
      where
        only : (b : Bool) → (b || false) ≡ true → b ≡ true
        only true h = refl
        only false h = h
    tested-by (net_choose bs us) h = one-of (in_vars bs) (all_vars us) (branches_tested n bs) (any_tested n us) (tested-in bs) (tested-all us) h

    tested-in : (bs : NetUpdateBranches) → has (in_vars bs) v ≡ true → branches_tested n bs ≡ true
    tested-in no_net_update_branches h = absurd cc
    tested-in (net_update_branches c us bs) h = one-of (all_vars us) (in_vars bs) (any_tested n us) (branches_tested n bs) (tested-all us) (tested-in bs) h

  pub tested-any : (us : NetUpdates) → has (targets us) v ≡ true → any_tested n us ≡ true
  tested-any us h = tested-all us (subst (λ vs. has vs v ≡ true) (targets-are us) h)

-- ---- variables that are there

module _ (n : Net) (r : Option Ty) (v : ℕ) where
  abbrev IsThere : Type 0
  IsThere = (q : NetStored) × (slice_get n.vars v ≡ Some q)

  either-there : (xs ys : List ℕ) → (has xs v ≡ true → IsThere) → (has ys v ≡ true → IsThere) → has (xs ++ ys) v ≡ true → IsThere
  either-there xs ys f g h = go (has xs v) refl
    where
      go : (c : Bool) → has xs v ≡ c → IsThere
      go true e = f e
      go false e = g (or-rest (has xs v) (has ys v) e (sym (has-append xs ys v) ∙ h))

  mutual
    there-all : (us : NetUpdates) → updates_stand n r us ≡ true → has (all_vars us) v ≡ true → IsThere
    there-all no_net_updates s h = absurd cc
    there-all (net_updates u us) s h = either-there (by_vars u) (all_vars us) (there-by u (and-left _ _ (and-left _ _ s))) (there-all us (and-right _ _ s)) h

    there-by : (u : NetUpdate) → update_stands n r u ≡ true → has (by_vars u) v ≡ true → IsThere
    there-by (net_set k e) s h = go (slice_get n.vars k) refl s
      where
        only : (b : Bool) → (b || false) ≡ true → b ≡ true
        only true h = refl
        only false h = h

        go : (o : Option NetStored) → slice_get n.vars k ≡ o → assigns_kind n r (var_kind o) e ≡ true → IsThere
        go None at t = absurd cc
        go (Some q) at t = (q, ap (slice_get n.vars) (eqb-true v k (only (nat_eq v k) h)) ∙ at)
    there-by (net_choose bs us) s h = either-there (in_vars bs) (all_vars us) (there-in bs (and-left _ _ s)) (there-all us (and-right _ _ s)) h

    there-in : (bs : NetUpdateBranches) → branches_stand n r bs ≡ true → has (in_vars bs) v ≡ true → IsThere
    there-in no_net_update_branches s h = absurd cc
    there-in (net_update_branches c us bs) s h = either-there (all_vars us) (in_vars bs) (there-all us (and-right _ _ (and-left _ _ s))) (there-in bs (and-right _ _ s)) h

  -- an assigned variable is one of the net's
  pub target-there : (us : NetUpdates) → updates_stand n r us ≡ true → has (targets us) v ≡ true → IsThere
  target-there us s h = there-all us s (subst (λ vs. has vs v ≡ true) (targets-are us) h)
