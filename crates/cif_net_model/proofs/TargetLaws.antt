-- In a plain net each value that the guard of an edge shows lies in the range of its target: an integer by its interval, a
-- boolean and a literal by its kind.
use Rattle.std.proofs.Common.{◌≡◌, ◌⊎◌, ℕ, ℤ, pos, Bool, true, false, ◌&&◌, ◌||◌, IsTrue, List, [], ◌∷◌, ◌++◌, map, flat_map, length, inl, inr, ⊎_elim, Option, Some, None, option_to_list, option_and_then, refl, sym, ◌∙◌, ap, subst, slice_get}
use Rattle.std.specs.List.{list_all, list_any}
use Rattle.cif_base.specs.declared.types.Ty.{Ty}
use Rattle.cif_base.specs.declared.types.Ty.TheVariants as ty
use Rattle.cif_system.specs.System.{State, IsState, Role, syncing, sending, receiving, in_range}
use Rattle.cif_system.specs.Words.{Member}
use Rattle.cif_system.proofs.Picks.{append-left, append-right, map-member, flat_map-member, at-member}
use Rattle.cif_net_expr.specs.Tree.{NetExpr, NetUpdate, net_set, net_choose, NetUpdates, no_net_updates, net_updates, NetUpdateBranches, no_net_update_branches, net_update_branches}
use Rattle.cif_net_model.specs.Net.{NetChan, no_net_chan, void_net_chan, net_chan_of, NetEdge, NetAuto, NetStored, Net}
use Rattle.cif_net_model.specs.Unfolding.{at_or}
use Rattle.cif_net_model.specs.Meaning.{type_range, alg_values, value_in, true_in, system_of_net}
use Rattle.cif_net_model.specs.Exprs.{Written, writes_all, writes_by, writes_in, updates_exprs, update_exprs, branches_exprs, edge_exprs, all_edges}
use Rattle.cif_net_model.specs.Kinds.{Kind, bool_kind, int_kind, enum_kind, is_int, has_type, kind_of, fits, fits_type, kinds_in}
use Rattle.cif_net_model.specs.Facts.{channel_of, received_type, role_stands, var_kind, assigns_kind, updates_stand, update_stands, branches_stand, literals_fit, stored_stands, auto_stands, edge_stands, is_net}
use Rattle.cif_net_model.specs.Shown.{Targeted, channel_type, var_type, sent_targeted, targeted_values, channel_range, is_int_type, targeted_shown, edge_of, shown_value, is_shown}
use Rattle.cif_net_model.specs.Rules.{evaluated, edge_evaluated, is_plain}
use Rattle.cif_net_model.proofs.Orders.{Lies, lies-from_test, test-from_lies}
use Rattle.cif_net_model.proofs.Passing.{and-left, and-right, all-member}
use Rattle.cif_net_model.proofs.PlainLaws.{fit-at, never, plain-expr}
use Rattle.cif_net_model.proofs.ShownLaws.{shown-lies}
use Rattle.cif_net_model.proofs.KindLaws.{value-kind, lies-type}

-- ---- members

either : {A : Type 0} (x : A) (xs ys : List A) → Member x (xs ++ ys) → Member x xs ⊎ Member x ys
either x [] ys m = inr m
either x (y ∷ xs) ys (inl e) = inl (inl e)
either x (y ∷ xs) ys (inr m) = ⊎_elim (λ (h : Member x xs). inl (inr h)) (λ (h : Member x ys). inr h) (either x xs ys m)

mapped : {A B : Type 0} (f : A → B) (y : B) (xs : List A) → Member y (map f xs) → (x : A) × Member x xs × (y ≡ f x)
mapped f y [] m = absurd m
mapped f y (x ∷ xs) (inl e) = (x, inl refl, e)
mapped f y (x ∷ xs) (inr m) = let r = mapped f y xs m in (r.0, inr r.1, r.2)

some-passes : {A : Type 0} (p : A → Bool) (xs : List A) → list_any p xs ≡ true → (x : A) × (p x ≡ true)
some-passes p [] h = never h
some-passes p (x ∷ xs) h =
    elim (p x) as (λ b. p x ≡ b → (b || list_any p xs) ≡ true → (y : _) × (p y ≡ true)) [
      | true ↦ λ e g. (x, e)
      | false ↦ λ e g. some-passes p xs g
    ] refl h

-- ---- updates

mutual
  written-exprs : (us : NetUpdates) (w : Written) → Member w (writes_all us) → Member w.value (updates_exprs us)
  written-exprs no_net_updates w m = absurd m
  written-exprs (net_updates u us) w m =
      ⊎_elim (λ (h : Member w (writes_by u)). append-left w.value (update_exprs u) (updates_exprs us) (written-by u w h))
      (λ (h : Member w (writes_all us)). append-right w.value (update_exprs u) (updates_exprs us) (written-exprs us w h)) (either w (writes_by u) (writes_all us) m)

  written-by : (u : NetUpdate) (w : Written) → Member w (writes_by u) → Member w.value (update_exprs u)
  written-by (net_set v e) w (inl h) = inl (ap (λ (x : Written). x.value) h)
  written-by (net_set v e) w (inr h) = absurd h
  written-by (net_choose bs us) w m =
      ⊎_elim (λ (h : Member w (writes_in bs)). append-left w.value (branches_exprs bs) (updates_exprs us) (written-in bs w h))
      (λ (h : Member w (writes_all us)). append-right w.value (branches_exprs bs) (updates_exprs us) (written-exprs us w h)) (either w (writes_in bs) (writes_all us) m)

  written-in : (bs : NetUpdateBranches) (w : Written) → Member w (writes_in bs) → Member w.value (branches_exprs bs)
  written-in no_net_update_branches w m = absurd m
  written-in (net_update_branches c us bs) w m =
      inr
      (⊎_elim (λ (h : Member w (writes_all us)). append-left w.value (updates_exprs us) (branches_exprs bs) (written-exprs us w h))
      (λ (h : Member w (writes_in bs)). append-right w.value (updates_exprs us) (branches_exprs bs) (written-in bs w h)) (either w (writes_all us) (writes_in bs) m))

-- what is assigned has the kind of its variable
module _ (n : Net) (r : Option Ty) where
  abbrev KindFits : Written → Type 0
  KindFits w = assigns_kind n r (var_kind (slice_get n.vars w.var)) w.value ≡ true

  mutual
    all-written : (us : NetUpdates) (w : Written) → updates_stand n r us ≡ true → Member w (writes_all us) → KindFits w
    all-written no_net_updates w s m = absurd m
    all-written (net_updates u us) w s m =
        ⊎_elim (λ (h : Member w (writes_by u)). by-written u w (and-left _ _ (and-left _ _ s)) h)
        (λ (h : Member w (writes_all us)). all-written us w (and-right _ _ s) h) (either w (writes_by u) (writes_all us) m)

    by-written : (u : NetUpdate) (w : Written) → update_stands n r u ≡ true → Member w (writes_by u) → KindFits w
    by-written (net_set v e) w s (inl h) = subst KindFits (sym h) s
    by-written (net_set v e) w s (inr h) = absurd h
    by-written (net_choose bs us) w s m =
        ⊎_elim (λ (h : Member w (writes_in bs)). in-written bs w (and-left _ _ s) h)
        (λ (h : Member w (writes_all us)). all-written us w (and-right _ _ s) h) (either w (writes_in bs) (writes_all us) m)

    in-written : (bs : NetUpdateBranches) (w : Written) → branches_stand n r bs ≡ true → Member w (writes_in bs) → KindFits w
    in-written no_net_update_branches w s m = absurd m
    in-written (net_update_branches c us bs) w s m =
        ⊎_elim (λ (h : Member w (writes_all us)). all-written us w (and-right _ _ (and-left _ _ s)) h)
        (λ (h : Member w (writes_in bs)). in-written bs w (and-right _ _ s) h) (either w (writes_all us) (writes_in bs) m)

-- ---- kinds and types

own-kind : (t : Ty) (ls : List (List ℕ)) → literals_fit t ls ≡ true → has_type t (kind_of t ls) ≡ true
own-kind ty.Bool ls h = refl
own-kind (ty.Int lo hi) ls h = refl
own-kind (ty.Enum size) ls h = h

kind-not-int : (t : Ty) (k : Kind) → is_int_type t ≡ false → has_type t k ≡ true → is_int k ≡ false
kind-not-int ty.Bool bool_kind h g = refl
kind-not-int ty.Bool int_kind h g = never g
kind-not-int ty.Bool (enum_kind ls) h g = refl
kind-not-int (ty.Int lo hi) k h g = never (sym h)
kind-not-int (ty.Enum size) bool_kind h g = refl
kind-not-int (ty.Enum size) int_kind h g = never g
kind-not-int (ty.Enum size) (enum_kind ls) h g = refl

-- the kind in which a value is asked, where it is no integer
abbrev Kinded : Net → Option Ty → Ty → NetExpr → Type 0
Kinded n r t e = (k : Kind) × (has_type t k ≡ true) × (fits n r k e ≡ true)

sent-kinded : (n : Net) (t : Ty) (e : NetExpr) → fits_type n t e ≡ true → Kinded n None t e
sent-kinded n t e h =
    let q = some-passes (λ k. has_type t k && fits n None k e) (kinds_in n) h in
    (q.0, and-left _ _ q.1, and-right _ _ q.1)

-- what is sent has the channel's type
role-kinded : (n : Net) (p : Role) (c : NetChan) (e : NetExpr) (t : Ty) → role_stands n p c (Some e) ≡ true → channel_type c ≡ Some t → Kinded n None t e
role-kinded n syncing c e t h g = never h
role-kinded n receiving no_net_chan e t h g = never h
role-kinded n receiving void_net_chan e t h g = never h
role-kinded n receiving (net_chan_of u) e t h g = never h
role-kinded n sending no_net_chan e t h g = never h
role-kinded n sending void_net_chan e t h g = never h
role-kinded n sending (net_chan_of u) e t h g = let same : u ≡ t = cc in sent-kinded n t e (subst (λ v. fits_type n v e ≡ true) same h)

written-kinded : (n : Net) (r : Option Ty) (o : Option NetStored) (e : NetExpr) (t : Ty) → ((w : NetStored) → o ≡ Some w → literals_fit w.type_of w.literals ≡ true) → assigns_kind n r (var_kind o) e ≡ true → var_type o ≡ Some t → Kinded n r t e
written-kinded n r None e t l h g = never h
written-kinded n r (Some w) e t l h g =
    let same : w.type_of ≡ t = cc in
    (kind_of w.type_of w.literals, subst (λ u. has_type u (kind_of w.type_of w.literals) ≡ true) same (own-kind w.type_of w.literals (l w refl)), h)

-- what an edge receives lies in the range of its type
received-type : (n : Net) (x : NetEdge) (z : ℤ) → IsTrue (in_range (channel_range (channel_of n x.event)) z) → (t : Ty) → received_type n x ≡ Some t → Lies (type_range t) z
received-type n x z h t g = by x.role (channel_of n x.event) h g
  where
    by : (p : Role) (c : NetChan) → IsTrue (in_range (channel_range c) z) → (elim p [ receiving ↦ elim c [ net_chan_of t ↦ Some t | _ ↦ None ] | _ ↦ None ]) ≡ Some t → Lies (type_range t) z
    by syncing c h g = never cc
    by sending c h g = never cc
    by receiving no_net_chan h g = never cc
    by receiving void_net_chan h g = never cc
    by receiving (net_chan_of u) h g = let same : u ≡ t = cc in lies-from_test (type_range t) z (subst (λ v. IsTrue (in_range (type_range v) z)) same h)

-- ---- the parts of a net

literal-at : (vs : List NetStored) → list_all stored_stands vs ≡ true → (k : ℕ) (w : NetStored) → slice_get vs k ≡ Some w → literals_fit w.type_of w.literals ≡ true
literal-at vs h k w g = and-right _ _ (and-left _ _ (all-member stored_stands vs w h (at-member vs k w g)))

edge-in : (k : ℕ) (x : NetEdge) (o : Option NetAuto) → option_and_then (λ (y : NetAuto). slice_get y.edges k) o ≡ Some x → (b : NetAuto) × (o ≡ Some b) × (slice_get b.edges k ≡ Some x)
edge-in k x None h = never cc
edge-in k x (Some b) h = (b, refl, h)

type-same : (o p : Option Ty) (e f : NetExpr) → ◌≡◌ {A = Targeted} (o, e) (p, f) → (o ≡ p) × (e ≡ f)
type-same o p e f h = (ap (λ (a : Targeted). a.0) h, ap (λ (a : Targeted). a.1) h)

module _ (n : Net) (s : State) (a k place : ℕ) (x : NetEdge) (t : Ty) (e : NetExpr) (z : ℤ)
    (plain : is_plain n ≡ true) (state : IsState (system_of_net n) s) (at : edge_of n a k ≡ Some x) (value : slice_get (targeted_values n x) place ≡ Some (Some t, e))
    (guard : IsTrue (true_in n s x.guard)) (received : IsTrue (in_range (channel_range (channel_of n x.event)) z)) (shown : is_shown n a k place ≡ true) where
  net : is_net n ≡ true
  net = and-left _ _ (and-left _ _ (and-left _ _ plain))

  autos : list_all (auto_stands n) n.autos ≡ true
  autos = and-right _ _ (and-left _ _ (and-left _ _ (and-left _ _ (and-left _ _ net))))

  vars : list_all stored_stands n.vars ≡ true
  vars = and-right _ _ (and-left _ _ (and-left _ _ (and-left _ _ (and-left _ _ (and-left _ _ net)))))

  inputs : list_all stored_stands n.inputs ≡ true
  inputs = and-right _ _ (and-left _ _ (and-left _ _ (and-left _ _ (and-left _ _ (and-left _ _ (and-left _ _ net))))))

  holder : (b : NetAuto) × (slice_get n.autos a ≡ Some b) × (slice_get b.edges k ≡ Some x)
  holder = edge-in k x (slice_get n.autos a) at

  stands : edge_stands n holder.0 x ≡ true
  stands = all-member (edge_stands n holder.0) holder.0.edges x (and-right _ _ (all-member (auto_stands n) n.autos holder.0 autos (at-member n.autos a holder.0 holder.1))) (at-member holder.0.edges k x holder.2)

  role : role_stands n x.role (channel_of n x.event) x.sent ≡ true
  role = and-right _ _ (and-left _ _ (and-left _ _ (and-left _ _ (and-left _ _ stands))))

  updates : updates_stand n (received_type n x) x.updates ≡ true
  updates = and-right _ _ (and-left _ _ (and-left _ _ (and-left _ _ stands)))

  -- the value is an expression of the edge, and it has a kind of its target's type
  abbrev Here : Type 0
  Here = Member e (edge_exprs x) × ((r : Option Ty) × Kinded n r t e × ((u : Ty) → r ≡ Some u → Lies (type_range u) z))

  from-sent : (o : Option NetExpr) → x.sent ≡ o → Member {A = Targeted} (Some t, e) (elim o [ None ↦ [] | Some f ↦ (channel_type (channel_of n x.event), f) ∷ [] ]) → Here
  from-sent None g m = absurd m
  from-sent (Some f) g (inl h) =
      let q = type-same (Some t) (channel_type (channel_of n x.event)) e f h in
      let c : x.sent ≡ Some e = g ∙ ap Some (sym q.1) in (
        inr (append-left e (option_to_list x.sent) (updates_exprs x.updates) (subst (λ v. Member e (option_to_list v)) (sym c) (inl refl))),
        (None, role-kinded n x.role (channel_of n x.event) e t (subst (λ v. role_stands n x.role (channel_of n x.event) v ≡ true) c role) (sym q.0), λ u p. never cc),
      )
  from-sent (Some f) g (inr h) = absurd h

  from-written : Member {A = Targeted} (Some t, e) (map (λ (w : Written). (var_type (slice_get n.vars w.var), w.value)) (writes_all x.updates)) → Here
  from-written m =
      let q = mapped (λ (w : Written). (var_type (slice_get n.vars w.var), w.value)) (Some t, e) (writes_all x.updates) m in
      let y = type-same (Some t) (var_type (slice_get n.vars q.0.var)) e q.0.value q.2 in
      let fit : assigns_kind n (received_type n x) (var_kind (slice_get n.vars q.0.var)) e ≡ true = subst (λ v. assigns_kind n (received_type n x) (var_kind (slice_get n.vars q.0.var)) v ≡ true) (sym y.1) (all-written n (received_type n x) x.updates q.0 updates q.1) in (
        inr (append-right e (option_to_list x.sent) (updates_exprs x.updates) (subst (λ v. Member v (updates_exprs x.updates)) (sym y.1) (written-exprs x.updates q.0 q.1))),
        (received_type n x, written-kinded n (received_type n x) (slice_get n.vars q.0.var) e t (literal-at n.vars vars q.0.var) fit (sym y.0), received-type n x z received),
      )

  here : Here
  here =
      ⊎_elim (λ (h : Member {A = Targeted} (Some t, e) (sent_targeted n x)). from-sent x.sent refl h)
      (λ (h : Member {A = Targeted} (Some t, e) (map (λ (w : Written). (var_type (slice_get n.vars w.var), w.value)) (writes_all x.updates))). from-written h)
      (either (Some t, e) (sent_targeted n x) (map (λ (w : Written). (var_type (slice_get n.vars w.var), w.value)) (writes_all x.updates)) (at-member (targeted_values n x) place (Some t, e) value))

  member : Member (record { value = e; received = channel_range (channel_of n x.event) }) (evaluated n)
  member =
      append-left _ (flat_map (edge_evaluated n) (all_edges n)) _
      (flat_map-member (edge_evaluated n) x (all_edges n) _
      (flat_map-member (λ (b : NetAuto). b.edges) holder.0 n.autos x (at-member n.autos a holder.0 holder.1) (at-member holder.0.edges k x holder.2))
      (map-member (λ (f : NetExpr). record { value = f; received = channel_range (channel_of n x.event) }) e (edge_exprs x) here.0))

  -- the test of this value itself
  test : targeted_shown n x (Some t, e) ≡ true
  test =
      let p : (elim (edge_of n a k) [ None ↦ false | Some y ↦ shown_value n y (slice_get (targeted_values n y) place) ]) ≡ true = shown in
      let q : shown_value n x (slice_get (targeted_values n x) place) ≡ true = subst (λ o. (elim o [ None ↦ false | Some y ↦ shown_value n y (slice_get (targeted_values n y) place) ]) ≡ true) at p in
      subst (λ o. shown_value n x o ≡ true) value q

  pub target-lies : IsTrue (in_range (type_range t) (value_in n s z e))
  target-lies =
      elim (is_int_type t) as (λ b. is_int_type t ≡ b → IsTrue (in_range (type_range t) (value_in n s z e))) [
        | true ↦ λ i. shown-lies n s x z plain state guard received t e member i test
        | false ↦ λ i.
            let y = here.1 in
            let kind = y.1 in
            let one = plain-expr n (record { value = e; received = channel_range (channel_of n x.event) }) plain member in
            let no : is_int kind.0 ≡ false = kind-not-int t kind.0 i kind.1 in
            test-from_lies (type_range t) (value_in n s z e)
            (lies-type kind.0 t (value_in n s z e) no kind.1
            (value-kind n (at_or (pos 0) (alg_values n s z (length n.algs))) s y.0 z (λ j. fit-at n.vars s.vals j state.values) (λ j. fit-at n.inputs s.ins j state.inputs) y.2
            (literal-at n.vars vars) (literal-at n.inputs inputs) kind.0 no e (and-left _ _ (and-left _ _ one)) kind.2))
      ] refl
