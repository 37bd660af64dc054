-- What the expressions of the choices of a plain net name is in the net.
use Rattle.std.proofs.Common.{◌≡◌, ℕ, zero, suc, true, ◌&&◌, inl, inr, List, [], ◌∷◌, ◌++◌, map, flat_map, Option, Some, None, refl, sym}
use Rattle.std.specs.Prelude.{option_map, option_to_list, slice_get}
use Rattle.std.specs.List.{AllByRecursion, cons_option, list_all}
use Rattle.cif_base.specs.declared.types.Ty.{Ty}
use Rattle.cif_system.specs.System.{Range}
use Rattle.cif_system.specs.Words.{Member}
use Rattle.cif_system.proofs.Lists.{slice_get-below}
use Rattle.cif_system.proofs.Picks.{append-left, append-right, map-member}
use Rattle.cif_net_expr.specs.Tree.{NetExpr, NetUpdate, net_set, net_choose, NetUpdates, no_net_updates, net_updates, NetUpdateBranches, no_net_update_branches, net_update_branches}
use Rattle.cif_net_model.specs.Net.{NetStored, NetExclusion, NetInvariant, Net}
use Rattle.cif_net_model.specs.Exprs.{alg_exprs, all_edges, branches_exprs, other_exprs, update_exprs, updates_exprs}
use Rattle.cif_net_model.specs.Facts.{assigns_kind, branches_stand, channel_of, invariant_stands, update_stands, updates_stand, var_kind}
use Rattle.cif_net_model.specs.Interval.{truths}
use Rattle.cif_net_model.specs.Kinds.{Kind, bool_kind, fits, has_type, kind_of, kinds_in}
use Rattle.cif_net_model.specs.Listing.{NetChoice}
use Rattle.cif_net_model.specs.Reads.{names_no_alg}
use Rattle.cif_net_model.specs.Rules.{Evaluated, edge_evaluated, evaluated, is_plain, is_plain_expr}
use Rattle.cif_net_model.specs.Shown.{channel_range}
use Rattle.cif_net_model.specs.Table.{carried_type, choice_exprs, choice_stands, sent_stands}
use Rattle.cif_net_model.proofs.Passing.{all-member, and-left, and-right}
use Rattle.cif_net_model.proofs.PlainLaws.{never, plain-expr}
use Rattle.plc_expr.proofs.There.{there}
use Rattle.plc_frame.proofs.Choosing.{all-filter}
use Rattle.plc_event_model.specs.Keeps.{depends, invariants_at}
use Rattle.plc_event_model.proofs.Keeping.{some-kind}
use Rattle.plc_event_model.proofs.Targets.{target-there}
use Rattle.plc_expr_walk.proofs.Alike.{both}
use Rattle.plc_gen.specs.Named.{IsNamedChoice, IsNamedExpr}

module _ (n : Net) where
  abbrev NoAlg : NetExpr → Type 0
  NoAlg e = names_no_alg e ≡ true

  abbrev NoAlgs : List NetExpr → Type 0
  NoAlgs es = AllByRecursion NoAlg es

  -- where something of this type is received
  module _ (r : Option Ty) where
    expr-named : (k : Kind) (e : NetExpr) → fits n r k e ≡ true → NoAlg e → IsNamedExpr n r e
    expr-named k e fit none = there n r k e fit none

    abbrev Named : List NetExpr → Type 0
    Named es = AllByRecursion (IsNamedExpr n r) es

    join : (xs ys : List NetExpr) → Named xs → Named ys → Named (xs ++ ys)
    join [] ys h k = k
    join (x ∷ xs) ys h k = (h.0, join xs ys h.1 k)

    set-named : (o : Option NetStored) (e : NetExpr) → assigns_kind n r (var_kind o) e ≡ true → NoAlg e → IsNamedExpr n r e
    set-named None e h none = never h
    set-named (Some q) e h none = expr-named (kind_of q.type_of q.literals) e h none

    mutual
      updates-named : (us : NetUpdates) → updates_stand n r us ≡ true → NoAlgs (updates_exprs us) → Named (updates_exprs us)
      updates-named no_net_updates h a = tt
      updates-named (net_updates u us) h a =
          let p = both NoAlg (update_exprs u) (updates_exprs us) a in
          join (update_exprs u) (updates_exprs us) (update-named u (and-left _ _ (and-left _ _ h)) p.0) (updates-named us (and-right _ _ h) p.1)

      update-named : (u : NetUpdate) → update_stands n r u ≡ true → NoAlgs (update_exprs u) → Named (update_exprs u)
      update-named (net_set v e) h a = (set-named (slice_get n.vars v) e h a.0, tt)
      update-named (net_choose bs us) h a =
          let p = both NoAlg (branches_exprs bs) (updates_exprs us) a in
          join (branches_exprs bs) (updates_exprs us) (branches-named bs (and-left _ _ h) p.0) (updates-named us (and-right _ _ h) p.1)

      branches-named : (bs : NetUpdateBranches) → branches_stand n r bs ≡ true → NoAlgs (branches_exprs bs) → Named (branches_exprs bs)
      branches-named no_net_update_branches h a = tt
      branches-named (net_update_branches c us bs) h a =
          let p = both NoAlg (updates_exprs us) (branches_exprs bs) a.1 in (
            expr-named bool_kind c (and-left _ _ (and-left _ _ h)) a.0,
            join (updates_exprs us) (branches_exprs bs) (updates-named us (and-right _ _ (and-left _ _ h)) p.0) (branches-named bs (and-right _ _ h) p.1),
          )

  sent-named : (t : Option Ty) (e : Option NetExpr) → sent_stands n t e ≡ true → NoAlgs (option_to_list e) → AllByRecursion (IsNamedExpr n None) (option_to_list e)
  sent-named t None h a = tt
  sent-named None (Some e) h a = never h
  sent-named (Some t) (Some e) h a = let q = some-kind (λ k. has_type t k && fits n None k e) (kinds_in n) h in (expr-named None q.0 e (and-right _ _ q.1) a.0, tt)

  plain-none : (r : Range) (es : List NetExpr) → list_all (is_plain_expr n) (map (λ e. record { value = e; received = r }) es) ≡ true → NoAlgs es
  plain-none r [] h = tt
  plain-none r (e ∷ es) h = (and-left _ _ (and-left _ _ (and-left _ _ h)), plain-none r es (and-right _ _ h))

  -- the state invariants
  module _ (plain : is_plain n ≡ true) where
    abbrev at_truths : NetExpr → Evaluated
    at_truths e = record { value = e; received = truths }

    invariants-stand : list_all (invariant_stands n) n.invariants ≡ true
    invariants-stand = and-right _ _ (and-left _ _ (and-left _ _ (and-left _ _ (and-left _ _ plain))))

    invariant-named : (i : NetInvariant) → Member i n.invariants → IsNamedExpr n None i.pred
    invariant-named i m =
        let other : Member i.pred (other_exprs n) =
        append-right i.pred (map (λ (x : NetExclusion). x.pred) n.exclusions) (map (λ (x : NetInvariant). x.pred) n.invariants ++ flat_map alg_exprs n.algs)
        (append-left i.pred (map (λ (x : NetInvariant). x.pred) n.invariants) (flat_map alg_exprs n.algs) (map-member (λ (x : NetInvariant). x.pred) i n.invariants m)) in
        let asked_plain = plain-expr n (at_truths i.pred) plain (append-right (at_truths i.pred) (flat_map (edge_evaluated n) (all_edges n)) (map at_truths (other_exprs n)) (map-member at_truths i.pred (other_exprs n) other)) in
        expr-named None bool_kind i.pred (all-member (invariant_stands n) n.invariants i invariants-stand m) (and-left _ _ (and-left _ _ asked_plain))

    found : {A : Type 0} (xs : List A) (k : ℕ) (x : A) → slice_get xs k ≡ Some x → Member x xs
    found [] k x h = absurd cc
    found (y ∷ xs) zero x h = inl (let e : y ≡ x = cc in sym e)
    found (y ∷ xs) (suc k) x h = inr (found xs k x h)

    invariants-named : (ks : List ℕ) → AllByRecursion (IsNamedExpr n None) (invariants_at n ks)
    invariants-named [] = tt
    invariants-named (k ∷ ks) = go (slice_get n.invariants k) refl (invariants-named ks)
      where
        go : (o : Option NetInvariant) → slice_get n.invariants k ≡ o → AllByRecursion (IsNamedExpr n None) (invariants_at n ks)
            → AllByRecursion (IsNamedExpr n None) (cons_option (option_map (λ (i : NetInvariant). i.pred) o) (invariants_at n ks))
        go None is rest = rest
        go (Some i) is rest = (invariant-named i (found n.invariants k i is), rest)

  pub choice-named : is_plain n ≡ true → (c : NetChoice) → choice_stands n c ≡ true → IsNamedChoice n c
  choice-named plain c stands =
      let none = plain-none (channel_range (channel_of n c.event)) (choice_exprs c) (and-right _ _ (and-left _ _ stands)) in
      let parts = both NoAlg (option_to_list c.sent) (updates_exprs c.writes) none.1 in
      let up : updates_stand n (carried_type n c) c.writes ≡ true = and-right _ _ (and-left _ _ (and-left _ _ stands)) in
      record {
        test = expr-named None bool_kind c.test (and-left _ _ (and-left _ _ (and-left _ _ (and-left _ _ stands)))) none.0;
        sent = sent-named (carried_type n c) c.sent (and-right _ _ (and-left _ _ (and-left _ _ (and-left _ _ stands)))) parts.0;
        updates = updates-named (carried_type n c) c.writes up parts.1;
        targets_there = λ v h. let t = target-there n (carried_type n c) v c.writes up h in slice_get-below n.vars v t.0 t.1;
        keeps = all-filter (IsNamedExpr n None) (depends n c) (invariants_at n c.invariants) (invariants-named plain c.invariants);
      }
