-- The statements of an event are the same under two ways of naming that name alike what is in the net, and two ways of naming
-- new values that name alike those of the variables that are assigned.
use Rattle.std.proofs.Common.{◌≡◌, ℕ, ◌+◌, Bool, true, false, not, ◌||◌, List, [], ◌∷◌, ◌++◌, map, flat_map, nat_eq, Option, Some, None, slice_get, refl, sym, ap, ap₂, subst, arith, ◌∙◌, if◌then◌else◌}
use Rattle.std.specs.Prelude.{option_to_list}
use Rattle.std.specs.List.{AllByRecursion}
use Rattle.std.proofs.lemmas.Bool.Decides.{nat_tests}
use Rattle.grammar.specs.Pieces.{Text}
use Rattle.cif_base.specs.declared.types.Ty.{Ty}
use Rattle.cif_net_expr.specs.Tree.{NetExpr, NetUpdate, net_set, net_choose, NetUpdates, no_net_updates, net_updates, NetUpdateBranches, no_net_update_branches, net_update_branches}
use Rattle.cif_net_model.specs.Exprs.{branches_exprs, targets, update_exprs, updates_exprs}
use Rattle.cif_net_model.specs.Facts.{has}
use Rattle.cif_net_model.specs.Listing.{NetChoice, all_hold, exprs_of}
use Rattle.cif_net_model.specs.Net.{NetEdge, NetStored, Net}
use Rattle.cif_net_model.specs.Reads.{Read, a_var, an_input, an_alg, a_place, the_received, list_names, names_in}
use Rattle.cif_net_model.specs.Table.{carried_type}
use Rattle.st_ast.specs.Tree.{Expr, Stms, append, assign, branches, named, no_branches, no_stms, stms, stms_of, truth}
use Rattle.plc_expr.specs.Held.{IsThere}
use Rattle.plc_expr.specs.Texts.{Naming, before, temps, text}
use Rattle.plc_frame.specs.Events.{moves_text, tested}
use Rattle.plc_frame.proofs.Choosing.{all-filter}
use Rattle.plc_event_model.specs.Acts.{act, assigned_vars, computed, copy, may_stay, store, stored, surely_set}
use Rattle.plc_event_model.specs.Events.{all_written, choice_written, is_bare}
use Rattle.plc_event_model.specs.Keeps.{after_naming, asked, located_after, taken_edge, variable_after, where_hold, where_kept}
use Rattle.plc_event_model.specs.Own.{choice_temps}
use Rattle.plc_event_model.specs.Sends.{sends, sent_temps, where_fits}
use Rattle.plc_event_model.specs.Writes.{NewNames, any_tested, bodies_temps, chosen, conditions_before, conditions_temps, is_tested, range_test, stays_in, updates_temps, write, write_branches, writes}
use Rattle.plc_event_model.proofs.Targets.{all_vars, assigned-has, by_vars, has-append, in_vars, targets-are}
use Rattle.cif_net_model.specs.Meaning.{type_range}
use Rattle.plc_expr_walk.specs.Alike.{IsAlike}
use Rattle.plc_expr_walk.proofs.Alike.{both, same-before, same-text}
use Rattle.plc_gen.specs.Named.{IsNamedChoice, IsNamedExpr}

-- ---- lists

each : {A : Type 0} (P Q : A → Type 0) → ((x : A) → P x → Q x) → (xs : List A) → AllByRecursion P xs → AllByRecursion Q xs
each P Q f [] h = tt
each P Q f (x ∷ xs) h = (f x h.0, each P Q f xs h.1)

map-same : {A B : Type 0} (f g : A → B) (xs : List A) → AllByRecursion (λ x. f x ≡ g x) xs → map f xs ≡ map g xs
map-same f g [] h = refl
map-same f g (x ∷ xs) h = ap₂ (λ y ys. y ∷ ys) h.0 (map-same f g xs h.1)

-- what holds of all numbers that are in a list holds of each of the list
eq-self : (k : ℕ) → nat_eq k k ≡ true
eq-self k = grind (arith, nat_tests)

or-true : (b : Bool) → (b || true) ≡ true
or-true true = refl
or-true false = refl

pub all-has : (P : ℕ → Type 0) (xs : List ℕ) → ((v : ℕ) → has xs v ≡ true → P v) → AllByRecursion P xs
all-has P [] h = tt
all-has P (x ∷ xs) h = (h x (ap (λ b. b || has xs x) (eq-self x)), all-has P xs (λ v in_rest. h v (ap (λ b. nat_eq v x || b) in_rest ∙ or-true (nat_eq v x))))

-- ---- statements of updates

module _ (n : Net) (w v : Naming) (y z : NewNames) (alike : (r : Option Ty) (q : Read) → IsThere n r q → IsAlike w v q) (received : w.received ≡ v.received) (own : (k : ℕ) → w.own k ≡ v.own k) (mark : y.in_range ≡ z.in_range) where
  -- the variable and its new value are named alike
  abbrev pub NewAlike : ℕ → Type 0
  NewAlike x = (y.next x ≡ z.next x) × (w.variable x ≡ v.variable x)

  abbrev New : List ℕ → Type 0
  New xs = AllByRecursion NewAlike xs

  expr-text : (r : Option Ty) (k : ℕ) (e : NetExpr) → IsNamedExpr n r e → text w k e ≡ text v k e
  expr-text r k e h = same-text w v own k e (each (IsThere n r) (IsAlike w v) (alike r) (names_in e) h)

  expr-before : (r : Option Ty) (k : ℕ) (e : NetExpr) → IsNamedExpr n r e → before w k e ≡ before v k e
  expr-before r k e h = same-before w v own k e (each (IsThere n r) (IsAlike w v) (alike r) (names_in e) h)

  abbrev test_with : Text → Text → Option NetStored → Stms
  test_with m t None = no_stms
  test_with m t (Some d) = if is_tested d.type_of then stms (assign m (stays_in m t (type_range d.type_of))) no_stms else no_stms

  range-with : (q : NewNames) (x : ℕ) (o : Option NetStored) → range_test q x o ≡ test_with q.in_range (q.next x) o
  range-with q x None = refl
  range-with q x (Some d) = refl

  range-same : (x : ℕ) (o : Option NetStored) → NewAlike x → range_test y x o ≡ range_test z x o
  range-same x o h = range-with y x o ∙ ap₂ (λ m t. test_with m t o) mark h.0 ∙ sym (range-with z x o)

  -- those of updates, where something of this type is received
  module _ (r : Option Ty) where
    abbrev Named : List NetExpr → Type 0
    Named es = AllByRecursion (IsNamedExpr n r) es

    conditions-same : (k : ℕ) (bs : NetUpdateBranches) → Named (branches_exprs bs) → conditions_before w k bs ≡ conditions_before v k bs
    conditions-same k no_net_update_branches h = refl
    conditions-same k (net_update_branches c us bs) h =
        let t = both (IsNamedExpr n r) (updates_exprs us) (branches_exprs bs) h.1 in
        ap₂ append (expr-before r k c h.0) (conditions-same (k + temps c) bs t.1)

    mutual
      writes-same : (k : ℕ) (us : NetUpdates) → Named (updates_exprs us) → New (all_vars us) → writes n w y k us ≡ writes n v z k us
      writes-same k no_net_updates h t = refl
      writes-same k (net_updates u us) h t =
          let p = both (IsNamedExpr n r) (update_exprs u) (updates_exprs us) h in
          let q = both NewAlike (by_vars u) (all_vars us) t in
          ap₂ append (writes-same k us p.1 q.1) (write-same (k + updates_temps us) u p.0 q.0)

      write-same : (k : ℕ) (u : NetUpdate) → Named (update_exprs u) → New (by_vars u) → write n w y k u ≡ write n v z k u
      write-same k (net_set x e) h t =
          ap₂ (λ bs d. append bs (stms (assign (y.next x) d) (range_test y x (slice_get n.vars x)))) (expr-before r k e h.0) (expr-text r k e h.0)
          ∙ ap₂ (λ nm r. append (before v k e) (stms (assign nm (text v k e)) r)) t.0.0 (range-same x (slice_get n.vars x) t.0)
      write-same k (net_choose bs us) h t =
          let p = both (IsNamedExpr n r) (branches_exprs bs) (updates_exprs us) h in
          let q = both NewAlike (in_vars bs) (all_vars us) t in
          ap₂ append (conditions-same k bs p.0)
          (ap₂ chosen (branches-same k (k + conditions_temps bs) bs p.0 q.0) (writes-same (k + conditions_temps bs + bodies_temps bs) us p.1 q.1))

      branches-same : (k j : ℕ) (bs : NetUpdateBranches) → Named (branches_exprs bs) → New (in_vars bs) → write_branches n w y k j bs ≡ write_branches n v z k j bs
      branches-same k j no_net_update_branches h t = refl
      branches-same k j (net_update_branches c us bs) h t =
          let p = both (IsNamedExpr n r) (updates_exprs us) (branches_exprs bs) h.1 in
          let q = both NewAlike (all_vars us) (in_vars bs) t in
          ap₂ (λ d ss. branches d ss (write_branches n w y (k + temps c) (j + updates_temps us) bs)) (expr-text r k c h.0) (writes-same j us p.0 q.0)
          ∙ ap (branches (text v k c) (writes n v z j us)) (branches-same (k + temps c) (j + updates_temps us) bs p.1 q.1)

    -- ---- what a choice does

    module _ (us : NetUpdates) (h : Named (updates_exprs us)) (new : (x : ℕ) → has (targets us) x ≡ true → NewAlike x) where
      all-new : New (all_vars us)
      all-new = subst New (targets-are us) (all-has NewAlike (targets us) new)

      assigned-new : New (assigned_vars us)
      assigned-new = all-has NewAlike (assigned_vars us) (λ x in_them. new x (sym (assigned-has us x) ∙ in_them))

      stays-new : New (may_stay us)
      stays-new = all-filter NewAlike (λ x. not (has (surely_set us) x)) (assigned_vars us) assigned-new

      computed-same : (k : ℕ) → computed n w y k us ≡ computed n v z k us
      computed-same k =
          ap₂ (λ ss ts. append (stms_of ss) ts)
          (map-same (copy w y) (copy v z) (may_stay us) (each NewAlike (λ x. copy w y x ≡ copy v z x) (λ x q. ap₂ (λ a b. assign a (named b)) q.0 q.1) (may_stay us) stays-new))
          (writes-same k us h all-new)

      stored-same : (rest : Stms) → stored w y us rest ≡ stored v z us rest
      stored-same rest =
          ap (λ ss. append (stms_of ss) rest)
          (map-same (store w y) (store v z) (assigned_vars us) (each NewAlike (λ x. store w y x ≡ store v z x) (λ x q. ap₂ (λ a b. assign b (named a)) q.0 q.1) (assigned_vars us) assigned-new))

      abbrev act_with : Text → Stms → Stms → Stms
      act_with m cs ss =
          if any_tested n us
          then stms (assign m (truth true)) (append cs (chosen (branches (named m) ss no_branches) no_stms))
          else append cs ss

      act-same : (k : ℕ) (ss ts : Stms) → ss ≡ ts → act n w y k us ss ≡ act n v z k us ts
      act-same k ss ts same = ap₂ (λ m cs. act_with m cs ss) mark (computed-same k) ∙ ap (act_with z.in_range (computed n v z k us)) same

  -- what is sent, and then the same statements
  where-same : (t : Ty) (ss ts : Stms) → ss ≡ ts → where_fits w.received t ss ≡ where_fits v.received t ts
  where-same t ss ts same = ap₂ (λ x qs. where_fits x t qs) received same

  sends-same : (k : ℕ) (e : Option NetExpr) (t : Option Ty) (ss ts : Stms) → AllByRecursion (IsNamedExpr n None) (option_to_list e) → ss ≡ ts → sends w k e t ss ≡ sends v k e t ts
  sends-same k None t ss ts h same = same
  sends-same k (Some e) None ss ts h same = same
  sends-same k (Some e) (Some t) ss ts h same =
      ap₂ (λ bs d. append bs (stms (assign w.received d) (where_fits w.received t ss))) (expr-before None k e h.0) (expr-text None k e h.0)
      ∙ ap₂ (λ x r. append (before v k e) (stms (assign x (text v k e)) r)) received (where-same t ss ts same)

  -- the state invariants that are tested
  module _ (c : NetChoice) (new : (x : ℕ) → has (targets c.writes) x ≡ true → NewAlike x) where
    located-same : (k p : ℕ) → w.located k p ≡ v.located k p → located_after n w c k p ≡ located_after n v c k p
    located-same k p same = go (taken_edge n c k)
      where
        go : (o : Option NetEdge) → ◌≡◌ {A = Expr} (elim o [ None ↦ w.located k p | Some x ↦ truth (nat_eq x.to p) ]) (elim o [ None ↦ v.located k p | Some x ↦ truth (nat_eq x.to p) ])
        go None = same
        go (Some x) = refl

    variable-same : (x : ℕ) → w.variable x ≡ v.variable x → variable_after w y c x ≡ variable_after v z c x
    variable-same x same = go (has (targets c.writes) x) refl
      where
        go : (b : Bool) → has (targets c.writes) x ≡ b → (if b then y.next x else w.variable x) ≡ (if b then z.next x else v.variable x)
        go true is = (new x is).0
        go false is = same

    after-alike : (q : Read) → IsThere n None q → IsAlike (after_naming n w y c) (after_naming n v z c) q
    after-alike (a_var x) h = variable-same x (alike None (a_var x) h)
    after-alike (an_input k) h = alike None (an_input k) h
    after-alike (an_alg k) h = tt
    after-alike (a_place k) h = λ p. located-same k p (alike None (a_place k) h p)
    after-alike the_received h = received

    names-there : (es : List NetExpr) → AllByRecursion (IsNamedExpr n None) es → AllByRecursion (IsThere n None) (list_names (exprs_of es))
    names-there [] h = tt
    names-there (e ∷ es) h = join (names_in e) h.0 (names-there es h.1)
      where
        join : (qs : List Read) → AllByRecursion (IsThere n None) qs → AllByRecursion (IsThere n None) (list_names (exprs_of es)) → AllByRecursion (IsThere n None) (qs ++ list_names (exprs_of es))
        join [] h rest = rest
        join (q ∷ qs) h rest = (h.0, join qs h.1 rest)

    hold-same : (k : ℕ) (es : List NetExpr) (ss : Stms) → AllByRecursion (IsNamedExpr n None) es → where_hold (after_naming n w y c) k es ss ≡ where_hold (after_naming n v z c) k es ss
    hold-same k [] ss h = refl
    hold-same k (e ∷ es) ss h =
        let named = each (IsThere n None) (IsAlike (after_naming n w y c) (after_naming n v z c)) after-alike (list_names (exprs_of (e ∷ es))) (names-there (e ∷ es) h) in
        ap₂ (λ bs d. append bs (tested d ss)) (same-before (after_naming n w y c) (after_naming n v z c) own k (all_hold (e ∷ es)) named)
        (same-text (after_naming n w y c) (after_naming n v z c) own k (all_hold (e ∷ es)) named)

    kept-same : (k : ℕ) (ss : Stms) → AllByRecursion (IsNamedExpr n None) (asked n c) → where_kept n w y k c ss ≡ where_kept n v z k c ss
    kept-same k ss h = hold-same k (asked n c) ss h

  written-same : (k : ℕ) (c : NetChoice) → IsNamedChoice n c → ((x : ℕ) → has (targets c.writes) x ≡ true → NewAlike x) → choice_written n w y k c ≡ choice_written n v z k c
  written-same k c h new =
      let p = expr-before None k c.test h.test in
      let q = expr-text None k c.test h.test in
      let j = k + temps c.test + sent_temps c.sent in
      let after = j + updates_temps c.writes in
      let a = λ (ms : Stms).
      sends-same (k + temps c.test) c.sent (carried_type n c) _ _ h.sent
      (act-same (carried_type n c) c.writes h.updates new j _ _
      (kept-same c new after (stored w y c.writes (moves_text n c.moves ms)) h.keeps ∙ ap (where_kept n v z after c) (stored-same (carried_type n c) c.writes h.updates new (moves_text n c.moves ms)))) in
      λ i. record { before = p i; test = q i; act = λ ms. a ms i; is_bare = is_bare n c }

  -- the choices of an event, of which each assigns variables whose new values are named alike
  pub all-same : (k : ℕ) (cs : List NetChoice) → AllByRecursion (IsNamedChoice n) cs → ((x : ℕ) → has (flat_map (λ (c : NetChoice). targets c.writes) cs) x ≡ true → NewAlike x)
      → all_written n w y k cs ≡ all_written n v z k cs
  all-same k [] h new = refl
  all-same k (c ∷ cs) h new =
      let rest = flat_map (λ (d : NetChoice). targets d.writes) cs in
      ap₂ (λ q qs. q ∷ qs)
      (written-same k c h.0 (λ x in_them. new x (has-append (targets c.writes) rest x ∙ ap (λ b. b || has rest x) in_them)))
      (all-same (k + choice_temps n c) cs h.1 (λ x in_them. new x (has-append (targets c.writes) rest x ∙ ap (λ b. has (targets c.writes) x || b) in_them ∙ or-true (has (targets c.writes) x))))
