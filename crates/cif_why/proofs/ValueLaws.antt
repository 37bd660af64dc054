-- Which values of an edge leave their ranges in a choice that agrees.
use Rattle.std.proofs.Common.{◌≡◌, ℕ, ℤ, pos, Bool, true, false, not, List, [], ◌∷◌, length, map, Option, Some, None, refl, sym, ap, ◌∙◌, arith, if◌then◌else◌}
use Rattle.std.specs.Prelude.{slice_get, option_map, option_to_list, unwrap_or, ◌||◌, ◌&&◌, nat_eq}
use Rattle.std.specs.List.{list_all, list_any}
use Rattle.std.proofs.lemmas.Bool.Decides.{nat_tests}
use Rattle.cif_system.specs.System.{State}
use Rattle.cif_system.specs.Step.{Choice, first_or, fits_channel, fits_variable, sent_fits}
use Rattle.cif_net_expr.specs.Tree.{NetExpr}
use Rattle.cif_net_model.proofs.ValueLaws.{ap-two, value-alone}
use Rattle.cif_net_model.proofs.Passing.{and-left, and-right}
use Rattle.cif_net_model.specs.Exprs.{updates_exprs}
use Rattle.cif_net_model.specs.Facts.{channel_of}
use Rattle.cif_net_model.specs.Listing.{NetChoice, full_choice}
use Rattle.cif_net_model.specs.Meaning.{alg_values, edge_meant, event_in, stored_in, system_of_net, value_in}
use Rattle.cif_net_model.specs.Net.{Net, NetEdge, NetStored}
use Rattle.cif_net_model.specs.Reads.{names_no_alg}
use Rattle.cif_net_model.specs.Rules.{is_plain_expr}
use Rattle.cif_net_model.specs.Shown.{channel_range}
use Rattle.cif_net_model.specs.Unfolding.{at_or}
use Rattle.cif_net_model.specs.Safe.{value_at}
use Rattle.cif_eval.specs.Within.{within}
use Rattle.cif_eval.proofs.Chosen.{Chosen, sent-fits}
use Rattle.cif_eval.proofs.Facts.{map-passes}
use Rattle.cif_why_model.specs.Told.{Assigned}
use Rattle.cif_why_model.specs.Reasons.{leaves_variable, received_in, value_leaves}
use Rattle.cif_sim_names.specs.Nets.{net_edge_told, net_numbered_all}
use Rattle.cif_why.specs.Leaving.{Sending, is_carried, is_stored, leaving, sending_of, uncarried, unfit}
use Rattle.cif_why.specs.Numbering.{numbered_all}
use Rattle.cif_why.proofs.ListLaws.{any-append}
use Rattle.cif_why.proofs.NumberLaws.{all-numbered}

eq-turned : (a b : ℕ) → nat_eq a b ≡ nat_eq b a
eq-turned a b = by (nat_eq b a) refl
  where
    by : (t : Bool) → nat_eq b a ≡ t → nat_eq a b ≡ t
    by true h = grind (arith, nat_tests)
    by false h = grind (arith, nat_tests)

or-false : (b : Bool) → (b || false) ≡ b
or-false true = refl
or-false false = refl

and-false : (b : Bool) → (b && false) ≡ false
and-false true = refl
and-false false = refl

-- the assigned values that leave
unfit-any : (vars : List NetStored) (ws : List Assigned) (l : ℕ)
    → list_any (nat_eq l) (unfit vars ws) ≡ list_any (λ (w : Assigned). nat_eq w.number l && not (fits_variable (slice_get (map stored_in vars) w.variable) w.value)) ws
unfit-any vars [] l = refl
unfit-any vars (w ∷ ws) l =
    any-append (nat_eq l) (if is_stored vars w.variable w.value then [] else w.number ∷ []) (unfit vars ws)
    ∙ ap-two (λ a b. a || b) (one (is_stored vars w.variable w.value)) (unfit-any vars ws l)
  where
    one : (b : Bool) → list_any (nat_eq l) (if b then [] else w.number ∷ []) ≡ (nat_eq w.number l && not b)
    one true = sym (and-false (nat_eq w.number l))
    one false = or-false (nat_eq l w.number) ∙ eq-turned l w.number ∙ and-true (nat_eq w.number l)
      where
        and-true : (b : Bool) → b ≡ (b && true)
        and-true true = refl
        and-true false = refl

module _ (n : Net) (c : NetChoice) (s : State) (v : Chosen n c s) where
  abbrev ch : Choice
  ch = (full_choice n c).1

  abbrev t : Sending
  t = sending_of n.events s c

  value-same : (e : NetExpr) → names_no_alg e ≡ true → value_at (within s (pos 0)) e ≡ value_in n s (pos 0) e
  value-same e h = value-alone (λ k. pos 0) (at_or (pos 0) (alg_values n s (pos 0) (length n.algs))) s (pos 0) e h

  exprs-plain : list_all (is_plain_expr n) (map (λ e. record { value = e; received = channel_range (channel_of n c.event) }) (option_to_list c.sent)) ≡ true
  exprs-plain =
      (map-passes (is_plain_expr n) (λ e. record { value = e; received = channel_range (channel_of n c.event) }) (option_to_list c.sent) (updates_exprs c.writes) (and-right _ _ (and-right _ _ (and-left _ _ v.stands)))).0

  sent-same : (o : Option NetExpr) → list_all (is_plain_expr n) (map (λ e. record { value = e; received = channel_range (channel_of n c.event) }) (option_to_list o)) ≡ true
      → option_map (value_at (within s (pos 0))) o ≡ option_map (value_in n s (pos 0)) o
  sent-same None h = refl
  sent-same (Some e) h = ap Some (value-same e (and-left _ _ (and-left _ _ (and-left _ _ h))))

  pub received-same : t.received ≡ received_in (system_of_net n) s ch
  received-same = ap (λ o. unwrap_or o (pos 0)) (sent-same c.sent exprs-plain) ∙ first (option_map (value_in n s (pos 0)) c.sent) ∙ ap (first_or (pos 0)) v.values.0
    where
      first : (o : Option ℤ) → unwrap_or o (pos 0) ≡ first_or (pos 0) (option_to_list o)
      first None = refl
      first (Some z) = refl

  pub fits-same : t.fits ≡ sent_fits (system_of_net n) s c.event ch
  fits-same = sent-fits n c s v

  module _ (y : NetEdge) (plain-sent : list_all names_no_alg (option_to_list y.sent) ≡ true) (plain-updates : list_all names_no_alg (updates_exprs y.updates) ≡ true) where
    -- the sent value of the edge
    sent-any : (o : Option NetExpr) → list_all names_no_alg (option_to_list o) ≡ true → (l : ℕ)
        → list_any (nat_eq l) (uncarried n.events c.event (within s (pos 0)) o)
        ≡ (elim (option_map (value_in n s (pos 0)) o) [ None ↦ false | Some z ↦ nat_eq l 0 && not (fits_channel (slice_get (map event_in n.events) c.event) z) ])
    sent-any None h l = refl
    sent-any (Some e) h l =
        ap (λ z. list_any (nat_eq l) (if is_carried n.events c.event z then [] else 0 ∷ [])) (value-same e (and-left _ _ h))
        ∙ one (is_carried n.events c.event (value_in n s (pos 0) e))
      where
        and-true : (b : Bool) → b ≡ (b && true)
        and-true true = refl
        and-true false = refl

        one : (b : Bool) → list_any (nat_eq l) (if b then [] else 0 ∷ []) ≡ (nat_eq l 0 && not b)
        one true = sym (and-false (nat_eq l 0))
        one false = or-false (nat_eq l 0) ∙ and-true (nat_eq l 0)

    assigned-any : (l : ℕ) → list_any (nat_eq l) (unfit n.vars (numbered_all (within s t.received) (length (option_to_list y.sent)) y.updates))
        ≡ list_any (leaves_variable (system_of_net n) l) ((net_edge_told n y).assigned s (received_in (system_of_net n) s ch))
    assigned-any l =
        unfit-any n.vars (numbered_all (within s t.received) (length (option_to_list y.sent)) y.updates) l
        ∙ ap (list_any (leaves_variable (system_of_net n) l)) (all-numbered n s t.received (length (option_to_list y.sent)) y.updates plain-updates)
        ∙ ap (λ z. list_any (leaves_variable (system_of_net n) l) (net_numbered_all n s z (length (option_to_list y.sent)) y.updates)) received-same

    if-any : (b : Bool) (ls : List ℕ) (l : ℕ) → list_any (nat_eq l) (if b then ls else []) ≡ (list_any (nat_eq l) ls && b)
    if-any true ls l = and-true (list_any (nat_eq l) ls)
      where
        and-true : (b : Bool) → b ≡ (b && true)
        and-true true = refl
        and-true false = refl
    if-any false ls l = sym (and-false (list_any (nat_eq l) ls))

    -- its values that leave
    pub leaving-any : (l : ℕ) → list_any (nat_eq l) (leaving n s c.event t y) ≡ value_leaves (system_of_net n) s c.event ch (edge_meant n y) (net_edge_told n y) l
    leaving-any l =
        any-append (nat_eq l) (uncarried n.events c.event (within s (pos 0)) y.sent) (if t.fits then unfit n.vars (numbered_all (within s t.received) (length (option_to_list y.sent)) y.updates) else [])
        ∙ ap-two (λ a b. a || b) (sent-any y.sent plain-sent l)
        (if-any t.fits (unfit n.vars (numbered_all (within s t.received) (length (option_to_list y.sent)) y.updates)) l
        ∙ ap-two (λ a b. a && b) (assigned-any l) fits-same)
