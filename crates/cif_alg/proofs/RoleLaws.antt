-- The edges of a net for an event: no automaton has it in two roles, and where it is no channel they all synchronise.
use Rattle.std.proofs.Common.{◌≡◌, ℕ, zero, suc, ◌⊎◌, inl, inr, Bool, true, false, ◌&&◌, ◌||◌, not, nat_eq, List, [], ◌∷◌, ◌++◌, map, Option, Some, None, slice_get, refl, ◌∙◌, ap, subst, arith, if◌then◌else◌}
use Rattle.std.specs.List.{list_all, list_any}
use Rattle.std.proofs.lemmas.Bool.Decides.{nat_tests}
use Rattle.cif_system.specs.System.{Role, syncing, sending, receiving}
use Rattle.cif_system.specs.Step.{same_role, is_channel_of, is_for, has_edge, is_party}
use Rattle.cif_system.specs.Words.{Member}
use Rattle.cif_net_expr.specs.Tree.{NetExpr}
use Rattle.cif_net_model.specs.Net.{NetChan, no_net_chan, void_net_chan, net_chan_of, NetEdge, NetAuto, NetEvent, Net}
use Rattle.cif_net_model.specs.Meaning.{edge_meant, automaton_in, event_in}
use Rattle.cif_net_model.specs.Listing.{syncs_on, monitors_event, is_edge_for}
use Rattle.cif_net_model.specs.Facts.{channel_of, role_stands, has, has_use, edge_stands, auto_stands}
use Rattle.cif_net_model.proofs.Passing.{and-left, and-right, not-true, all-member}
use Rattle.cif_alg.proofs.AutoLaws.{is_channel_there}
use Rattle.cif_alg.proofs.NodeLaws.{edge_weight, own_edges, stays, own_weights, role_weights, own-weighed, role-weighed}
use Rattle.cif_alg.proofs.ChannelLaws.{HasOneRole}

-- ---- edges in a role

-- there is none for the event, or each gives the same
own-cases : (p : Role) (e : ℕ) (P : Type 0) (xs : List NetEdge) → ((x : NetEdge) → Member x xs → is_edge_for p e x ≡ true → P) → (own_edges p e xs ≡ []) ⊎ P
own-cases p e P [] h = inl refl
own-cases p e P (x ∷ xs) h = by (is_edge_for p e x) (h x (inl refl)) (own-cases p e P xs (λ y m. h y (inr m)))
  where
    by : (b : Bool) → (b ≡ true → P) → (own_edges p e xs ≡ []) ⊎ P → ((if b then x ∷ own_edges p e xs else own_edges p e xs) ≡ []) ⊎ P
    by true g r = inr (g refl)
    by false g r = r

same-roles : (p r : Role) → same_role p r ≡ same_role r p
same-roles syncing syncing = refl
same-roles syncing sending = refl
same-roles syncing receiving = refl
same-roles sending syncing = refl
same-roles sending sending = refl
same-roles sending receiving = refl
same-roles receiving syncing = refl
same-roles receiving sending = refl
same-roles receiving receiving = refl

none-used : (p : Role) (e : ℕ) (xs : List NetEdge) → has_use p e xs ≡ false → own_edges p e xs ≡ []
none-used p e [] h = refl
none-used p e (x ∷ xs) h =
    by (nat_eq x.event e) (same_role p x.role) (ap (λ c. (nat_eq x.event e && c) || has_use p e xs) (same-roles p x.role) ∙ h) (none-used p e xs)
  where
    by : (b c : Bool) → ((b && c) || has_use p e xs) ≡ false → (has_use p e xs ≡ false → own_edges p e xs ≡ []) → (if c && b then x ∷ own_edges p e xs else own_edges p e xs) ≡ []
    by true true g r = absurd cc
    by true false g r = r g
    by false true g r = r g
    by false false g r = r g

has-none : (n : Net) (p : Role) (e : ℕ) (xs : List NetEdge) → own_edges p e xs ≡ [] → list_any (is_for p e) (map (edge_meant n) xs) ≡ false
has-none n p e [] h = refl
has-none n p e (x ∷ xs) h = by (is_edge_for p e x) h (has-none n p e xs)
  where
    others : Bool
    others = list_any (is_for p e) (map (edge_meant n) xs)

    by : (b : Bool) → (if b then x ∷ own_edges p e xs else own_edges p e xs) ≡ [] → (own_edges p e xs ≡ [] → others ≡ false) → (b || others) ≡ false
    by true g r = absurd cc
    by false g r = r g

-- ---- an automaton of a net

-- an edge that sends or receives has an event that is not in the alphabet
other-role : (a : NetAuto) (x : NetEdge) (p r : Role) → same_role syncing p ≡ false → same_role p r ≡ true → (elim r [
  | syncing ↦ has a.alphabet x.event
  | sending ↦ not (has a.alphabet x.event) && not (has_use receiving x.event a.edges)
  | receiving ↦ not (has a.alphabet x.event)
]) ≡ true → has a.alphabet x.event ≡ false
other-role a x syncing r q s o = absurd cc
other-role a x sending syncing q s o = absurd cc
other-role a x sending sending q s o = not-true _ (and-left _ _ o)
other-role a x sending receiving q s o = absurd cc
other-role a x receiving syncing q s o = absurd cc
other-role a x receiving sending q s o = absurd cc
other-role a x receiving receiving q s o = not-true _ o

-- and where it sends no edge receives
sends-alone : (a : NetAuto) (x : NetEdge) (r : Role) → same_role sending r ≡ true → (elim r [
  | syncing ↦ has a.alphabet x.event
  | sending ↦ not (has a.alphabet x.event) && not (has_use receiving x.event a.edges)
  | receiving ↦ not (has a.alphabet x.event)
]) ≡ true → has_use receiving x.event a.edges ≡ false
sends-alone a x syncing s o = absurd cc
sends-alone a x sending s o = not-true _ (and-right _ _ o)
sends-alone a x receiving s o = absurd cc

-- what is no channel is neither sent nor received
no-other : (n : Net) (p r : Role) (v : Option NetExpr) → same_role syncing p ≡ false → same_role p r ≡ true → role_stands n r no_net_chan v ≡ true → ⊥
no-other n syncing r v q s h = cc
no-other n sending syncing v q s h = cc
no-other n sending sending v q s h = cc
no-other n sending receiving v q s h = cc
no-other n receiving syncing v q s h = cc
no-other n receiving sending v q s h = cc
no-other n receiving receiving v q s h = cc

-- ---- channels

pub channel-told : (es : List NetEvent) (e : ℕ) → is_channel_of (slice_get (map event_in es) e) ≡ is_channel_there es e
channel-told [] e = refl
channel-told (x ∷ es) zero = by x.chan
  where
    by : (c : NetChan) → is_channel_of (Some (event_in (record x { chan = c }))) ≡ (elim c [ no_net_chan ↦ false | _ ↦ true ])
    by no_net_chan = refl
    by void_net_chan = refl
    by (net_chan_of t) = refl
channel-told (x ∷ es) (suc e) = channel-told es e

no-channel : (es : List NetEvent) (e : ℕ) → is_channel_there es e ≡ false → elim (slice_get es e) [ None ↦ no_net_chan | Some x ↦ x.chan ] ≡ no_net_chan
no-channel [] e h = refl
no-channel (x ∷ es) zero h = by x.chan h
  where
    by : (c : NetChan) → (elim c [ no_net_chan ↦ false | _ ↦ true ]) ≡ false → c ≡ no_net_chan
    by no_net_chan k = refl
    by void_net_chan k = absurd cc
    by (net_chan_of t) k = absurd cc
no-channel (x ∷ es) (suc e) h = no-channel es e h

module _ (n : Net) (e : ℕ) where
  module _ (a : NetAuto) (stands : auto_stands n a ≡ true) where
    edge-stands : (x : NetEdge) → Member x a.edges → edge_stands n a x ≡ true
    edge-stands x m = all-member (edge_stands n a) a.edges x (and-right _ _ stands) m

    its-event : (p : Role) (x : NetEdge) → is_edge_for p e x ≡ true → x.event ≡ e
    its-event p x h = let same : nat_eq x.event e ≡ true = and-right (same_role p x.role) (nat_eq x.event e) h in grind (arith, nat_tests)

    no-part : (p : Role) → same_role syncing p ≡ false → (x : NetEdge) → Member x a.edges → is_edge_for p e x ≡ true → syncs_on e a ≡ false
    no-part p q x m h = subst (λ k. has a.alphabet k ≡ false) (its-event p x h) (other-role a x p x.role q (and-left _ _ h) (and-right _ _ (edge-stands x m)))

    no-receiver : (x : NetEdge) → Member x a.edges → is_edge_for sending e x ≡ true → own_edges receiving e a.edges ≡ []
    no-receiver x m h = none-used receiving e a.edges (subst (λ k. has_use receiving k a.edges ≡ false) (its-event sending x h) (sends-alone a x x.role (and-left _ _ h) (and-right _ _ (edge-stands x m))))

    role-none : (p : Role) → own_edges p e a.edges ≡ [] → role_weights n e p a ≡ []
    role-none p h = role-weighed n e p a ∙ ap (map (edge_weight n)) h

    or-alone : (p : Role) → same_role syncing p ≡ false → (role_weights n e p a ≡ []) ⊎ (own_weights n e a ≡ 0 ∷ [])
    or-alone p q =
        elim (own-cases p e (syncs_on e a ≡ false) a.edges (no-part p q)) [
          | inl w ↦ inl (role-none p w)
          | inr w ↦ inr (own-weighed n e a ∙ ap (λ b. if b then map (edge_weight n) (own_edges syncing e a.edges) ++ stays (monitors_event e a) else 0 ∷ []) w)
        ]

    one-role : HasOneRole n e a
    one-role = record {
      sends = or-alone sending refl;
      receives = or-alone receiving refl;
      either = elim (own-cases sending e (own_edges receiving e a.edges ≡ []) a.edges no-receiver) [ inl w ↦ inl (role-none sending w) | inr w ↦ inr (role-none receiving w) ];
    }

    -- an event that is no channel
    module _ (plain : is_channel_there n.events e ≡ false) where
      only-syncs : (p : Role) → same_role syncing p ≡ false → own_edges p e a.edges ≡ []
      only-syncs p q =
          elim (own-cases p e ⊥ a.edges (λ x m h.
          let stands : role_stands n x.role (channel_of n x.event) x.sent ≡ true = and-right _ _ (and-left _ _ (and-left _ _ (and-left _ _ (and-left _ _ (edge-stands x m))))) in
          no-other n p x.role x.sent q (and-left _ _ h) (subst (λ c. role_stands n x.role c x.sent ≡ true) (ap (channel_of n) (its-event p x h) ∙ no-channel n.events e plain) stands))) [
            | inl w ↦ w
            | inr w ↦ absurd w
          ]

      one-party : is_party e (automaton_in n a) ≡ syncs_on e a
      one-party = or-none (syncs_on e a) (has_edge sending e (automaton_in n a)) (has_edge receiving e (automaton_in n a)) (has-none n sending e a.edges (only-syncs sending refl)) (has-none n receiving e a.edges (only-syncs receiving refl))
        where
          or-none : (b c d : Bool) → c ≡ false → d ≡ false → (b || c || d) ≡ b
          or-none true c d h k = refl
          or-none false false d h k = k
          or-none false true d h k = absurd cc

  pub parties : (autos : List NetAuto) → list_all (auto_stands n) autos ≡ true → is_channel_there n.events e ≡ false → list_any (is_party e) (map (automaton_in n) autos) ≡ list_any (syncs_on e) autos
  parties [] h plain = refl
  parties (a ∷ autos) h plain =
      ap (λ b. b || list_any (is_party e) (map (automaton_in n) autos)) (one-party a (and-left _ _ h) plain)
      ∙ ap (λ b. syncs_on e a || b) (parties autos (and-right _ _ h) plain)

  pub one-roles : (autos : List NetAuto) → list_all (auto_stands n) autos ≡ true → (a : NetAuto) → Member a autos → HasOneRole n e a
  one-roles autos h a m = one-role a (all-member (auto_stands n) autos a h m)
