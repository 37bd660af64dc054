-- The edges of a net have one role for each event of their automaton, and send and receive along channels what these carry.
use Rattle.std.proofs.Common.{◌≡◌, ℕ, ◌≤◌, Bool, true, false, inl, inr, List, [], ◌∷◌, length, map, Option, Some, None, refl, sym, ◌∙◌, ap, subst, arith}
use Rattle.std.specs.Prelude.{◌&&◌, not, nat_eq, filter, flat_map, option_map, if◌then◌else◌}
use Rattle.std.specs.Option.{option_to_list}
use Rattle.cif_base.specs.declared.types.Ty.{Ty}
use Rattle.cif_ast.specs.Tree.{Tree}
use Rattle.cif_ast.specs.Throughout.{HoldsInTree}
use Rattle.cif_ast.specs.SmallNumbers.{small_parts}
use Rattle.cif_system.specs.Words.{Member}
use Rattle.cif_system.specs.System.{Role, syncing, sending, receiving}
use Rattle.cif_system.specs.Step.{same_role, is_number}
use Rattle.cif_system.proofs.Lists.{some-same, none-some, false-true, filter-passes}
use Rattle.cif_system.proofs.Picks.{and-left, and-right}
use Rattle.cif_system.proofs.Distinct.{member-map}
use Rattle.cif_net_expr.specs.Tree.{NetExpr}
use Rattle.cif_net_model.specs.Net.{NetChan, no_net_chan, void_net_chan, net_chan_of, NetEdge, Net}
use Rattle.cif_net_model.specs.Kinds.{has_type, received_fits, fits_type}
use Rattle.cif_net_model.specs.Facts.{has, has_use, channel_of, received_type, role_stands, is_one_role}
use Rattle.cif_source.specs.Source.{RoleTree, syncs, sends, receives, UseTree, Source}
use Rattle.cif_source.specs.Components.{Component, whole, part, blank, copy, body_of}
use Rattle.cif_source.specs.Objects.{components_of, automata, is_automaton, EventEdge, event_edges}
use Rattle.cif_source.specs.Step.{role_of, denotes_event, has_role, has_edge, synchronises}
use Rattle.cif_source.specs.Kinds.{Kind, bool_kind, int_kind, no_kind, enum_kind, same_kind, kind_of, demand}
use Rattle.cif_source.specs.Demands.{ChannelKind, not_channel, void_channel, channel_for, event_channel, is_unfit, asked_for, sent_demands, use_demands, carried_kind, received_by, one_kind, edge_received}
use Rattle.cif_source.specs.BodyRules.{name_at}
use Rattle.cif_source.specs.InstanceRules.{role_count}
use Rattle.cif_inst_model.specs.Flat.{net_of_source, net_auto, net_edge, event_number, alphabet_of, sent_tree}
use Rattle.cif_inst_model.specs.Translation.{net_of}
use Rattle.cif_inst_model.proofs.KeptLaws.{member-passes}
use Rattle.cif_inst_model.proofs.RuleLaws.{member-any}
use Rattle.cif_inst_model.proofs.SystemLaws.{alphabet-same}
use Rattle.cif_inst_laws.specs.Kinds.{AreMet, net_kind, IsCarried, IsReceived}
use Rattle.cif_inst_laws.proofs.ExprLaws.{is_valued, kind-told}
use Rattle.cif_inst_laws.proofs.Sound.{IsSound, unmixed}
use Rattle.cif_inst_laws.proofs.Forms.{automaton-home}
use Rattle.cif_inst_laws.proofs.Alphabets.{edge-numbered, edge-inside}
use Rattle.cif_inst_laws.proofs.Channels.{ChannelFits, channel-event}
use Rattle.cif_inst_laws.proofs.Demanded.{met-left}
use Rattle.cif_inst_laws.proofs.Updates.{KeepExpressions}
use Rattle.cif_inst_laws.proofs.Tests.{both, eq-told, eq-true, false-else, any-member}

-- ---- values that are sent

-- A use of an event that fits what its name carries stands in the net, where a value that is sent does.
module _ (n : Net) (value : Tree → NetExpr) where
  abbrev SendsType : RoleTree → ChannelKind → NetChan → Type 0
  SendsType r k x = (e : Tree) → r ≡ sends (Some e) → (j : Kind) → k ≡ channel_for j → (y : Ty) → x ≡ net_chan_of y → fits_type n y (value e) ≡ true

  pub role-stands : (r : RoleTree) (k : ChannelKind) (x : NetChan) → ChannelFits k x → is_unfit r k ≡ false → SendsType r k x → role_stands n (role_of r) x (option_map value (sent_tree r)) ≡ true
  role-stands syncs k no_net_chan f u s = refl
  role-stands syncs k void_net_chan f u s = refl
  role-stands syncs k (net_chan_of y) f u s = refl
  role-stands (sends (Some e)) (channel_for j) (net_chan_of y) f u s = s e refl j refl y refl
  role-stands (sends (Some e)) (channel_for j) no_net_chan f u s = absurd f
  role-stands (sends (Some e)) (channel_for j) void_net_chan f u s = absurd f
  role-stands (sends (Some e)) not_channel x f u s = absurd (false-true u refl)
  role-stands (sends (Some e)) void_channel x f u s = absurd (false-true u refl)
  role-stands (sends None) void_channel void_net_chan f u s = refl
  role-stands (sends None) void_channel no_net_chan f u s = absurd f
  role-stands (sends None) void_channel (net_chan_of y) f u s = absurd f
  role-stands (sends None) not_channel x f u s = absurd (false-true u refl)
  role-stands (sends None) (channel_for j) x f u s = absurd (false-true u refl)
  role-stands receives not_channel x f u s = absurd (false-true u refl)
  role-stands receives void_channel void_net_chan f u s = refl
  role-stands receives void_channel no_net_chan f u s = absurd f
  role-stands receives void_channel (net_chan_of y) f u s = absurd f
  role-stands receives (channel_for j) (net_chan_of y) f u s = refl
  role-stands receives (channel_for j) no_net_chan f u s = absurd f
  role-stands receives (channel_for j) void_net_chan f u s = absurd f

carried-by : (n : Net) (e : ℕ) (x : NetChan) → channel_of n e ≡ x → (y : Ty) → x ≡ net_chan_of y → IsCarried n (Some y)
carried-by n e x at y is z same = channel-event n e z (at ∙ is ∙ ap net_chan_of (some-same y z same))

-- a value that is sent has the kind of its channel
sent-met : (c : Component) (u : UseTree) (e : Tree) → u.role ≡ sends (Some e) → (j : Kind) → event_channel c u.name ≡ channel_for j → AreMet c (use_demands c u) → AreMet c (asked_for c j e)
sent-met c u e is j carries met =
    met-left c (asked_for c j e) []
    (subst (λ k. AreMet c (flat_map (sent_demands c k) (e ∷ []))) carries
    (subst (λ (r : RoleTree). AreMet c (elim r [ syncs ↦ [] | sends x ↦ flat_map (sent_demands c (event_channel c u.name)) (option_to_list x) | receives ↦ [] ])) is met))

pub sends-type : (t : Source) → KeepExpressions t → (c : Component) → Member c (components_of t) → (u : UseTree) → ChannelFits (event_channel c u.name) (channel_of (net_of_source t) (event_number c u.name)) → AreMet c (use_demands c u)
    → ((e : Tree) → sent_tree u.role ≡ Some e → HoldsInTree small_parts e) → SendsType (net_of_source t) (net_of c) u.role (event_channel c u.name) (channel_of (net_of_source t) (event_number c u.name))
sends-type t kept c m u fits met small e is j carries y at =
    let asked = sent-met c u e is j carries met in
    let told = kind-told (kind_of c no_kind e) j (asked (demand no_kind j e) (inl refl)) in
    let takes : is_valued j ≡ true → has_type y (net_kind j) ≡ true = subst (λ x. ChannelFits (channel_for j) x) at (subst (λ k. ChannelFits k (channel_of (net_of_source t) (event_number c u.name))) carries fits) in
    kept.sent c y j e m (carried-by (net_of_source t) (event_number c u.name) (channel_of (net_of_source t) (event_number c u.name)) refl y at) (takes (ap is_valued (sym told.1) ∙ told.0)) asked (small e (ap sent_tree is))

-- ---- what is received

valued-else : (k : Kind) → (k ≡ no_kind → ⊥) → is_valued k ≡ true
valued-else bool_kind h = refl
valued-else int_kind h = refl
valued-else no_kind h = absurd (h refl)
valued-else (enum_kind ls) h = refl

one-told : (j k : Kind) → is_valued (one_kind j k) ≡ true → (j ≡ one_kind j k) × (k ≡ one_kind j k)
one-told j k v =
    (elim (same_kind j k) as (λ b. same_kind j k ≡ b → is_valued (if b then j else no_kind) ≡ true → (j ≡ (if b then j else no_kind)) × (k ≡ (if b then j else no_kind))) [
      | true ↦ λ h w. (refl, sym (kind-told j k h).1)
      | false ↦ λ h w. absurd (false-true refl w)
    ]) refl v

-- each use of the edge receives that kind
all-receive : (c : Component) (us : List UseTree) → is_valued (edge_received c us) ≡ true → (u : UseTree) → Member u us → received_by c u ≡ edge_received c us
all-receive c [] v u m = absurd m
all-receive c (x ∷ []) v u m = elim m [ inl w ↦ ap (received_by c) w | inr w ↦ absurd w ]
all-receive c (x ∷ y ∷ us) v u m =
    let one = one-told (received_by c x) (edge_received c (y ∷ us)) v in
    elim m [
      | inl w ↦ ap (received_by c) w ∙ one.0
      | inr w ↦ all-receive c (y ∷ us) (ap is_valued one.1 ∙ v) u w ∙ one.1
    ]

abbrev kind_by : RoleTree → ChannelKind → Kind
kind_by r k = elim r [ syncs ↦ no_kind | sends e ↦ no_kind | receives ↦ carried_kind k ]

abbrev type_by : Role → NetChan → Option Ty
type_by p x = elim p [ receiving ↦ elim x [ net_chan_of y ↦ Some y | _ ↦ None ] | _ ↦ None ]

takes-it : (r : RoleTree) (k : ChannelKind) (x : NetChan) → ChannelFits k x → is_valued (kind_by r k) ≡ true → received_fits (net_kind (kind_by r k)) (type_by (role_of r) x) ≡ true
takes-it syncs k x f v = absurd (false-true refl v)
takes-it (sends e) k x f v = absurd (false-true refl v)
takes-it receives not_channel x f v = absurd (false-true refl v)
takes-it receives void_channel x f v = absurd (false-true refl v)
takes-it receives (channel_for j) (net_chan_of y) f v = f v
takes-it receives (channel_for j) no_net_chan f v = absurd f
takes-it receives (channel_for j) void_net_chan f v = absurd f

type-carried : (n : Net) (e : ℕ) (p : Role) (x : NetChan) → channel_of n e ≡ x → IsCarried n (type_by p x)
type-carried n e syncing x at y is = absurd (none-some y is)
type-carried n e sending x at y is = absurd (none-some y is)
type-carried n e receiving no_net_chan at y is = absurd (none-some y is)
type-carried n e receiving void_net_chan at y is = absurd (none-some y is)
type-carried n e receiving (net_chan_of z) at y is = channel-event n e y (at ∙ ap net_chan_of (some-same z y is))

pub received-is : (t : Source) (c : Component) (w : EventEdge) → Member w.event_use w.edge.uses → ChannelFits (event_channel c w.event_use.name) (channel_of (net_of_source t) (event_number c w.event_use.name))
    → IsReceived (net_of_source t) (edge_received c w.edge.uses) (received_type (net_of_source t) (net_edge c w))
received-is t c w i fits =
    let n = net_of_source t in
    let e = event_number c w.event_use.name in
    record {
      takes = λ some.
          let valued : is_valued (edge_received c w.edge.uses) ≡ true = valued-else (edge_received c w.edge.uses) some in
          let own : received_by c w.event_use ≡ edge_received c w.edge.uses = all-receive c w.edge.uses valued w.event_use i in
          ap (λ k. received_fits (net_kind k) (received_type n (net_edge c w))) (sym own)
          ∙ takes-it w.event_use.role (event_channel c w.event_use.name) (channel_of n e) fits (ap is_valued own ∙ valued);
      carried = type-carried n e (role_of w.event_use.role) (channel_of n e) refl;
    }

-- ---- one role

named : (a : Component) → is_automaton (body_of a) ≡ true → (at : ℕ) × (name_at a ≡ Some at)
named (whole is) h = absurd (false-true refl h)
named (part o n b) h = (n.at, refl)
named (blank o n ps b) h = (n.at, refl)
named (copy o n ps b g i) h = (n.at, refl)

abbrev counted : Bool → Bool → Bool → ℕ
counted a b d = length (filter (λ x. x) (a ∷ b ∷ d ∷ []))

first-second : (a b d : Bool) → a ≡ true → b ≡ true → 2 ≤ counted a b d
first-second true true true h g = omega arith
first-second true true false h g = omega arith
first-second true false d h g = absurd (false-true refl g)
first-second false b d h g = absurd (false-true refl h)

first-third : (a b d : Bool) → a ≡ true → d ≡ true → 2 ≤ counted a b d
first-third true true true h g = omega arith
first-third true false true h g = omega arith
first-third true b false h g = absurd (false-true refl g)
first-third false b d h g = absurd (false-true refl h)

second-third : (a b d : Bool) → b ≡ true → d ≡ true → 2 ≤ counted a b d
second-third true true true h g = omega arith
second-third false true true h g = omega arith
second-third a true false h g = absurd (false-true refl g)
second-third a false d h g = absurd (false-true refl h)

role-self : (p : Role) → same_role p p ≡ true
role-self syncing = refl
role-self sending = refl
role-self receiving = refl

role-told : (p q : Role) → same_role p q ≡ true → p ≡ q
role-told syncing syncing h = refl
role-told sending sending h = refl
role-told receiving receiving h = refl
role-told _ _ h = cc

syncs-told : (r : RoleTree) → role_of r ≡ syncing → r ≡ syncs
syncs-told syncs h = refl
syncs-told (sends e) h = cc
syncs-told receives h = cc

module _ (t : Source) (h : IsSound t) (c : Component) (m : Member c (automata t)) where
  no-two : (e : ℕ) → 2 ≤ role_count e c → ⊥
  no-two e two =
      let name = named c (filter-passes (λ a. is_automaton (body_of a)) (components_of t) c m) in
      unmixed t h name.0 (member-any (λ a. (name_at a ≡ Some name.0) × ((e : ℕ) × (2 ≤ role_count e a))) c (automata t) m (name.1, (e, two)))

  -- an edge of the automaton is one in its role
  edge-has : (w : EventEdge) → Member w (event_edges c) → has_edge (role_of w.event_use.role) (event_number c w.event_use.name) c ≡ true
  edge-has w k =
      let p = role_of w.event_use.role in
      let e = event_number c w.event_use.name in
      let number = (edge-numbered t h c (automaton-home t c m) w k).number in
      member-passes (has_role p e c) (event_edges c) w k (both (same_role p p) (denotes_event e c w.event_use.name) (role-self p) (ap (is_number e) number ∙ eq-true e e refl))

  abbrev uses_it : Role → ℕ → NetEdge → Bool
  uses_it p e x = nat_eq x.event e && same_role x.role p

  use-has : (p : Role) (e : ℕ) → has_use p e (map (net_edge c) (event_edges c)) ≡ true → has_edge p e c ≡ true
  use-has p e g =
      let x = any-member (uses_it p e) (map (net_edge c) (event_edges c)) g in
      let w = member-map (net_edge c) x.0 (event_edges c) x.1 in
      let passes : uses_it p e (net_edge c w.0) ≡ true = subst (λ y. uses_it p e y ≡ true) w.2 x.2 in
      let event : event_number c w.0.event_use.name ≡ e = eq-told (event_number c w.0.event_use.name) e (and-left _ (same_role (role_of w.0.event_use.role) p) passes) in
      let role : role_of w.0.event_use.role ≡ p = role-told (role_of w.0.event_use.role) p (and-right (nat_eq (event_number c w.0.event_use.name) e) _ passes) in
      subst (λ q. has_edge q e c ≡ true) role (subst (λ k. has_edge (role_of w.0.event_use.role) k c ≡ true) event (edge-has w.0 w.1))

  module _ (w : EventEdge) (k : Member w (event_edges c)) where
    abbrev e : ℕ
    e = event_number c w.event_use.name

    has-own : (p : Role) → role_of w.event_use.role ≡ p → has_edge p e c ≡ true
    has-own p is = subst (λ q. has_edge q e c ≡ true) is (edge-has w k)

    -- it stands in the alphabet where it synchronises, and nowhere else has the automaton another role for the event
    in-role : (p : Role) → role_of w.event_use.role ≡ p
        → (elim p [
          | syncing ↦ has (alphabet_of c) e
          | sending ↦ not (has (alphabet_of c) e) && not (has_use receiving e (map (net_edge c) (event_edges c)))
          | receiving ↦ not (has (alphabet_of c) e)
        ]) ≡ true
    in-role syncing is = edge-inside t h c m w k (syncs-told w.event_use.role is)
    in-role sending is =
        both (not (has (alphabet_of c) e)) (not (has_use receiving e (map (net_edge c) (event_edges c))))
        (ap not (false-else (has (alphabet_of c) e) (λ g. no-two e (first-second (synchronises e c) (has_edge sending e c) (has_edge receiving e c) (sym (alphabet-same c e) ∙ g) (has-own sending is)))))
        (ap not (false-else (has_use receiving e (map (net_edge c) (event_edges c))) (λ g. no-two e (second-third (synchronises e c) (has_edge sending e c) (has_edge receiving e c) (has-own sending is) (use-has receiving e g)))))
    in-role receiving is =
        ap not (false-else (has (alphabet_of c) e) (λ g. no-two e (first-third (synchronises e c) (has_edge sending e c) (has_edge receiving e c) (sym (alphabet-same c e) ∙ g) (has-own receiving is))))

    pub one-role : is_one_role (net_auto c) (net_edge c w) ≡ true
    one-role = in-role (role_of w.event_use.role) refl
