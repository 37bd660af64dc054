-- The channel of an event in the net is what a name of the event carries, through however many instances a parameter is passed on.
use Rattle.std.proofs.Common.{◌≡◌, ℕ, Bool, true, false, inl, List, Option, Some, None, refl, sym, ◌∙◌, ap, subst}
use Rattle.std.specs.Prelude.{◌||◌, not, slice_get, unwrap_or}
use Rattle.std.proofs.lemmas.Cmp.{nat_list_eq_equiv}
use Rattle.cif_base.specs.declared.types.Ty.{Ty}
use Rattle.cif_base.specs.declared.types.Ty.TheVariants as ty
use Rattle.cif_ast.specs.Tree.{node, named}
use Rattle.cif_ast.specs.declared.names.Ident.{Ident}
use Rattle.cif_ast.specs.declared.names.Name.{Name}
use Rattle.cif_ast.specs.declared.declarations.Class.{Class}
use Rattle.cif_system.specs.Words.{Member}
use Rattle.cif_system.proofs.Lists.{false-true}
use Rattle.cif_system.proofs.Picks.{at-member}
use Rattle.cif_net_model.specs.Net.{Text, NetChan, no_net_chan, void_net_chan, net_chan_of, NetEvent, Net}
use Rattle.cif_net_model.specs.Kinds as net
use Rattle.cif_net_model.specs.Kinds.{has_type}
use Rattle.cif_net_model.specs.Facts.{literals_fit, channel_of}
use Rattle.cif_source.specs.Source.{ChannelTree, no_type, void_type, value_type, event_decl, event_param, alg_param, location_param, Source}
use Rattle.cif_source.specs.Components.{Component, copy, Entry, declared, parameter}
use Rattle.cif_source.specs.Lookup.{reached, denotes, Object, thing, given, by_argument, follow}
use Rattle.cif_source.specs.Objects.{components_of, decls_of, events, is_event, number_in}
use Rattle.cif_source.specs.Step.{event_at}
use Rattle.cif_source.specs.Uses.{uses, event_asked, is_asked}
use Rattle.cif_source.proofs.NameLaws.{is_parameter, met, met_at-own, follow-met}
use Rattle.cif_source.specs.Demands.{ChannelKind, not_channel, void_channel, channel_for, same_channel, channel_kind, channel_at, event_channel, is_unfit_for}
use Rattle.cif_inst_model.specs.Flat.{net_of_source, net_event, event_number}
use Rattle.cif_inst_model.specs.Types.{net_type, net_channel}
use Rattle.cif_inst_bodies.specs.Entries.{IsOf}
use Rattle.cif_inst_bodies.proofs.Bodies.{components-written}
use Rattle.cif_inst_bodies.proofs.ArgumentLaws.{asked, parameter-argument}
use Rattle.cif_inst_bodies.proofs.NumberLaws.{stands-at-number}
use Rattle.cif_inst_bodies.proofs.PassedLaws.{thing_of, given_of, met_of}
use Rattle.cif_inst_laws.specs.Kinds.{net_kind}
use Rattle.cif_inst_laws.proofs.ExprLaws.{is_valued, kind-told}
use Rattle.cif_inst_laws.proofs.NameLaws.{get-map}
use Rattle.cif_inst_laws.proofs.Places.{HoldsOfParameters, holds-of-names}
use Rattle.cif_inst_laws.proofs.SoundLaws.{IsSound, root}
use Rattle.cif_inst_laws.proofs.TypeLaws.{type-fits, written}
use Rattle.cif_inst_laws.proofs.Finding.{event-use}
use Rattle.cif_inst_laws.proofs.Types.{type-stands}

-- ---- channels

-- neither is one, both are without a value, or the type takes values of the kind
abbrev pub ChannelFits : ChannelKind → NetChan → Type 0
ChannelFits not_channel no_net_chan = Unit {0}
ChannelFits void_channel void_net_chan = Unit {0}
ChannelFits (channel_for k) (net_chan_of x) = is_valued k ≡ true → has_type x (net_kind k) ≡ true
ChannelFits _ _ = ⊥

channel-told : (j k : ChannelKind) → same_channel j k ≡ true → j ≡ k
channel-told not_channel not_channel h = refl
channel-told void_channel void_channel h = refl
channel-told (channel_for j) (channel_for k) h = ap channel_for (kind-told j k h).1
channel-told _ _ h = cc

own-type : (x : Ty) (ls : List Text) → literals_fit x ls ≡ true → has_type x (net.kind_of x ls) ≡ true
own-type ty.Bool ls h = refl
own-type (ty.Int lo hi) ls h = refl
own-type (ty.Enum size) ls h = h

-- an event that has a channel for values stands in the net
pub channel-event : (n : Net) (e : ℕ) (x : Ty) → channel_of n e ≡ net_chan_of x → (y : NetEvent) × Member y n.events × (y.chan ≡ net_chan_of x)
channel-event n e x h =
    (elim (slice_get n.events e) as (λ o. slice_get n.events e ≡ o → (elim o [ None ↦ no_net_chan | Some y ↦ y.chan ]) ≡ net_chan_of x → (y : NetEvent) × Member y n.events × (y.chan ≡ net_chan_of x)) [
      | None ↦ λ at is. cc
      | Some y ↦ λ at is. (y, at-member n.events e y at, is)
    ]) refl h

-- an event that a component declares, with a channel that fits the kind
record Carries (t : Source) (o : Option Object) (k : ChannelKind) : Type 0 where
  place : Component
  class : Class
  channel : ChannelTree
  ident : Ident
  is_listed : Member place (components_of t)
  is_declared : Member (event_decl class channel ident) (decls_of place)
  is_thing : o ≡ Some (thing place (declared (event_decl class channel ident)))
  fits : ChannelFits k (net_channel place channel)

not-either : (a b : Bool) → (not a || not b) ≡ false → a ≡ true
not-either true b h = refl
not-either false b h = absurd (false-true h refl)

module _ (t : Source) (s : IsSound t) where
  -- ---- what names find

  own-channel : (c : Component) → Member c (components_of t) → (k : Class) (h : ChannelTree) (n : Ident) → Member (event_decl k h n) (decls_of c) → ChannelFits (channel_kind c h) (net_channel c h)
  own-channel c m k no_type n i = tt
  own-channel c m k void_type n i = tt
  own-channel c m k (value_type x) n i = λ v.
      let typed = type-stands t s c m (event_decl k (value_type x) n) i x (inl refl) in
      let same = (type-fits t s (net_of_source t) c m x (written c (event_decl k (value_type x) n) x i (inl refl)) v).same in
      ap (has_type (net_type c x).type_of) (sym same) ∙ own-type (net_type c x).type_of (net_type c x).literals typed.1

  abbrev Keeps : Component → Entry → Type 0
  Keeps c e = is_asked event_asked e ≡ true → Carries t (met_of c e) (channel_at (reached (c, e)))

  thing-carries : (c : Component) (e : Entry) → Member c (components_of t) → IsOf c e → is_parameter e ≡ false → Keeps c e
  thing-carries c (declared (event_decl k h n)) l m p a = record {
    place = c;
    class = k;
    channel = h;
    ident = n;
    is_listed = l;
    is_declared = m;
    is_thing = met_at-own thing_of None given_of c (declared (event_decl k h n)) p;
    fits = own-channel c l k h n m;
  }
  thing-carries c (parameter k q) l m p a = absurd (false-true p refl)
  thing-carries c _ l m p a = cc

  parameter-carries : HoldsOfParameters t s.few Keeps
  parameter-carries o g n ps b i l giver all k (event_param x h m) hp a =
      let e = parameter-argument t s.known s.sorts s.matched o g n ps b i l k (event_param x h m) hp in
      let is = e.3 in
      let bare : is_unfit_for g (copy o n ps b g i) e.0 (event_param x h m) ≡ is_unfit_for g (copy o n ps b g i) (node (named is.name) is.at) (event_param x h m) = ap (λ q. is_unfit_for g (copy o n ps b g i) q (event_param x h m)) is.is_bare in
      let same : event_channel g is.name ≡ channel_kind (copy o n ps b g i) h = channel-told (event_channel g is.name) (channel_kind (copy o n ps b g i) h) (not-either (same_channel (event_channel g is.name) (channel_kind (copy o n ps b g i) h)) _ (sym bare ∙ e.2)) in
      let met-is : met_of (copy o n ps b g i) (parameter k (event_param x h m)) ≡ met_of is.place.0 is.place.1 =
      ap (by_argument None (λ y. Some (given g y)) (follow thing_of None given_of g) (event_param x h m)) (e.1 ∙ ap Some is.is_bare)
      ∙ follow-met thing_of None given_of g is.name
      ∙ ap (met thing_of None given_of) is.is_found in
      subst (λ q. Carries t q (channel_kind (copy o n ps b g i) h)) (sym met-is)
      (subst (Carries t (met_of is.place.0 is.place.1)) (ap channel_at (sym is.is_found) ∙ same) (all is.name is.place is.is_found is.is_sort))
  parameter-carries o g n ps b i l giver all k (alg_param x m) hp a = cc
  parameter-carries o g n ps b i l giver all k (location_param m) hp a = cc

  -- ---- names of events

  -- what stands at the number of an event
  event-there : (c : Component) (nm : Name) (k : ChannelKind) (e : Carries t (denotes c nm) k) → channel_of (net_of_source t) (event_number c nm) ≡ net_channel e.place e.channel
  event-there c nm k e =
      let d = event_decl e.class e.channel e.ident in
      let there : slice_get (events t) (event_number c nm) ≡ Some (e.place, d) =
      ap (λ o. slice_get (events t) (unwrap_or o 0)) (ap event_at e.is_thing ∙ ap (λ r. Some (number_in (events r) e.place e.ident.text)) (root t s e.place e.is_listed))
      ∙ stands-at-number t s.few s.single is_event e.place d e.is_listed e.is_declared refl e.ident.text (nat_list_eq_equiv.refl e.ident.text) in
      ap (λ (o : Option NetEvent). elim o [ None ↦ no_net_chan | Some y ↦ y.chan ]) (get-map net_event (events t) (event_number c nm) (e.place, d) there)

  -- the channel of a name of an event in the net
  pub channel-fits : (c : Component) → Member c (components_of t) → (nm : Name) → Member (event-use nm) (uses c) → ChannelFits (event_channel c nm) (channel_of (net_of_source t) (event_number c nm))
  channel-fits c m nm k =
      let x = asked t s.known s.sorts c (components-written t c m) (event-use nm) k in
      let met-is : denotes c nm ≡ met_of x.0.0 x.0.1 = follow-met thing_of None given_of c nm ∙ ap (met thing_of None given_of) x.1 in
      let e : Carries t (denotes c nm) (event_channel c nm) =
      subst (λ q. Carries t q (event_channel c nm)) (sym met-is)
      (subst (Carries t (met_of x.0.0 x.0.1)) (ap channel_at (sym x.1)) (holds-of-names t s.few Keeps thing-carries parameter-carries c m nm x.0 x.1 x.2)) in
      subst (ChannelFits (event_channel c nm)) (sym (event-there c nm (event_channel c nm) e)) e.fits
