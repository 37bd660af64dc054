-- What a table says of what a name finds is its kind.
use Rattle.std.proofs.Common.{◌≡◌, ℕ, zero, suc, ◌<◌, List, [], ◌∷◌, length, Option, Some, None, refl, sym, ap, ◌∙◌, arith}
use Rattle.std.specs.Prelude.{slice_get, unwrap_or}
use Rattle.cif_ast.specs.declared.names.Ident.{Ident}
use Rattle.cif_ast.specs.declared.names.Name.{Name}
use Rattle.cif_source.specs.Source.{Text, Source}
use Rattle.cif_source.specs.Components.{Component, as_written, scope_of, Entry, entry_named}
use Rattle.cif_source.specs.Lookup.{Reached, reached, missing, blocked, at_entry, in_scope, found}
use Rattle.cif_source.specs.Objects.{bodies}
use Rattle.cif_source.specs.Kinds.{kind_at}
use Rattle.cif_source.specs.Demands.{channel_at, event_channel}
use Rattle.cif_scope.specs.Looks.{slot_at}
use Rattle.cif_scope.proofs.LookLaws.{Slotted, slot-is}
use Rattle.cif_scope.specs.Tables.{IsBody, IsScope}
use Rattle.cif_scope.specs.Scopes.{AreNumbered, Finds}
use Rattle.cif_scope.specs.declared.scopes.Found.{Found}
use Rattle.cif_scope.proofs.BodyLaws.{scope-written}
use Rattle.cif_scope.proofs.Places.{beside-at, beside-length}
use Rattle.cif_types_kinds.specs.declared.kind.Kind.{Kind}
use Rattle.cif_types_kinds.specs.declared.kind.Kind.TheVariants as kind
use Rattle.cif_types_kinds.specs.declared.kind.Channel.TheVariants as channel
use Rattle.cif_types_kinds.specs.declared.reading.Reading.{Reading}
use Rattle.cif_types_kinds.specs.declared.table.KindTable.{KindTable}
use Rattle.cif_types_kinds.specs.Tables.{kind_for, channel_for, IsKindOf, AreOwnKinds, IsChannelOf, AreOwnChannels, AreKindsIn, slot_kind, kind_at_slot, slot_channel, channel_at_slot, kind_found, channel_found, kind_owned}
use Rattle.cif_types_kinds.specs.Readings.{or_whole, source_for, component_in, lists_in, IsReading}
use Rattle.cif_types_kinds.proofs.WrittenLaws.{kind-written, channel-written}

at-or : (t : Source) (cs : List Component) (k : ℕ) → k < length cs → slice_get cs k ≡ Some (or_whole t (slice_get cs k))
at-or t [] k h = absurd (omega (arith, h))
at-or t (c ∷ cs) zero h = refl
at-or t (c ∷ cs) (suc k) h = at-or t cs k (omega (arith, h))

pub body-is : (r : Reading) → IsReading r → IsBody (source_for r) r.body (component_in r)
body-is r h = at-or (source_for r) (bodies (source_for r)) r.body h.body

pub body_scope : (r : Reading) → IsReading r → r.body < length r.scopes.now.table.scopes
body_scope r h = omega (arith, h.body, beside-length (IsScope (source_for r)) (bodies (source_for r)) r.scopes.now.table.scopes h.scopes.table)

module _ (t : Source) (tb : KindTable) (are : AreKindsIn t tb) where
  pub slot-kind : (k s : ℕ) (d : Component) (n : Ident) (e : Entry) → IsBody t k d → slice_get (scope_of d) s ≡ Some (n, e) → kind_for tb.lists (kind_at_slot tb k s) ≡ kind_at (reached (d, e))
  slot-kind k s d n e own at =
      let row = beside-at (AreOwnKinds tb.lists) (bodies t) tb.kinds k d are.kinds own in
      let one = beside-at (IsKindOf tb.lists d) (scope_of d) row.0 s (n, e) row.2 at in
      ap (λ o. kind_for tb.lists (slot_kind o s)) row.1 ∙ ap (λ o. kind_for tb.lists (unwrap_or o kind.None)) one.1 ∙ one.2

  slot-channel : (k s : ℕ) (d : Component) (n : Ident) (e : Entry) → IsBody t k d → slice_get (scope_of d) s ≡ Some (n, e) → channel_for tb.lists (channel_at_slot tb k s) ≡ channel_at (reached (d, e))
  slot-channel k s d n e own at =
      let row = beside-at (AreOwnChannels tb.lists) (bodies t) tb.channels k d are.channels own in
      let one = beside-at (IsChannelOf tb.lists d) (scope_of d) row.0 s (n, e) row.2 at in
      ap (λ o. channel_for tb.lists (slot_channel o s)) row.1 ∙ ap (λ o. channel_for tb.lists (unwrap_or o channel.No)) one.1 ∙ one.2

  found-kind : (q : Reached) (f : Option Found) → Finds t q f → kind_for tb.lists (kind_found tb f) ≡ kind_at q
  found-kind missing None h = refl
  found-kind blocked None h = refl
  found-kind missing (Some g) h = absurd h
  found-kind blocked (Some g) h = absurd h
  found-kind (reached (d, e)) None h = absurd h
  found-kind (reached (d, e)) (Some g) h =
      slot-kind g.body g.slot (as_written d) h.slot.0 e h.body (ap (λ es. slice_get es g.slot) (scope-written d) ∙ h.slot.1) ∙ sym (kind-written d e)

  found-channel : (q : Reached) (f : Option Found) → Finds t q f → channel_for tb.lists (channel_found tb f) ≡ channel_at q
  found-channel missing None h = refl
  found-channel blocked None h = refl
  found-channel missing (Some g) h = absurd h
  found-channel blocked (Some g) h = absurd h
  found-channel (reached (d, e)) None h = absurd h
  found-channel (reached (d, e)) (Some g) h =
      slot-channel g.body g.slot (as_written d) h.slot.0 e h.body (ap (λ es. slice_get es g.slot) (scope-written d) ∙ h.slot.1) ∙ sym (channel-written d e)

  owned-kind : (k : ℕ) (d : Component) (o : Option Entry) (s : Option ℕ) → IsBody t k d → Slotted (scope_of d) o s → kind_for tb.lists (kind_owned tb k s) ≡ kind_at (at_entry d o)
  owned-kind k d None None own h = refl
  owned-kind k d (Some e) (Some s) own h = slot-kind k s d h.0 e own h.1
  owned-kind k d None (Some s) own h = absurd h
  owned-kind k d (Some e) None own h = absurd h

-- what a name finds has the kind that the table says
pub name_kind : (r : Reading) (nm : Name) (f : Option Found) → IsReading r → ((t : Source) (c : Component) → AreNumbered t r.scopes.now → IsBody t r.body c → Finds t (found c nm) f)
    → kind_for (lists_in r) (kind_found r.table.now f) ≡ kind_at (found (component_in r) nm)
name_kind r nm f h finds =
    found-kind (source_for r) r.table.now h.kinds (found (component_in r) nm) f (finds (source_for r) (component_in r) h.scopes (body-is r h))

pub name_channel : (r : Reading) (nm : Name) (f : Option Found) → IsReading r → ((t : Source) (c : Component) → AreNumbered t r.scopes.now → IsBody t r.body c → Finds t (found c nm) f)
    → channel_for (lists_in r) (channel_found r.table.now f) ≡ event_channel (component_in r) nm
name_channel r nm f h finds =
    found-channel (source_for r) r.table.now h.kinds (found (component_in r) nm) f (finds (source_for r) (component_in r) h.scopes (body-is r h))

-- what the body declares has the kind that the table says
pub own_kind : (r : Reading) (x : Text) (s : Option ℕ) → IsReading r → s ≡ slot_at r.scopes.now.table r.body x → kind_for (lists_in r) (kind_owned r.table.now r.body s) ≡ kind_at (in_scope (component_in r) x)
own_kind r x s h e =
    ap (λ o. kind_for (lists_in r) (kind_owned r.table.now r.body o)) e
    ∙ owned-kind (source_for r) r.table.now h.kinds r.body (component_in r) (entry_named x (scope_of (component_in r))) (slot_at r.scopes.now.table r.body x) (body-is r h)
    (slot-is (source_for r) r.scopes.now.table h.scopes.table h.scopes.indexed r.body (component_in r) x (body-is r h))

-- the same body, where `?` has another kind
pub receives : (r : Reading) (k : Kind) → IsReading r → IsReading (record r { received = k })
receives r k h = record { scopes = h.scopes; kinds = h.kinds; body = h.body }
