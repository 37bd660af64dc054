-- The table has the kinds of what each body declares.
use Rattle.std.proofs.Common.{◌≡◌, ℕ, ◌+◌, ◌≤◌, List, [], ◌∷◌, map, length, refl, sym, ap, subst, ◌∙◌, arith, Some}
use Rattle.std.specs.Prelude.{flat_map}
use Rattle.cif_source.specs.Source.{Text, TypeTree, ChannelTree, no_type, void_type, value_type, type_decl, enum_decl, event_decl, const_decl, alg_decl, input_decl, disc_decl, equation_decl, invariant_decl, marked_decl, event_param, alg_param, location_param, Source}
use Rattle.cif_source.specs.Components.{Component, as_written, specification_of, scope_of, Entry, Entries, declared, literal, location, inner, definition, instance, parameter}
use Rattle.cif_source.specs.Lookup.{reached}
use Rattle.cif_source.specs.Objects.{bodies, decls_of}
use Rattle.cif_source.specs.Scoping.{DefinitionCycleDue}
use Rattle.cif_source.specs.Kinds.{kind_at, type_kind, type_kind_within}
use Rattle.cif_source.specs.Demands as demands
use Rattle.cif_source.specs.Demands.{channel_kind, channel_at}
use Rattle.cif_order.specs.Graph.{IsCyclic, AreInside, IsOrder}
use Rattle.cif_order.proofs.OrderLaws.{order-rank}
use Rattle.cif_scope.specs.declared.scopes.Scopes.{Scopes}
use Rattle.cif_scope.specs.Tables.{IsBody, Beside}
use Rattle.cif_scope.specs.Scopes.{AreNumbered}
use Rattle.cif_scope.specs.declared.written.Written.{Written}
use Rattle.cif_scope.specs.Written.{body_of_written, written_bodies}
use Rattle.cif_scope.proofs.BodyLaws.{body-written, body-root}
use Rattle.cif_scope.proofs.Places.{beside-length, Sits, sits-head, sits-tail, sits-whole}
use Rattle.cif_scope.proofs.DefinitionLaws.{bodies-written}
use Rattle.cif_types_kinds.specs.declared.kind.Kind.{Kind}
use Rattle.cif_types_kinds.specs.declared.kind.Kind.TheVariants as kind
use Rattle.cif_types_kinds.specs.declared.kind.Channel.{Channel}
use Rattle.cif_types_kinds.specs.declared.kind.Channel.TheVariants as channel
use Rattle.cif_types_kinds.specs.Tables.{kind_for, channel_for, IsKindOf, AreOwnKinds, IsChannelOf, AreOwnChannels, AreKindsIn}
use Rattle.cif_types_table.specs.declared.layout.Slot.{Slot}
use Rattle.cif_types_table.specs.declared.layout.Slot.TheVariants as slot
use Rattle.cif_types_table.specs.declared.layout.NamedType.{NamedType}
use Rattle.cif_types_table.specs.Layouts.{SlotTree, type_slot, literal_slot, value_slot, location_slot, event_slot, other_slot, slot_tree, NamedTree, named_tree, all_types, all_slots}
use Rattle.cif_types_table.specs.Lists.{lists_after, listed_kinds}
use Rattle.cif_types_table.specs.Types.{type_graph, kind_among, kind_of_type, settled, kind_in_slot, body_kinds, all_kinds, channel_of, channel_in_slot, body_channels, all_channels}
use Rattle.cif_types_table.proofs.ListLaws.{IsListed, lists-distinct, kinds-listed}
use Rattle.cif_types_table.proofs.SlotLaws.{IsSlot, IsSlotOf, AreRows, types-below, rows-are}
use Rattle.cif_types_table.proofs.NameLaws.{all, rows, needs-inside}
use Rattle.cif_types_table.proofs.CycleLaws.{needs-acyclic}
use Rattle.cif_types_table.proofs.KindLaws.{AreSettled, kinds-settled, enumeration-kind, whole-kind}

-- ---- what the code read

module _ (t : Source) (ws us : List Written) (same : us ≡ ws) (are : map body_of_written ws ≡ written_bodies t) where
  pub types-read : (others types : List NamedType) → map named_tree others ≡ all_types 0 (map body_of_written us) → types ≡ others → map named_tree types ≡ all_types 0 (written_bodies t)
  types-read others types h e = ap (map named_tree) e ∙ h ∙ ap (λ vs. all_types 0 (map body_of_written vs)) same ∙ ap (all_types 0) are

  pub slots-read : (others slots : List (List Slot)) → map (map slot_tree) others ≡ all_slots 0 (map body_of_written us) → slots ≡ others → map (map slot_tree) slots ≡ all_slots 0 (written_bodies t)
  slots-read others slots h e = ap (map (map slot_tree)) e ∙ h ∙ ap (λ vs. all_slots 0 (map body_of_written vs)) same ∙ ap (all_slots 0) are

-- ---- from the bodies

module _ (t : Source) (s : Scopes) (are : AreNumbered t s) (slots : List (List Slot)) (types : List NamedType)
    (typed : map named_tree types ≡ all_types 0 (written_bodies t)) (slotted : map (map slot_tree) slots ≡ all_slots 0 (written_bodies t)) where
  abbrev every : List NamedTree
  every = all t s are slots types

  rows-slotted : AreRows every 0 (bodies t) (rows t s are slots types)
  rows-slotted =
      subst (λ (rs : List (List SlotTree)). AreRows every 0 (bodies t) rs) (sym slotted)
      (rows-are every 0 0 (bodies t) (written_bodies t) (bodies-written t) (subst (λ (ns : List NamedTree). Sits every 0 ns) typed (sits-whole every)))

  types-few : length every ≤ length (flat_map decls_of (bodies t))
  types-few = let e : length every ≡ length (all_types 0 (written_bodies t)) = ap (λ (ns : List NamedTree). length ns) typed in omega (arith, types-below 0 (bodies t) (written_bodies t) (bodies-written t))

  pub graph-inside : AreInside (type_graph s slots types)
  graph-inside = needs-inside t s are slots types rows-slotted

  pub graph-acyclic : ((at : ℕ) → DefinitionCycleDue t at → ⊥) → (m : ℕ) → IsCyclic (type_graph s slots types) m → ⊥
  graph-acyclic none = needs-acyclic t s are slots types rows-slotted none

  module _ (order : List ℕ) (is : IsOrder (type_graph s slots types) order) where
    abbrev lists : List (List Text)
    lists = lists_after [] types

    abbrev first : List Kind
    first = listed_kinds [] types

    abbrev kinds : List Kind
    kinds = settled s slots types first order

    listed : Beside (IsListed lists) types first
    listed = kinds-listed types []

    ends : AreSettled t s are slots types first kinds
    ends = kinds-settled t s are slots types first order is (beside-length (IsListed lists) types first listed)

    type-is : (k : ℕ) (c : Component) (ty : TypeTree) → IsBody t k c → kind_for lists (kind_of_type s slots kinds k ty) ≡ type_kind c ty
    type-is k c ty own =
        let r = order-rank (type_graph s slots types) order is in
        let here : IsBody t k (as_written c) = own ∙ ap Some (sym (body-written t s.table.scopes are.table c k own)) in
        let root : specification_of c ≡ t = body-root t s.table.scopes are.table c k own in
        sym (ap (λ u. type_kind_within (length (flat_map decls_of (bodies u))) c ty) root
        ∙ whole-kind t s are slots types rows-slotted lists first kinds listed ends r.0 r.1 (length (flat_map decls_of (bodies t))) k c ty types-few here)

    -- ---- slots

    abbrev tree_kind : ℕ → SlotTree → Kind
    tree_kind k (type_slot m) = kind.None
    tree_kind k (literal_slot m) = kind_among kinds (Some m)
    tree_kind k (value_slot ty) = kind_of_type s slots kinds k ty
    tree_kind k location_slot = kind.Bool
    tree_kind k (event_slot h) = kind.None
    tree_kind k other_slot = kind.None

    tree-kind : (k : ℕ) (x : Slot) → kind_in_slot s slots kinds k x ≡ tree_kind k (slot_tree x)
    tree-kind k (slot.Type m) = refl
    tree-kind k (slot.Literal m) = refl
    tree-kind k (slot.Value ty) = refl
    tree-kind k slot.Location = refl
    tree-kind k (slot.Event h) = refl
    tree-kind k slot.Other = refl

    slot-kind : (k : ℕ) (c : Component) (e : Entry) (x : SlotTree) → IsBody t k c → IsSlot every k e x → kind_for lists (tree_kind k x) ≡ kind_at (reached (c, e))
    slot-kind k c (declared (type_decl n ty)) x own h = ap (λ y. kind_for lists (tree_kind k y)) h.1
    slot-kind k c (declared (enum_decl n ls)) x own h = ap (λ y. kind_for lists (tree_kind k y)) h.1
    slot-kind k c (declared (event_decl b i n)) x own h = ap (λ y. kind_for lists (tree_kind k y)) h
    slot-kind k c (declared (const_decl ty n e)) x own h = ap (λ y. kind_for lists (tree_kind k y)) h ∙ type-is k c ty own
    slot-kind k c (declared (alg_decl ty n e)) x own h = ap (λ y. kind_for lists (tree_kind k y)) h ∙ type-is k c ty own
    slot-kind k c (declared (input_decl ty n)) x own h = ap (λ y. kind_for lists (tree_kind k y)) h ∙ type-is k c ty own
    slot-kind k c (declared (disc_decl ty n e)) x own h = ap (λ y. kind_for lists (tree_kind k y)) h ∙ type-is k c ty own
    slot-kind k c (declared (equation_decl q)) x own h = ap (λ y. kind_for lists (tree_kind k y)) h
    slot-kind k c (declared (invariant_decl i)) x own h = ap (λ y. kind_for lists (tree_kind k y)) h
    slot-kind k c (declared (marked_decl p)) x own h = ap (λ y. kind_for lists (tree_kind k y)) h
    slot-kind k c (literal j ls) x own h =
        ap (λ y. kind_for lists (tree_kind k y)) h.1 ∙ enumeration-kind t s are slots types rows-slotted lists first kinds listed ends h.0 ls h.2
    slot-kind k c (location j) x own h = ap (λ y. kind_for lists (tree_kind k y)) h
    slot-kind k c (inner n b) x own h = ap (λ y. kind_for lists (tree_kind k y)) h
    slot-kind k c (definition n ps b) x own h = ap (λ y. kind_for lists (tree_kind k y)) h
    slot-kind k c (instance i) x own h = ap (λ y. kind_for lists (tree_kind k y)) h
    slot-kind k c (parameter j (event_param b i n)) x own h = ap (λ y. kind_for lists (tree_kind k y)) h
    slot-kind k c (parameter j (alg_param ty n)) x own h = ap (λ y. kind_for lists (tree_kind k y)) h ∙ type-is k c ty own
    slot-kind k c (parameter j (location_param n)) x own h = ap (λ y. kind_for lists (tree_kind k y)) h

    -- ---- the table

    own-kinds : (k : ℕ) (c : Component) (es : Entries) (row : List Slot) → IsBody t k c → Beside (IsSlotOf every k) es (map slot_tree row)
        → Beside (IsKindOf lists c) es (body_kinds s slots kinds k row)
    own-kinds k c [] [] own h = tt
    own-kinds k c [] (x ∷ row) own h = absurd h
    own-kinds k c (e ∷ es) [] own h = absurd h
    own-kinds k c (e ∷ es) (x ∷ row) own h = (ap (kind_for lists) (tree-kind k x) ∙ slot-kind k c e.1 (slot_tree x) own h.0, own-kinds k c es row own h.1)

    kinds-from : (k : ℕ) (cs : List Component) (rs : List (List Slot)) → Sits (bodies t) k cs → AreRows every k cs (map (map slot_tree) rs) → Beside (AreOwnKinds lists) cs (all_kinds s slots kinds k rs)
    kinds-from k [] [] own h = tt
    kinds-from k [] (row ∷ rs) own h = absurd h
    kinds-from k (c ∷ cs) [] own h = absurd h
    kinds-from k (c ∷ cs) (row ∷ rs) own h =
        (own-kinds k c (scope_of c) row (sits-head (bodies t) k c cs own) h.0, kinds-from (k + 1) cs rs (sits-tail (bodies t) k c cs own) h.1)

    -- ---- what is sent

    abbrev tree_channel : ℕ → SlotTree → Channel
    tree_channel k (type_slot m) = channel.No
    tree_channel k (literal_slot m) = channel.No
    tree_channel k (value_slot ty) = channel.No
    tree_channel k location_slot = channel.No
    tree_channel k (event_slot h) = channel_of s slots kinds k h
    tree_channel k other_slot = channel.No

    tree-channel : (k : ℕ) (x : Slot) → channel_in_slot s slots kinds k x ≡ tree_channel k (slot_tree x)
    tree-channel k (slot.Type m) = refl
    tree-channel k (slot.Literal m) = refl
    tree-channel k (slot.Value ty) = refl
    tree-channel k slot.Location = refl
    tree-channel k (slot.Event h) = refl
    tree-channel k slot.Other = refl

    channel-is : (k : ℕ) (c : Component) (h : ChannelTree) → IsBody t k c → channel_for lists (channel_of s slots kinds k h) ≡ channel_kind c h
    channel-is k c no_type own = refl
    channel-is k c void_type own = refl
    channel-is k c (value_type ty) own = ap demands.channel_for (type-is k c ty own)

    slot-channel : (k : ℕ) (c : Component) (e : Entry) (x : SlotTree) → IsBody t k c → IsSlot every k e x → channel_for lists (tree_channel k x) ≡ channel_at (reached (c, e))
    slot-channel k c (declared (type_decl n ty)) x own h = ap (λ y. channel_for lists (tree_channel k y)) h.1
    slot-channel k c (declared (enum_decl n ls)) x own h = ap (λ y. channel_for lists (tree_channel k y)) h.1
    slot-channel k c (declared (event_decl b i n)) x own h = ap (λ y. channel_for lists (tree_channel k y)) h ∙ channel-is k c i own
    slot-channel k c (declared (const_decl ty n e)) x own h = ap (λ y. channel_for lists (tree_channel k y)) h
    slot-channel k c (declared (alg_decl ty n e)) x own h = ap (λ y. channel_for lists (tree_channel k y)) h
    slot-channel k c (declared (input_decl ty n)) x own h = ap (λ y. channel_for lists (tree_channel k y)) h
    slot-channel k c (declared (disc_decl ty n e)) x own h = ap (λ y. channel_for lists (tree_channel k y)) h
    slot-channel k c (declared (equation_decl q)) x own h = ap (λ y. channel_for lists (tree_channel k y)) h
    slot-channel k c (declared (invariant_decl i)) x own h = ap (λ y. channel_for lists (tree_channel k y)) h
    slot-channel k c (declared (marked_decl p)) x own h = ap (λ y. channel_for lists (tree_channel k y)) h
    slot-channel k c (literal j ls) x own h = ap (λ y. channel_for lists (tree_channel k y)) h.1
    slot-channel k c (location j) x own h = ap (λ y. channel_for lists (tree_channel k y)) h
    slot-channel k c (inner n b) x own h = ap (λ y. channel_for lists (tree_channel k y)) h
    slot-channel k c (definition n ps b) x own h = ap (λ y. channel_for lists (tree_channel k y)) h
    slot-channel k c (instance i) x own h = ap (λ y. channel_for lists (tree_channel k y)) h
    slot-channel k c (parameter j (event_param b i n)) x own h = ap (λ y. channel_for lists (tree_channel k y)) h ∙ channel-is k c i own
    slot-channel k c (parameter j (alg_param ty n)) x own h = ap (λ y. channel_for lists (tree_channel k y)) h
    slot-channel k c (parameter j (location_param n)) x own h = ap (λ y. channel_for lists (tree_channel k y)) h

    own-channels : (k : ℕ) (c : Component) (es : Entries) (row : List Slot) → IsBody t k c → Beside (IsSlotOf every k) es (map slot_tree row)
        → Beside (IsChannelOf lists c) es (body_channels s slots kinds k row)
    own-channels k c [] [] own h = tt
    own-channels k c [] (x ∷ row) own h = absurd h
    own-channels k c (e ∷ es) [] own h = absurd h
    own-channels k c (e ∷ es) (x ∷ row) own h = (ap (channel_for lists) (tree-channel k x) ∙ slot-channel k c e.1 (slot_tree x) own h.0, own-channels k c es row own h.1)

    channels-from : (k : ℕ) (cs : List Component) (rs : List (List Slot)) → Sits (bodies t) k cs → AreRows every k cs (map (map slot_tree) rs)
        → Beside (AreOwnChannels lists) cs (all_channels s slots kinds k rs)
    channels-from k [] [] own h = tt
    channels-from k [] (row ∷ rs) own h = absurd h
    channels-from k (c ∷ cs) [] own h = absurd h
    channels-from k (c ∷ cs) (row ∷ rs) own h =
        (own-channels k c (scope_of c) row (sits-head (bodies t) k c cs own) h.0, channels-from (k + 1) cs rs (sits-tail (bodies t) k c cs own) h.1)

    -- ---- the whole

    table-is : AreKindsIn t (record { kinds = all_kinds s slots kinds 0 slots; channels = all_channels s slots kinds 0 slots; lists = lists })
    table-is = record {
      kinds = kinds-from 0 (bodies t) slots (sits-whole (bodies t)) rows-slotted;
      channels = channels-from 0 (bodies t) slots (sits-whole (bodies t)) rows-slotted;
      distinct = lists-distinct types [] tt;
    }

    pub settled-same : (others : List NamedType) (start ks : List Kind) (ms : List ℕ) → ks ≡ settled s slots others start ms → others ≡ types → start ≡ first → ms ≡ order → ks ≡ kinds
    settled-same others start ks ms e f g h =
        e ∙ ap (λ u. settled s slots u start ms) f ∙ ap (λ u. settled s slots types u ms) g ∙ ap (λ u. settled s slots types first u) h

    pub table-told : (ks : List (List Kind)) (hs : List (List Channel)) (ls : List (List Text)) → ks ≡ all_kinds s slots kinds 0 slots → hs ≡ all_channels s slots kinds 0 slots → ls ≡ lists
        → AreKindsIn t (record { kinds = ks; channels = hs; lists = ls })
    table-told ks hs ls e g f =
        subst (λ u. AreKindsIn t (record { kinds = u; channels = hs; lists = ls })) (sym e)
        (subst (λ u. AreKindsIn t (record { kinds = all_kinds s slots kinds 0 slots; channels = u; lists = ls })) (sym g)
        (subst (λ u. AreKindsIn t (record { kinds = all_kinds s slots kinds 0 slots; channels = all_channels s slots kinds 0 slots; lists = u })) (sym f) table-is))
