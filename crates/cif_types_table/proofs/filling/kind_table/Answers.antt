use Rattle.std.proofs.Common.{◌≡◌, [], ℕ, List, sym, ap, subst, ◌∙◌}
use Rattle.cif_source.specs.Source.{Source, source_of}
use Rattle.cif_order.specs.Graph.{AreInside, IsCyclic, IsOrder}
use Rattle.cif_types_kinds.specs.declared.kind.Kind.{Kind}
use Rattle.cif_types_table.specs.declared.layout.Slot.{Slot}
use Rattle.cif_types_table.specs.declared.layout.NamedType.{NamedType}
use Rattle.cif_types_table.specs.Lists.{lists_after, listed_kinds}
use Rattle.cif_types_table.specs.Types.{all_kinds, all_channels}
use Rattle.cif_types_table.proofs.TableLaws.{types-read, slots-read, graph-inside, graph-acyclic, settled-same, table-told}
use Rattle.cif_types_table.proofs.filling.kind_table.Goals as goal

pub type_order-requires-clause-inside : goal.type_order-requires-clause-inside
type_order-requires-clause-inside c =
    let t : Source = source_of c.args.spec.now in
    let typed = types-read t _ _ c.as_slice.ensures.value c.in_ok-written.ensures _ _ c.in_ok-layout.ensures.types c.as_slice-4.ensures.value in
    let slotted = slots-read t _ _ c.as_slice.ensures.value c.in_ok-written.ensures _ _ c.in_ok-layout.ensures.slots c.as_slice-3.ensures in
    subst (λ (g : List (List ℕ)). AreInside g) (sym (c.as_slice-5.ensures ∙ c.in_ok-graph.ensures))
    (graph-inside t c.args.scopes.now c.requires.scopes.numbers c.as_slice-3.result.now c.as_slice-4.result.now typed slotted)

pub type_order-requires-clause-acyclic : goal.type_order-requires-clause-acyclic
type_order-requires-clause-acyclic c =
    let t : Source = source_of c.args.spec.now in
    let typed = types-read t _ _ c.as_slice.ensures.value c.in_ok-written.ensures _ _ c.in_ok-layout.ensures.types c.as_slice-4.ensures.value in
    let slotted = slots-read t _ _ c.as_slice.ensures.value c.in_ok-written.ensures _ _ c.in_ok-layout.ensures.slots c.as_slice-3.ensures in
    subst (λ (g : List (List ℕ)). (m : ℕ) → IsCyclic g m → ⊥) (sym (c.as_slice-5.ensures ∙ c.in_ok-graph.ensures))
    (graph-acyclic t c.args.scopes.now c.requires.scopes.numbers c.as_slice-3.result.now c.as_slice-4.result.now typed slotted c.requires.scopes.rules.acyclic)

pub returns : goal.returns
returns c =
    let t : Source = source_of c.args.spec.now in
    let slots : List (List Slot) = c.as_slice-3.result.now in
    let types : List NamedType = c.as_slice-4.result.now in
    let typed = types-read t _ _ c.as_slice.ensures.value c.in_ok-written.ensures _ _ c.in_ok-layout.ensures.types c.as_slice-4.ensures.value in
    let slotted = slots-read t _ _ c.as_slice.ensures.value c.in_ok-written.ensures _ _ c.in_ok-layout.ensures.slots c.as_slice-3.ensures in
    let is = subst (λ (g : List (List ℕ)). IsOrder g c.in_ok-order.order) (c.as_slice-5.ensures ∙ c.in_ok-graph.ensures) c.in_ok-order.ensures in
    let listed : c.as_slice-2.result.now ≡ types = c.as_slice-2.ensures.value ∙ sym c.as_slice-4.ensures.value in
    let ends = settled-same t c.args.scopes.now c.requires.scopes.numbers slots types typed slotted c.in_ok-order.order is c.as_slice-6.result.now c.in_ok-listed.listed.kinds c.settle.new.kinds c.as_slice-7.result.now
    c.settle.ensures (c.as_slice-6.ensures.value ∙ sym c.as_slice-4.ensures.value) (c.in_ok-listed.ensures.kinds ∙ ap (λ (ys : List NamedType). listed_kinds [] ys) listed) c.as_slice-7.ensures in
    table-told t c.args.scopes.now c.requires.scopes.numbers slots types typed slotted c.in_ok-order.order is c.in_ok-kinds.kinds c.in_ok-channels.channels c.in_ok-listed.listed.lists
    (c.in_ok-kinds.ensures ∙ ap (λ (ks : List Kind). all_kinds c.args.scopes.now slots ks 0 slots) (c.as_slice-8.ensures ∙ ends))
    (c.in_ok-channels.ensures ∙ ap (λ (ks : List Kind). all_channels c.args.scopes.now slots ks 0 slots) (c.as_slice-9.ensures ∙ ends))
    (c.in_ok-listed.ensures.lists ∙ ap (λ (ys : List NamedType). lists_after [] ys) listed)
