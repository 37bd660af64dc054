-- The updates of a choice nest no deeper than those of the edges that it takes.
use Rattle.std.proofs.Common.{◌≡◌, ℕ, ◌≤◌, max, true, List, [], ◌∷◌, flat_map, filter_map, zip, Option, Some, None, refl, sym, subst, ◌∙◌, arith}
use Rattle.std.specs.Prelude.{nat_le, slice_get}
use Rattle.std.specs.List.{AllByRecursion, cons_option, list_all}
use Rattle.std.proofs.lemmas.Bool.Decides.{nat_tests}
use Rattle.std.proofs.lemmas.List.Folds.{list_all-append}
use Rattle.cif_system.specs.Step.{Choice}
use Rattle.cif_system.proofs.Picks.{all-at, and-left, and-right}
use Rattle.cif_net_expr.specs.Tree.{NetUpdates, no_net_updates, net_updates}
use Rattle.cif_net_model.specs.Net.{NetAuto, NetEdge, Net}
use Rattle.cif_net_model.specs.Listing.{NetChoice, both, edge_at, full_choice, writes_of}
use Rattle.cif_net_model.specs.Table.{IsGuarded}
use Rattle.plc_frame.proofs.Choosing.{all-of}
use Rattle.cif_net_model.specs.Nesting.{is_shallow, update_depth, updates_depth}

-- updates that nest no deeper than is allowed
abbrev pub Shallow : NetUpdates → Type 0
Shallow us = updates_depth us ≤ 395

both-shallow : (us vs : NetUpdates) → Shallow us → Shallow vs → Shallow (both us vs)
both-shallow no_net_updates vs a b = b
both-shallow (net_updates u us) vs a b =
    let top : max (update_depth u) (updates_depth us) ≤ 395 = a in
    let rest = both-shallow us vs (omega (arith, top)) b in
    omega (arith, top, rest)

edge-shallow : (x : NetEdge) → nat_le (updates_depth x.updates) 395 ≡ true → Shallow x.updates
edge-shallow x h = below (updates_depth x.updates) h
  where
    below : (d : ℕ) → nat_le d 395 ≡ true → d ≤ 395
    below d h = grind (arith, nat_tests)

abbrev AutoShallow : NetAuto → Type 0
AutoShallow a = list_all (λ (x : NetEdge). nat_le (updates_depth x.updates) 395) a.edges ≡ true

autos-shallow : (as' : List NetAuto) → list_all (λ (x : NetEdge). nat_le (updates_depth x.updates) 395) (flat_map (λ (a : NetAuto). a.edges) as') ≡ true → AllByRecursion AutoShallow as'
autos-shallow [] h = tt
autos-shallow (a ∷ as') h =
    let q = sym (list_all-append (λ (x : NetEdge). nat_le (updates_depth x.updates) 395) a.edges (flat_map (λ (b : NetAuto). b.edges) as')) ∙ h in
    (and-left _ _ q, autos-shallow as' (and-right _ _ q))

taken-shallow : (as' : List NetAuto) (ch : Choice) → AllByRecursion AutoShallow as' → Shallow (writes_of (filter_map edge_at (zip as' ch)))
taken-shallow [] ch h = omega arith
taken-shallow (a ∷ as') [] h = omega arith
taken-shallow (a ∷ as') (None ∷ ch) h = taken-shallow as' ch h.1
taken-shallow (a ∷ as') (Some k ∷ ch) h = by (slice_get a.edges k) refl (taken-shallow as' ch h.1)
  where
    by : (o : Option NetEdge) → slice_get a.edges k ≡ o → Shallow (writes_of (filter_map edge_at (zip as' ch))) → Shallow (writes_of (cons_option o (filter_map edge_at (zip as' ch))))
    by None at rest = rest
    by (Some x) at rest = both-shallow x.updates (writes_of (filter_map edge_at (zip as' ch))) (edge-shallow x (all-at (λ (z : NetEdge). nat_le (updates_depth z.updates) 395) a.edges k x h.0 at)) rest

pub all-shallow : (n : Net) (cs : List NetChoice) → is_shallow n ≡ true → IsGuarded n cs → AllByRecursion (λ (c : NetChoice). Shallow c.writes) cs
all-shallow n cs shallow guarded =
    let autos = autos-shallow n.autos shallow in
    all-of (λ (c : NetChoice). Shallow c.writes) cs (λ k c at. subst Shallow (sym (guarded.written k c at).1) (taken-shallow n.autos (full_choice n c).1 autos))
