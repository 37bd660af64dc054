-- Where each target is a location of its automaton, edges end in places of their automata.
use Rattle.std.proofs.Common.{◌≡◌, ℕ, suc, ◌+◌, ◌<◌, Bool, true, false, cond, inl, inr, List, [], ◌∷◌, length, map, Some, None, refl, ap, subst, arith}
use Rattle.std.specs.Prelude.{slice_get, flat_map, not, ◌||◌}
use Rattle.std.specs.List.{list_all, list_any, enumerate_from, position_or_len}
use Rattle.cif_system.specs.Words.{Member}
use Rattle.cif_system.specs.System.{Edge, Automaton, EndsInside}
use Rattle.cif_system.proofs.Lists.{false-true}
use Rattle.cif_system.proofs.Picks.{all-at, map-at, at-member}
use Rattle.cif_source.specs.Source.{LocationTree, Source}
use Rattle.cif_source.specs.Components.{Component}
use Rattle.cif_source.specs.Objects.{automata, locs_of, EventEdge, event_edges, edges_of_uses}
use Rattle.cif_source.specs.Step.{system_of, automaton_for, edge_for, end_of, is_named, has_target, has_targets}
use Rattle.cif_source.proofs.ComponentLaws.{append-cases}

flat_map-cases : {A B : Type 0} → (f : A → List B) → (y : B) → (xs : List A) → Member y (flat_map f xs) → (x : A) × Member x xs × Member y (f x)
flat_map-cases f y [] m = absurd m
flat_map-cases f y (x ∷ xs) m =
    elim (append-cases y (f x) (flat_map f xs) m) [
      | inl w ↦ (x, inl refl, w)
      | inr w ↦ let rest = flat_map-cases f y xs w in (rest.0, inr rest.1, rest.2)
    ]

map-cases : {A B : Type 0} → (f : A → B) → (y : B) → (xs : List A) → Member y (map f xs) → (x : A) × (y ≡ f x)
map-cases f y [] m = absurd m
map-cases f y (x ∷ xs) m = elim m [ inl w ↦ (x, w) | inr w ↦ map-cases f y xs w ]

enumerate-below : {A : Type 0} → (n : ℕ) (z : ℕ × A) (xs : List A) → Member z (enumerate_from n xs) → z.0 < n + length xs
enumerate-below n z [] m = absurd m
enumerate-below n z (x ∷ xs) m = elim m [ inl w ↦ omega (arith, ap (λ v. v.0) w) | inr w ↦ omega (arith, enumerate-below (n + 1) z xs w) ]

-- an edge leaves a place of its automaton
from-below : (a : Component) (w : EventEdge) → Member w (event_edges a) → w.from < length (locs_of a)
from-below a w m =
    let l = flat_map-cases (λ (l : ℕ × LocationTree). flat_map (edges_of_uses l.0) l.1.edges) w (enumerate_from 0 (locs_of a)) m in
    let e = flat_map-cases (edges_of_uses l.0.0) w l.0.1.edges l.2 in
    let u = map-cases (λ u. record { from = l.0.0; event_use = u; edge = e.0 }) w e.0.uses e.2 in
    omega (arith, enumerate-below 0 l.0 (locs_of a) l.1, ap (λ (v : EventEdge). v.from) u.1)

position-below : {A : Type 0} → (p : A → Bool) → (xs : List A) → list_any p xs ≡ true → position_or_len p xs < length xs
position-below p [] h = absurd (false-true refl h)
position-below p (x ∷ xs) h =
    (elim (p x) as (λ b. (b || list_any p xs) ≡ true → cond (not b) (1 + position_or_len p xs) 0 < suc (length xs)) [
      | true ↦ λ g. omega arith
      | false ↦ λ g. omega (arith, position-below p xs g)
    ]) h

end-below : (a : Component) (w : EventEdge) → Member w (event_edges a) → has_target a w ≡ true → end_of a w < length (locs_of a)
end-below a w m h =
    (elim w.edge.target as (λ o.
    (elim o [ None ↦ true | Some n ↦ list_any (is_named n.text) (locs_of a) ]) ≡ true
    → (elim o [ None ↦ w.from | Some n ↦ position_or_len (is_named n.text) (locs_of a) ]) < length (locs_of a)) [
      | None ↦ λ g. from-below a w m
      | Some n ↦ λ g. position-below (is_named n.text) (locs_of a) g
    ]) h

pub ends-inside : (t : Source) → list_all has_targets (automata t) ≡ true → EndsInside (system_of t)
ends-inside t h k a ha j x hx =
    let c = map-at automaton_for (automata t) k a ha in
    let w = map-at (edge_for c.0) (event_edges c.0) j x (subst (λ (b : Automaton). slice_get b.edges j ≡ Some x) c.2 hx) in
    let inside = end-below c.0 w.0 (at-member (event_edges c.0) j w.0 w.1) (all-at (has_target c.0) (event_edges c.0) j w.0 (all-at has_targets (automata t) k c.0 h c.1) w.1) in
    omega (arith, inside, ap (λ (y : Edge). y.to) w.2, ap (λ (b : Automaton). b.places) c.2)
