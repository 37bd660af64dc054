-- Where the edges for uses of events stand, and lists that are gone through.
use Rattle.std.proofs.Common.{◌≡◌, ℕ, zero, suc, ◌+◌, ◌<◌, inl, inr, List, [], ◌∷◌, ◌++◌, length, refl, sym, ◌∙◌, ap, subst, arith}
use Rattle.std.specs.Prelude.{flat_map, slice_index_or}
use Rattle.std.specs.List.{Any, enumerate_from}
use Rattle.cif_system.specs.Words.{Member}
use Rattle.cif_system.proofs.Distinct.{member-map}
use Rattle.cif_source.specs.Source.{LocationTree}
use Rattle.cif_source.specs.Components.{Component}
use Rattle.cif_source.specs.Objects.{locs_of, EventEdge, event_edges, edges_of_uses}
use Rattle.cif_inst_model.proofs.FoundLaws.{flat-cases}

-- ---- lists

pub any-member : {A : Type 0} (P : A → Type 0) (xs : List A) → Any P xs → (x : A) × Member x xs × P x
any-member P xs a = (a.1, at xs a.0 a.1 a.2 a.3, a.4)
  where
    at : {A : Type 0} (xs : List A) (k : ℕ) (x : A) → k < length xs → slice_index_or xs k x ≡ x → Member x xs
    at [] k x lt is = absurd (omega (arith, lt))
    at (y ∷ ys) zero x lt is = inl (sym is)
    at (y ∷ ys) (suc k) x lt is = inr (at ys k x (omega (arith, lt)) is)

pub flat-nothing : {A B : Type 0} (f : A → List B) (xs : List A) → ((x : A) → Member x xs → f x ≡ []) → flat_map f xs ≡ []
flat-nothing f [] h = refl
flat-nothing f (x ∷ xs) h = ap (λ ys. ys ++ flat_map f xs) (h x (inl refl)) ∙ flat-nothing f xs (λ y m. h y (inr m))

pub enumerated : {A : Type 0} (n : ℕ) (z : ℕ × A) (xs : List A) → Member z (enumerate_from n xs) → Member z.1 xs × (z.0 < n + length xs)
enumerated n z [] m = absurd m
enumerated n z (x ∷ xs) m =
    elim m [
      | inl w ↦ (inl (ap (λ v. v.1) w), omega (arith, ap (λ v. v.0) w))
      | inr w ↦ let rest = enumerated (n + 1) z xs w in (inr rest.0, omega (arith, rest.1))
    ]

-- ---- edges

-- where an edge for one use of an event stands
pub record EdgeStands (a : Component) (w : EventEdge) : Type 0 where
  pub place : ℕ × LocationTree
  pub location : Member place (enumerate_from 0 (locs_of a))
  pub edge : Member w.edge place.1.edges
  pub event_use : Member w.event_use w.edge.uses
  pub from : w.from ≡ place.0

pub edge-stands : (a : Component) (w : EventEdge) → Member w (event_edges a) → EdgeStands a w
edge-stands a w m =
    let l = flat-cases (λ (l : ℕ × LocationTree). flat_map (edges_of_uses l.0) l.1.edges) w (enumerate_from 0 (locs_of a)) m in
    let e = flat-cases (edges_of_uses l.0.0) w l.0.1.edges l.2 in
    let u = member-map (λ u. record { from = l.0.0; event_use = u; edge = e.0 }) w e.0.uses e.2 in
    record {
      place = l.0;
      location = l.1;
      edge = subst (λ (v : EventEdge). Member v.edge l.0.1.edges) (sym u.2) e.1;
      event_use = subst (λ (v : EventEdge). Member v.event_use v.edge.uses) (sym u.2) u.1;
      from = ap (λ (v : EventEdge). v.from) u.2;
    }
